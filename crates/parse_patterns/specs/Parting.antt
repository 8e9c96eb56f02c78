-- What is read at a token: the longest pattern, that there is none, or that it is too high.
use Rattle.std.specs.Prelude.{ℕ, List}
use Rattle.source_grammar.specs.Lexemes.{Lexeme}
use Rattle.source_grammar.specs.Patterns.{IsPattern}
use Rattle.parse_parts.specs.declared.parts.Part.{Part}
use Rattle.parse_parts.specs.Parting.{IsPartAt}

abbrev pub IsPatternAt : List Lexeme → ℕ → Part → Type 0
IsPatternAt = IsPartAt IsPattern
