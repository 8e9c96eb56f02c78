-- What is read at a token: the longest part, that there is none, or that it is too high.
use Rattle.std.specs.Prelude.{◌≤◌, ◌-◌, ℕ, List, Option, Some, None}
use Rattle.positioned_trees.specs.Trees.{numbered}
use Rattle.positioned_trees.specs.declared.trees.Tree.{Tree}
use Rattle.source_grammar.specs.Lexemes.{Lexeme}
use Rattle.source_grammar.specs.Reading.{Production, IsRead, IsNotHere, IsTooHigh}
use Rattle.source_grammar.specs.Types.{IsType}
use Rattle.parse_parts.specs.declared.built.Tall.{Tall}
use Rattle.parse_parts.specs.declared.parts.Part.{Part}
use Rattle.parse_parts.specs.declared.parts.Part.TheVariants.{Read, NotHere, TooHigh}

-- these tokens are such a part
pub record IsSomePart (Is : Production) (xs : List Lexeme) : Type 0 where
  pub tree : Tree
  pub is : Is xs tree

-- What is read of a production at token `at`, which is the first of these. A part has the numbers of tokens, and the grammar counts them from
-- `at` on.
abbrev pub IsPartAt : Production → List Lexeme → ℕ → Part → Type 0
IsPartAt Is ts at (Read tree behind) = (at ≤ behind) × IsRead Is ts tree (behind - at)
IsPartAt Is ts at (NotHere bad) = (at ≤ bad) × IsNotHere Is ts (bad - at)
IsPartAt Is ts at (TooHigh behind) = (at ≤ behind) × IsTooHigh Is ts (behind - at)

abbrev pub IsTypeAt : List Lexeme → ℕ → Part → Type 0
IsTypeAt = IsPartAt IsType

-- the part whose tree this is, where it is kept
abbrev pub part_of : Option Tall → ℕ → Part
part_of None behind = TooHigh behind
part_of (Some tall) behind = Read (numbered tall.tree 0).tree behind
