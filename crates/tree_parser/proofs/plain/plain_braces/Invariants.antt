use Rattle.std.proofs.Common.{◌≡◌, drop, map}
use Rattle.source_grammar.specs.Lexemes.{lexeme_of}
use Rattle.tree_parser.specs.Plain.{AreLevelsOf, levels_in, braces_from, plain_braces}
use Rattle.tree_parser.proofs.plain.plain_braces.Given as goal

abbrev pub invariant-loop-token : goal.invariant-loop-token
invariant-loop-token l =
    AreLevelsOf l.text l.levels
    × (braces_from (levels_in l.text l.levels) (map (lexeme_of l.text) (drop l.token-index l.rest))
    ≡ plain_braces l.fn.opening (map (lexeme_of l.text) l.tokens))
