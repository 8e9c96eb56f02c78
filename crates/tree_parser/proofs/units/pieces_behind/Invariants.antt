use Rattle.std.proofs.Common.{◌≡◌, drop, map}
use Rattle.source_grammar.specs.Lexemes.{lexeme_of}
use Rattle.tree_parser.specs.Levels.{AreLevelsOf, levels_in, begun, steps}
use Rattle.tree_parser.proofs.units.pieces_behind.Given as goal

-- the levels, over the tokens that are left, come to the same
abbrev pub invariant-loop-at : goal.invariant-loop-at
invariant-loop-at l =
    AreLevelsOf l.text l.levels
    × (steps (map (lexeme_of l.text) l.tokens) (levels_in l.text l.levels) l.at (drop l.at (map (lexeme_of l.text) l.tokens))
    ≡ steps (map (lexeme_of l.text) l.tokens) begun l.start (drop l.start (map (lexeme_of l.text) l.tokens)))
