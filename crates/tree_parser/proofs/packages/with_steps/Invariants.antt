use Rattle.std.proofs.Common.{◌≡◌, ◌+◌, ◌*◌, ◌++◌, ◌≤◌, length, map}
use Rattle.std.specs.List.{All}
use Rattle.parse_parts.specs.Words.{IsCut}
use Rattle.source_grammar.specs.Lexemes.{lexeme_of}
use Rattle.tree_parser.specs.Packaged.{names_in}
use Rattle.tree_parser.proofs.packages.with_steps.Given as goal

-- the names of the steps that are left, behind those so far
abbrev pub invariant-path : goal.invariant-path
invariant-path l =
    All (IsCut l.text) l.rest × (2 * length l.names + length l.rest ≤ 2 * length l.initial.names + length l.tokens)
    × (l.names ++ names_in (map (lexeme_of l.text) l.rest) ≡ l.initial.names ++ names_in (map (lexeme_of l.text) l.tokens))

abbrev pub decreases-path : goal.decreases-path
decreases-path l = length l.rest
