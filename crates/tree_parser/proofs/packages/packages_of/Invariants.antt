use Rattle.std.proofs.Common.{◌≡◌, ◌-◌, ◌≤◌, length, map}
use Rattle.source_grammar.specs.Lexemes.{lexeme_of}
use Rattle.parse_parts.specs.Built.{no_kids}
use Rattle.tree_parser.specs.Packaged.{packages_by}
use Rattle.tree_parser.proofs.packages.packages_of.Given as goal

-- the clauses that stand from here on come to the same
abbrev pub invariant-loop-count : goal.invariant-loop-count
invariant-loop-count l =
    (l.at ≤ length l.tokens)
    × (packages_by (length l.tokens - l._count) (map (lexeme_of l.text) l.tokens) l.at l.kids
    ≡ packages_by (length l.tokens) (map (lexeme_of l.text) l.tokens) 0 no_kids)
