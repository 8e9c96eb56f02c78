use Rattle.std.proofs.Common.{◌≡◌, Option, [], drop}
use Rattle.std.specs.List.{All}
use Rattle.pc_terms.specs.declared.problems.Span.{Span}
use Rattle.parse_parts.specs.Built.{no_kids}
use Rattle.parse_exprs.specs.Lists.{built_pieces, pieces_by}
use Rattle.template_steps.specs.Pieces.{IsPieceOf, of_parts, parts_in}
use Rattle.template_steps.specs.Statements.{statements, built_until}
use Rattle.tree_parser.proofs.lists.built_pieces.Given as goal

-- the trees so far, and the statements that are left
abbrev pub invariant-loop-cut : goal.invariant-loop-cut
invariant-loop-cut l =
    All (IsPieceOf l.text) l.rest
    × ((span : Option Span) → built_pieces of_parts (statements l.kind) built_until span l.kids [] (pieces_by of_parts (drop l.cut-index l.cuts) (parts_in l.text l.rest))
    ≡ built_pieces of_parts (statements l.kind) built_until span no_kids [] (pieces_by of_parts l.cuts (parts_in l.text l.initial.rest)))
