use Rattle.std.proofs.Common.{◌≡◌, [], drop}
use Rattle.std.specs.List.{All}
use Rattle.parse_parts.specs.Built.{no_kids}
use Rattle.parse_exprs.specs.Items.{IsItemOf, items_in}
use Rattle.parse_exprs.specs.Lists.{of_items, built_pieces, pieces_by}
use Rattle.parse_exprs.specs.Statements.{statements, built_until}
use Rattle.parse_exprs.proofs.lists.built_pieces.Given as goal

-- the trees so far, and the statements that are left
abbrev pub invariant-loop-cut : goal.invariant-loop-cut
invariant-loop-cut l =
    All (IsItemOf l.text) l.rest
    × (built_pieces of_items statements built_until l.span l.now.kids l.now.free (pieces_by of_items (drop l.cut-index l.cuts) (items_in l.text l.rest))
    ≡ built_pieces of_items statements built_until l.span no_kids [] (pieces_by of_items l.cuts (items_in l.text l.initial.rest)))
