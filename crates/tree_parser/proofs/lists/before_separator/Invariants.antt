use Rattle.std.proofs.Common.{◌≡◌, ◌+◌, ◌≤◌, drop}
use Rattle.parse_exprs.specs.Lists.{before_separator}
use Rattle.template_steps.specs.Pieces.{of_parts, parts_in}
use Rattle.tree_parser.proofs.lists.before_separator.Given as goal

abbrev pub invariant-loop-piece : goal.invariant-loop-piece
invariant-loop-piece l =
    (l.count ≡ l.piece-index) × (l.depth ≤ l.initial.depth + l.piece-index)
    × (l.count + before_separator of_parts l.depth (parts_in l.text (drop l.piece-index l.pieces))
    ≡ before_separator of_parts l.initial.depth (parts_in l.text l.pieces))
