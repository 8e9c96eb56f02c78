use Rattle.std.proofs.Common.{◌≡◌, ◌≤◌, ◌-◌, ◌++◌, drop, length}
use Rattle.parse_exprs.specs.Lists.{cuts_behind, divided}
use Rattle.template_steps.specs.Pieces.{of_parts, parts_in}
use Rattle.template_steps.specs.Statements.{statements, built_until}
use Rattle.tree_parser.proofs.lists.divided.Given as goal

-- the statements so far, and those that are left
abbrev pub invariant-pieces : goal.invariant-pieces
invariant-pieces l =
    (l.at ≤ length l.pieces) × (l.skip ≤ l.at)
    × (l.cuts ++ cuts_behind of_parts (statements l.kind) built_until 0 l.skip (parts_in l.text (drop l.at l.pieces))
    ≡ divided of_parts (statements l.kind) built_until (parts_in l.text l.pieces))

abbrev pub decreases-pieces : goal.decreases-pieces
decreases-pieces l = length l.pieces - l.at
