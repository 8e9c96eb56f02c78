use Rattle.std.proofs.Common.{◌≡◌, ◌≤◌, ◌-◌, ◌++◌, drop, length}
use Rattle.parse_exprs.specs.Items.{items_in}
use Rattle.parse_exprs.specs.Lists.{of_items, cuts_behind, divided}
use Rattle.parse_exprs.specs.Statements.{statements, built_until}
use Rattle.parse_exprs.proofs.lists.divided.Given as goal

-- the statements so far, and those that are left
abbrev pub invariant-items : goal.invariant-items
invariant-items l =
    (l.at ≤ length l.items) × (l.skip ≤ l.at)
    × (l.cuts ++ cuts_behind of_items statements built_until 0 l.skip (items_in l.text (drop l.at l.items)) ≡ divided of_items statements built_until (items_in l.text l.items))

abbrev pub decreases-items : goal.decreases-items
decreases-items l = length l.items - l.at
