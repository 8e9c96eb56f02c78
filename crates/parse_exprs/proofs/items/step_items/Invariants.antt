use Rattle.std.proofs.Common.{◌≡◌, length}
use Rattle.std.specs.List.{All}
use Rattle.reading_machines.specs.Machines.{run}
use Rattle.expr_steps.specs.Reading.{stepped}
use Rattle.parse_exprs.specs.Items.{IsItemOf, items_in}
use Rattle.parse_exprs.proofs.items.step_items.Given as goal

-- the items that are left lead to the same
abbrev pub invariant-items : goal.invariant-items
invariant-items l =
    All (IsItemOf l.text) l.rest
    × (run stepped (items_in l.text l.rest) l.state ≡ run stepped (items_in l.text l.initial.rest) l.initial.state)

abbrev pub decreases-items : goal.decreases-items
decreases-items l = length l.rest
