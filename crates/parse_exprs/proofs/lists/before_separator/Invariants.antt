use Rattle.std.proofs.Common.{◌≡◌, ◌+◌, ◌≤◌, drop}
use Rattle.parse_exprs.specs.Items.{items_in}
use Rattle.parse_exprs.specs.Lists.{of_items, before_separator}
use Rattle.parse_exprs.proofs.lists.before_separator.Given as goal

abbrev pub invariant-loop-item : goal.invariant-loop-item
invariant-loop-item l =
    (l.count ≡ l.item-index) × (l.depth ≤ l.initial.depth + l.item-index)
    × (l.count + before_separator of_items l.depth (items_in l.text (drop l.item-index l.items)) ≡ before_separator of_items l.initial.depth (items_in l.text l.items))
