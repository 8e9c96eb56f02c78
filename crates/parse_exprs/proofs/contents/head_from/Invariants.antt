use Rattle.std.proofs.Common.{◌≡◌, ◌+◌, drop}
use Rattle.parse_exprs.specs.Contents.{head_from}
use Rattle.parse_exprs.specs.Items.{items_in}
use Rattle.parse_exprs.proofs.contents.head_from.Given as goal

abbrev pub invariant-loop-item : goal.invariant-loop-item
invariant-loop-item l =
    (l.count ≡ l.initial.count + l.item-index)
    × (head_from l.count l.state (items_in l.text (drop l.item-index l.items)) ≡ head_from l.initial.count l.initial.state (items_in l.text l.items))
