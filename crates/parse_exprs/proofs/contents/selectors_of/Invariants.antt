use Rattle.std.proofs.Common.{◌≡◌, drop}
use Rattle.import_steps.specs.Imports.{selectors_begun}
use Rattle.parse_exprs.specs.Contents.{selectors_from}
use Rattle.parse_exprs.specs.Items.{items_in}
use Rattle.parse_exprs.proofs.contents.selectors_of.Given as goal

abbrev pub invariant-loop-item : goal.invariant-loop-item
invariant-loop-item l =
    selectors_from l.selectors (items_in l.text (drop l.item-index l.items)) ≡ selectors_from selectors_begun (items_in l.text l.items)
