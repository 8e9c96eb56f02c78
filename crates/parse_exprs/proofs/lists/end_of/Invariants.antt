use Rattle.std.proofs.Common.{◌≡◌, drop, map}
use Rattle.parse_exprs.specs.Items.{span_of}
use Rattle.parse_exprs.specs.Lists.{end_of}
use Rattle.parse_exprs.proofs.lists.end_of.Given as goal

abbrev pub invariant-loop-item : goal.invariant-loop-item
invariant-loop-item l = end_of l.end (map span_of (drop l.item-index l.items)) ≡ end_of l.initial.end (map span_of l.items)
