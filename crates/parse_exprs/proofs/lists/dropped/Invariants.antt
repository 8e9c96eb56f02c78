use Rattle.std.proofs.Common.{◌≡◌, drop}
use Rattle.parse_exprs.proofs.lists.dropped.Given as goal

abbrev pub invariant-items : goal.invariant-items
invariant-items l = drop l.left l.rest ≡ drop l.initial.left l.initial.rest

abbrev pub decreases-items : goal.decreases-items
decreases-items l = l.left
