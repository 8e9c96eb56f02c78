use Rattle.std.proofs.Common.{◌≡◌, ◌++◌, length}
use Rattle.parse_exprs.proofs.contents.unstacked.Given as goal

abbrev pub invariant-loop-item : goal.invariant-loop-item
invariant-loop-item l = l.items ++ l.rest ≡ l.initial.rest

abbrev pub decreases-loop-item : goal.decreases-loop-item
decreases-loop-item l = length l.rest
