use Rattle.std.proofs.Common.{◌≡◌, length}
use Rattle.expr_tails.specs.Ending as spec
use Rattle.expr_tails.proofs.ending.expr_at.Given as goal

abbrev pub invariant-loop-head : goal.invariant-loop-head
invariant-loop-head l = spec.headed_all l.heads l.ready ≡ spec.headed_all l.initial.heads l.initial.ready

abbrev pub decreases-loop-head : goal.decreases-loop-head
decreases-loop-head l = length l.heads
