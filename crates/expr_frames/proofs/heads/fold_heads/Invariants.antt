use Rattle.std.proofs.Common.{◌≡◌, length}
use Rattle.expr_frames.specs.Heads as spec
use Rattle.expr_frames.proofs.heads.fold_heads.Given as goal

abbrev pub invariant-loop-head : goal.invariant-loop-head
invariant-loop-head l = spec.taken l.heads l.word l.body ≡ spec.taken l.initial.heads l.word l.initial.body

abbrev pub decreases-loop-head : goal.decreases-loop-head
decreases-loop-head l = length l.heads
