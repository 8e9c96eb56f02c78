use Rattle.std.proofs.Common.{◌≡◌, length}
use Rattle.parse_parts.specs.Steps as spec
use Rattle.parse_parts.proofs.steps.settled.Given as goal

abbrev pub invariant-loop-head : goal.invariant-loop-head
invariant-loop-head l = spec.settled l.heads l.end l.tall ≡ spec.settled l.initial.heads l.end l.initial.tall

abbrev pub decreases-loop-head : goal.decreases-loop-head
decreases-loop-head l = length l.heads
