use Rattle.std.proofs.Common.{◌≡◌, length}
use Rattle.expr_tails.specs.Operators as spec
use Rattle.expr_tails.proofs.operators.settled.Given as goal

abbrev pub invariant-loop-waiting : goal.invariant-loop-waiting
invariant-loop-waiting l = spec.settled l.operations l.last ≡ spec.settled l.initial.operations l.initial.last

abbrev pub decreases-loop-waiting : goal.decreases-loop-waiting
decreases-loop-waiting l = length l.operations
