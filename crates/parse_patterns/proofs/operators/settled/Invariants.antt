use Rattle.std.proofs.Common.{◌≡◌, length}
use Rattle.parse_patterns.specs.Operators as spec
use Rattle.parse_patterns.proofs.operators.settled.Given as goal

abbrev pub invariant-loop-operation : goal.invariant-loop-operation
invariant-loop-operation l = spec.settled l.operations l.last ≡ spec.settled l.initial.operations l.initial.last

abbrev pub decreases-loop-operation : goal.decreases-loop-operation
decreases-loop-operation l = length l.operations
