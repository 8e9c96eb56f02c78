use Rattle.std.proofs.Common.{◌≡◌, length}
use Rattle.expr_tails.specs.Operators as spec
use Rattle.expr_tails.proofs.operators.fold.Given as goal

abbrev pub invariant-loop-alloc : goal.invariant-loop-alloc
invariant-loop-alloc l =
    spec.folded l.operations l.level l.last ≡ spec.folded l.initial.operations l.level l.initial.last

abbrev pub decreases-loop-alloc : goal.decreases-loop-alloc
decreases-loop-alloc l = length l.operations
