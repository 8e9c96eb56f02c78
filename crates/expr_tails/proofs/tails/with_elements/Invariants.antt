use Rattle.std.proofs.Common.{◌≡◌}
use Rattle.expr_tails.specs.Tails.{with_elements}
use Rattle.expr_tails.proofs.tails.with_elements.Given as goal

abbrev pub invariant-loop-element : goal.invariant-loop-element
invariant-loop-element l = l.so_far ≡ with_elements l.initial.so_far l.yielded
