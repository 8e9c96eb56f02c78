use Rattle.std.proofs.Common.{◌≡◌, ◌++◌}
use Rattle.expr_tails.proofs.tails.with_spans.Given as goal

abbrev pub invariant-loop-span : goal.invariant-loop-span
invariant-loop-span l = l.spans ≡ l.initial.spans ++ l.yielded
