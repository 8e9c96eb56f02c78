use Rattle.std.proofs.Common.{◌≡◌, length}
use Rattle.tree_lower.specs.Comprehending as spec
use Rattle.tree_lower.proofs.comprehensions.filtered.Given as goal

abbrev pub invariant-loop-guard : goal.invariant-loop-guard
invariant-loop-guard l = spec.filtered l.receiver l.copy l.guards ≡ spec.filtered l.initial.receiver l.copy l.initial.guards

abbrev pub decreases-loop-guard : goal.decreases-loop-guard
decreases-loop-guard l = length l.guards
