use Rattle.std.proofs.Common.{◌≡◌, ◌++◌}
use Rattle.tree_lower.proofs.trees.appended.Given as goal

abbrev pub invariant-loop-tree : goal.invariant-loop-tree
invariant-loop-tree l = l.trees ≡ l.initial.trees ++ l.yielded
