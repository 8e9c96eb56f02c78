use Rattle.std.proofs.Common.{◌≡◌, drop}
use Rattle.compiler_loop.specs.ThinAnswer.{best_of, val_trees}
use Rattle.compiler_loop.proofs.thin.locating.best_of_vals.Given as goal

-- the best so far, against the trees that are left
abbrev pub invariant-loop-n : goal.invariant-loop-n
invariant-loop-n l = best_of l.offset l.best (val_trees l.n (drop l.n l.vals)) ≡ best_of l.offset l.initial.best (val_trees 0 l.vals)
