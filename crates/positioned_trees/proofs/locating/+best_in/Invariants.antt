use Rattle.std.proofs.Common.{◌≡◌, ◌+◌, fold, drop}
use Rattle.std.specs.List.{flat_map}
use Rattle.positioned_trees.specs.Trees.{height, placed_from}
use Rattle.positioned_trees.specs.Located as spec
use Rattle.positioned_trees.proofs.locating.+best_in.Given as goal

abbrev pub decreases-best_in : goal.decreases-best_in
decreases-best_in l = height l.tree.now

-- the best so far, and the kids that are left
abbrev pub invariant-loop-kid : goal.invariant-loop-kid
invariant-loop-kid l =
    fold spec.better_of l.best (spec.candidates l.offset (flat_map (placed_from (l.depth + 1)) (drop l.kid-index l.kid-items)))
    ≡ fold spec.better_of l.initial.best (spec.candidates l.offset (flat_map (placed_from (l.depth + 1)) l.kid-items))
