-- The height of a tree, layer by layer.
use Rattle.std.proofs.Common.{◌≡◌, ℕ, zero, suc, ◌+◌, ◌<◌, ◌≤◌, max, List, [], ◌∷◌, ◌++◌, length, get_or, arith}
use Rattle.positioned_trees.specs.Trees.{height_step, height, highest}
use Rattle.positioned_trees.specs.declared.trees.Tree.{Tree}
use Rattle.positioned_trees.specs.declared.trees.Tree.TheOpen.{Tree-F}
use Rattle.positioned_trees.specs.declared.trees.Tree.TheViews.{out-Tree, roll-Tree}
use Rattle.positioned_trees.specs.declared.trees.Tree.TheFolds.{fold-roll-Tree, fold_out-Tree}

pub height-roll : (layer : Tree-F Tree) → height (roll-Tree layer) ≡ highest layer.kids + 1
unfolding height
height-roll layer = fold-roll-Tree ℕ height_step layer

pub height-out : (tree : Tree) → height tree ≡ highest (out-Tree tree).kids + 1
unfolding height
height-out tree = fold_out-Tree ℕ height_step tree

pub highest-append : (first second : List Tree) → highest (first ++ second) ≡ max (highest first) (highest second)
highest-append [] second = omega arith
highest-append (tree ∷ first) second = omega (arith, highest-append first second)

pub highest-push : (trees : List Tree) (tree : Tree) → highest (trees ++ tree ∷ []) ≡ max (highest trees) (height tree)
highest-push [] tree = omega arith
highest-push (t ∷ ts) tree = omega (arith, highest-push ts tree)

pub height-get_or : (trees : List Tree) (at : ℕ) (d : Tree) → at < length trees → height (get_or trees at d) ≤ highest trees
height-get_or [] at d within = absurd (omega (arith, within))
height-get_or (t ∷ ts) zero d within = omega arith
height-get_or (t ∷ ts) (suc at) d within = omega (arith, height-get_or ts at d (omega (arith, within)))
