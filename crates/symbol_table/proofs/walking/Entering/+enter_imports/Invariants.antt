use Rattle.std.proofs.Common.{◌≡◌, ◌++◌, take}
use Rattle.std.specs.List.{flat_map}
use Rattle.positioned_trees.specs.Trees.{all_trees, height}
use Rattle.positioned_trees.specs.declared.trees.Tree.{Tree}
use Rattle.symbol_table.specs.Items.{tree_qualifiers}
use Rattle.symbol_table.proofs.walking.Entering.+enter_imports.Given as goal

abbrev pub decreases-enter_imports : goal.decreases-enter_imports
decreases-enter_imports l = height l.tree.now

-- the imports of the kids so far are entered
abbrev pub invariant-loop-kid : goal.invariant-loop-kid
invariant-loop-kid l =
    l.self ≡ record l.initial.self { qualifiers = l.initial.self.qualifiers ++ flat_map (λ (tree : Tree). flat_map (tree_qualifiers l.name) (all_trees tree)) (take l.kid-index l.kid-items) }
