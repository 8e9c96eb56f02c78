use Rattle.positioned_trees.specs.Trees.{height}
use Rattle.inspect.proofs.showing.+push_tree.Given as goal

abbrev pub decreases-push_tree : goal.decreases-push_tree
decreases-push_tree l = height l.tree.now
