use Rattle.std.proofs.Common.{◌≡◌, map, take}
use Rattle.positioned_trees.specs.Trees.{height}
use Rattle.source_grammar.specs.Comprehensions.{hidden}
use Rattle.tree_lower.proofs.copies.+hidden.Given as goal

abbrev pub decreases-hidden : goal.decreases-hidden
decreases-hidden l = height l.tree.now

abbrev pub invariant-loop-kid : goal.invariant-loop-kid
invariant-loop-kid l = l.kids ≡ map hidden (take l.kid-index l.kid-items)
