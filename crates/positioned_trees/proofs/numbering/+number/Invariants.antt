use Rattle.positioned_trees.specs.Trees.{height}
use Rattle.positioned_trees.proofs.Numbers.{Numbering}
use Rattle.positioned_trees.proofs.numbering.+number.Given as goal

abbrev pub decreases-number : goal.decreases-number
decreases-number l = height l.tree.now

abbrev pub invariant-loop-kid : goal.invariant-loop-kid
invariant-loop-kid l = Numbering l.initial.kid-items l.kid-items l.initial.next l.kid-index l.next
