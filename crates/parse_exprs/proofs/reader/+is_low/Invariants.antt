use Rattle.std.proofs.Common.{◌-◌, ◌≤◌, take}
use Rattle.positioned_trees.specs.Trees.{height, highest}
use Rattle.parse_exprs.proofs.reader.+is_low.Given as goal

abbrev pub decreases-is_low : goal.decreases-is_low
decreases-is_low l = height l.tree.now

abbrev pub invariant-loop-kid : goal.invariant-loop-kid
invariant-loop-kid l = highest (take l.kid-index l.kid-items) ≤ l.room - 1
