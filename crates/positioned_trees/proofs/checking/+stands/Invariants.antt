use Rattle.std.proofs.Common.{◌-◌, take}
use Rattle.std.specs.List.{All}
use Rattle.positioned_trees.specs.Trees.{height}
use Rattle.positioned_trees.proofs.Standing.{StandsIn}
use Rattle.positioned_trees.proofs.checking.+stands.Given as goal

abbrev pub decreases-stands : goal.decreases-stands
decreases-stands l = height l.tree.now

abbrev pub invariant-loop-kid : goal.invariant-loop-kid
invariant-loop-kid l = All (StandsIn l.tree (l.room - 1)) (take l.kid-index l.kid-items)
