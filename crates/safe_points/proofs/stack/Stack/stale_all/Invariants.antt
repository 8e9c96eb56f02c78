use Rattle.std.proofs.Common.{◌≡◌, ◌++◌, map, take, drop}
use Rattle.safe_points.specs.Stack.{marked}
use Rattle.safe_points.proofs.stack.Stack.stale_all.Given as goal

abbrev pub invariant-loop-ticketed : goal.invariant-loop-ticketed
invariant-loop-ticketed g l = l.ticketed-items ≡ map marked (take l.ticketed-index l.initial.ticketed-items) ++ drop l.ticketed-index l.initial.ticketed-items
