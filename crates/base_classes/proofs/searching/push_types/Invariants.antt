use Rattle.std.proofs.Common.{◌≡◌, ◌++◌, length}
use Rattle.base_classes.proofs.searching.push_types.Given as goal

-- the types that are left and those on the stack are all of them
abbrev pub invariant-loop-last : goal.invariant-loop-last
invariant-loop-last l = l.types ++ l.todo ≡ l.initial.types ++ l.initial.todo

abbrev pub decreases-loop-last : goal.decreases-loop-last
decreases-loop-last l = length l.types
