use Rattle.std.proofs.Common.{◌≡◌, ◌≤◌, ◌++◌, length}
use Rattle.class_parents.specs.Parents.{classes_of}
use Rattle.class_parents.specs.Walk.{entering}
use Rattle.class_parents.proofs.walking.push_all_entering.Given as goal

-- the classes that are left and those on the stack are all of them
abbrev pub invariant-loop-rest : goal.invariant-loop-rest
invariant-loop-rest l = (entering (classes_of l.rest) ++ l.todo ≡ entering (classes_of l.types) ++ l.initial.todo) × (length l.rest ≤ length l.types)

abbrev pub decreases-loop-rest : goal.decreases-loop-rest
decreases-loop-rest l = length l.rest
