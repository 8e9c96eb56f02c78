use Rattle.std.proofs.Common.{◌≡◌, ◌++◌, length, reverse}
use Rattle.class_parents.proofs.linearisation.reversed.Given as goal

-- the copies, with what is left, are all of them
abbrev pub invariant-loop-rest : goal.invariant-loop-rest
invariant-loop-rest l = l.copies ++ reverse l.rest ≡ reverse l.paths

abbrev pub decreases-loop-rest : goal.decreases-loop-rest
decreases-loop-rest l = length l.rest
