use Rattle.std.proofs.Common.{◌≡◌, ◌++◌}
use Rattle.type_members.proofs.offered.push_all.Given as goal

-- the members so far are behind the old ones
abbrev pub invariant-loop-member : goal.invariant-loop-member
invariant-loop-member l = l.members ≡ l.initial.members ++ l.yielded
