use Rattle.std.proofs.Common.{◌≡◌}
use Rattle.type_members.specs.Named.{paths_of}
use Rattle.type_members.proofs.named.paths_of.Given as goal

-- the paths of the members so far
abbrev pub invariant-loop-member : goal.invariant-loop-member
invariant-loop-member l = l.paths ≡ paths_of l.yielded
