use Rattle.std.proofs.Common.{◌≡◌, ◌++◌, drop}
use Rattle.std.specs.List.{flat_map}
use Rattle.transcript.specs.Printed.{member_line}
use Rattle.transcript.proofs.answers.push_members.Given as goal

-- what is written so far, and the members that are left
abbrev pub invariant-loop-member : goal.invariant-loop-member
invariant-loop-member l = l.text ++ flat_map member_line (drop l.member-index l.members) ≡ l.initial.text ++ flat_map member_line l.members
