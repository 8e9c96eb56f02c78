use Rattle.std.proofs.Common.{◌≡◌}
use Rattle.type_members.specs.Members.{declared, kept}
use Rattle.type_members.proofs.overriding.kept.Given as goal

-- those that are kept of the members so far
abbrev pub invariant-loop-member : goal.invariant-loop-member
invariant-loop-member g l = l.kept ≡ kept (declared (g.W.Owned.owned_by l.table) (g.W.Owned.flags_of l.table)) l.initial.kept l.yielded
