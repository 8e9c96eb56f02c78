use Rattle.std.proofs.Common.{◌≡◌, false, take}
use Rattle.std.specs.List.{list_any}
use Rattle.type_members.specs.Members.{declared, is_hidden_by}
use Rattle.type_members.proofs.overriding.is_hidden.Given as goal

-- none so far hides it
abbrev pub invariant-loop-earlier : goal.invariant-loop-earlier
invariant-loop-earlier g l =
    list_any (is_hidden_by (declared (g.W.Owned.owned_by l.table) (g.W.Owned.flags_of l.table)) l.later) (take l.earlier-index l.kept) ≡ false
