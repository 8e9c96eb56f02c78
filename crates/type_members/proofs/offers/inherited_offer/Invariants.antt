use Rattle.std.proofs.Common.{◌≡◌, take}
use Rattle.std.specs.List.{filter}
use Rattle.type_members.specs.Members.{declared, is_inherited}
use Rattle.type_members.proofs.offers.inherited_offer.Given as goal

-- the members so far, as far as they are offered
abbrev pub invariant-loop-path : goal.invariant-loop-path
invariant-loop-path g l = l.paths ≡ filter (is_inherited (declared (g.W.Owned.owned_by l.table) (g.W.Owned.flags_of l.table))) (take l.path-index l.path-items)
