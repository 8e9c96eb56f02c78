use Rattle.std.proofs.Common.{◌≡◌, map, take}
use Rattle.type_members.specs.Members.{declared, inherited_from}
use Rattle.type_members.proofs.offers.inherited_offers.Given as goal

abbrev pub invariant-loop-class : goal.invariant-loop-class
invariant-loop-class g l = l.offers ≡ map (inherited_from (declared (g.W.Owned.owned_by l.table) (g.W.Owned.flags_of l.table))) (take l.class-index l.classes)
