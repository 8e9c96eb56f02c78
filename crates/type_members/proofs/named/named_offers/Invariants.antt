use Rattle.std.proofs.Common.{◌≡◌, ◌++◌, map, take}
use Rattle.std.specs.List.{filter}
use Rattle.type_members.specs.Members.{declared}
use Rattle.type_members.specs.Named.{is_offer, inherited_named}
use Rattle.type_members.proofs.named.named_offers.Given as goal

-- what the classes so far offer, where it is anything
abbrev pub invariant-loop-class : goal.invariant-loop-class
invariant-loop-class g l =
    let definitions = declared (g.W.Owned.owned_by l.table) (g.W.Owned.flags_of l.table) in
    l.offers ≡ l.initial.offers ++ filter is_offer (map (inherited_named definitions l.name l.space) (take l.class-index l.others))
