use Rattle.std.proofs.Common.{◌≡◌, take}
use Rattle.std.specs.List.{filter}
use Rattle.type_members.specs.Members.{is_member}
use Rattle.type_members.proofs.offers.own_offer.Given as goal

-- the members so far, as far as they are offered
abbrev pub invariant-loop-path : goal.invariant-loop-path
invariant-loop-path g l = l.paths ≡ filter is_member (take l.path-index l.path-items)
