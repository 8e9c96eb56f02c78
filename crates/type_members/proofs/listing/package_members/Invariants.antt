use Rattle.item_answers.specs.Asking.{infos, each}
use Rattle.type_members.specs.Members.{package_member}
use Rattle.type_members.proofs.Asked.{AreAsked}
use Rattle.type_members.proofs.listing.package_members.Given as goal

abbrev pub invariant-loop-path : goal.invariant-loop-path
invariant-loop-path g l = AreAsked (infos (g.I.Infos.known l.infos)) (each (package_member l.holder)) l.paths l.members l.path-index
