use Rattle.item_answers.specs.Asking.{infos, each}
use Rattle.type_members.specs.Members.{member_of}
use Rattle.type_members.proofs.Asked.{AreAsked}
use Rattle.type_members.proofs.offered.members_seen.Given as goal

abbrev pub invariant-loop-path : goal.invariant-loop-path
invariant-loop-path g l = AreAsked (infos (g.I.Infos.known l.infos)) (each (member_of l.offer.class l.view)) l.path-items l.members l.path-index
