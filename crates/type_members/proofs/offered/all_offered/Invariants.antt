use Rattle.item_answers.specs.Asking.{infos}
use Rattle.type_members.specs.Members.{all_offered}
use Rattle.type_members.proofs.Asked.{AreAsked}
use Rattle.type_members.proofs.offered.all_offered.Given as goal

abbrev pub invariant-loop-offer : goal.invariant-loop-offer
invariant-loop-offer g l = AreAsked (infos (g.I.Infos.known l.infos)) (all_offered l.ty) l.offers l.members l.offer-index
