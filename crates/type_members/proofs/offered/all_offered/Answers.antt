use Rattle.item_answers.specs.Asking.{infos}
use Rattle.type_members.specs.Members.{all_offered}
use Rattle.type_members.proofs.Asked.{asked-on, asked-halts, offered-begins, offered-stops}
use Rattle.type_members.proofs.offered.all_offered.Goals as goal

pub loop-offer-preserved : goal.loop-offer-preserved
loop-offer-preserved g c =
    asked-on (infos (g.I.Infos.known c.args.infos.now)) (all_offered c.args.ty.now) c.args.offers.now c.loop-offer.members c.loop-offer.offer-index
    c.offer-item.result c.in_ok-members_offered.field-0 c.push_all.new.members c.loop-offer-test.true c.offer-item.is
    (offered-begins (infos (g.I.Infos.known c.args.infos.now)) c.args.ty.now c.offer-item.result c.in_ok-members_offered.field-0 c.in_ok-members_offered.ensures)
    c.in_ok-push_all.ensures c.loop-offer.invariant

pub returns-in_err-members_offered : goal.returns-in_err-members_offered
returns-in_err-members_offered g c =
    asked-halts (infos (g.I.Infos.known c.args.infos.now)) (all_offered c.args.ty.now) c.args.offers.now c.loop-offer.members c.loop-offer.offer-index
    c.offer-item.result c.in_err-members_offered.field-0.0 c.from_residual.result _ c.loop-offer-test.true c.offer-item.is
    (offered-stops (infos (g.I.Infos.known c.args.infos.now)) c.args.ty.now c.offer-item.result c.in_err-members_offered.field-0.0 c.in_err-members_offered.ensures)
    c.loop-offer.invariant c.from_residual.ensures.1
