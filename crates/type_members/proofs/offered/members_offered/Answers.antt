use Rattle.item_answers.specs.Asking.{infos}
use Rattle.type_members.specs.Members.{seen_from, members_seen}
use Rattle.type_members.proofs.Asked.{halts, goes_on}
use Rattle.type_members.proofs.offered.members_offered.Goals as goal

pub returns-in_err-view : goal.returns-in_err-view
returns-in_err-view g c =
    halts (infos (g.I.Infos.known c.args.infos.now)) (seen_from c.args.ty.now c.args.offer.now.class) (members_seen c.args.offer.now) c.in_err-view.field-0.0 c.from_residual.result _
    c.in_err-view.ensures c.from_residual.ensures.1

pub returns : goal.returns
returns g c =
    goes_on (infos (g.I.Infos.known c.args.infos.now)) (seen_from c.args.ty.now c.args.offer.now.class) (members_seen c.args.offer.now) c.in_ok-view.view c.members_seen.result
    c.in_ok-view.ensures c.members_seen.ensures
