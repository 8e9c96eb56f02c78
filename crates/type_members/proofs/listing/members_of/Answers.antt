use Rattle.item_answers.specs.Asking.{answer}
use Rattle.type_members.specs.Members as spec
use Rattle.type_members.proofs.listing.members_of.Goals as goal

pub returns : goal.returns
returns g c =
    c.asked.ensures (answer (g.I.Infos.known c.args.infos.now) (spec.members_of (spec.declared (g.W.Owned.owned_by c.args.table.now) (g.W.Owned.flags_of c.args.table.now)) c.args.ty.now)) c.members.ensures
