use Rattle.item_answers.specs.Asking.{infos}
use Rattle.class_parents.specs.Linearisation.{linearisation}
use Rattle.type_members.specs.Members.{declared, members_along}
use Rattle.type_members.proofs.Asked.{halts, goes_on, tells-at}
use Rattle.type_members.proofs.listing.template_members.Goals as goal

pub returns-in_err-classes : goal.returns-in_err-classes
returns-in_err-classes g c =
    halts (infos (g.I.Infos.known c.args.infos.now)) (linearisation c.args.class.now)
    (members_along (declared (g.W.Owned.owned_by c.args.table.now) (g.W.Owned.flags_of c.args.table.now)) c.args.ty.now)
    c.in_err-classes.field-0.0 c.from_residual.result _ c.in_err-classes.ensures c.from_residual.ensures.1

pub returns : goal.returns
returns g c =
    goes_on (infos (g.I.Infos.known c.args.infos.now)) (linearisation c.args.class.now) (members_along (declared (g.W.Owned.owned_by c.args.table.now) (g.W.Owned.flags_of c.args.table.now)) c.args.ty.now) c.in_ok-classes.classes c.members_along.result c.in_ok-classes.ensures
    (tells-at (infos (g.I.Infos.known c.args.infos.now)) (members_along (declared (g.W.Owned.owned_by c.args.table.now) (g.W.Owned.flags_of c.args.table.now)) c.args.ty.now) c.as_slice.result.now c.in_ok-classes.classes c.members_along.result c.as_slice.ensures c.members_along.ensures)
