use Rattle.item_answers.specs.Asking.{infos}
use Rattle.base_classes.specs.BaseTypes.{upper}
use Rattle.type_members.specs.Members.{declared, members_as}
use Rattle.type_members.proofs.Asked.{halts, goes_on}
use Rattle.type_members.proofs.listing.members.Goals as goal

pub returns-in_err-bound : goal.returns-in_err-bound
returns-in_err-bound g c =
    halts (infos (g.I.Infos.known c.args.infos.now)) (upper c.args.ty.now) (members_as (declared (g.W.Owned.owned_by c.args.table.now) (g.W.Owned.flags_of c.args.table.now)))
    c.in_err-bound.field-0.0 c.from_residual.result _ c.in_err-bound.ensures c.from_residual.ensures.1

pub returns : goal.returns
returns g c =
    goes_on (infos (g.I.Infos.known c.args.infos.now)) (upper c.args.ty.now) (members_as (declared (g.W.Owned.owned_by c.args.table.now) (g.W.Owned.flags_of c.args.table.now)))
    c.in_ok-bound.bound c.members_as.result c.in_ok-bound.ensures c.members_as.ensures
