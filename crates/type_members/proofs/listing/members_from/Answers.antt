use Rattle.item_answers.specs.Asking.{infos}
use Rattle.type_members.specs.Members.{declared, all_of, members_offered, inherited_members}
use Rattle.type_members.proofs.Asked.{halts-at, known-at, goes_on}
use Rattle.type_members.proofs.listing.members_from.Goals as goal

pub returns-in_err-own : goal.returns-in_err-own
returns-in_err-own g c =
    halts-at (infos (g.I.Infos.known c.args.infos.now)) (members_offered c.args.ty.now) c.in_ok-all.all (all_of (declared (g.W.Owned.owned_by c.args.table.now) (g.W.Owned.flags_of c.args.table.now)) c.args.class.now)
    (inherited_members (declared (g.W.Owned.owned_by c.args.table.now) (g.W.Owned.flags_of c.args.table.now)) c.args.ty.now c.args.others.now) c.in_err-own.field-0.0 c.from_residual-in_err-own.result _
    c.in_ok-all.ensures c.in_err-own.ensures c.from_residual-in_err-own.ensures.1

pub returns : goal.returns
returns g c =
    goes_on (infos (g.I.Infos.known c.args.infos.now)) (members_offered c.args.ty.now (all_of (declared (g.W.Owned.owned_by c.args.table.now) (g.W.Owned.flags_of c.args.table.now)) c.args.class.now)) (inherited_members (declared (g.W.Owned.owned_by c.args.table.now) (g.W.Owned.flags_of c.args.table.now)) c.args.ty.now c.args.others.now)
    c.in_ok-own.own c.inherited_members.result
    (known-at (infos (g.I.Infos.known c.args.infos.now)) (members_offered c.args.ty.now) c.in_ok-all.all (all_of (declared (g.W.Owned.owned_by c.args.table.now) (g.W.Owned.flags_of c.args.table.now)) c.args.class.now) c.in_ok-own.own c.in_ok-all.ensures c.in_ok-own.ensures)
    c.inherited_members.ensures
