use Rattle.item_answers.specs.Asking.{infos}
use Rattle.base_classes.proofs.Following.{parents-halt, parents-plain, parents-with}
use Rattle.base_classes.proofs.searching.parents_as.Goals as goal

pub returns-in_err-types : goal.returns-in_err-types
returns-in_err-types g c =
    parents-halt (infos (g.I.Infos.known c.args.infos.now)) c.args.class.now c.args.ty.now c.in_err-types.field-0.0 c.from_residual.result _ c.in_err-types.ensures c.from_residual.ensures.1

pub returns-in-Some : goal.returns-in-Some
returns-in-Some g c =
    parents-with (infos (g.I.Infos.known c.args.infos.now)) c.args.class.now c.args.ty.now c.in_ok-types.types c.in-Some.args.now c.with_args.result c.in_ok-types.ensures c.in-Some.ensures c.with_args.ensures

pub returns-in-None : goal.returns-in-None
returns-in-None g c = parents-plain (infos (g.I.Infos.known c.args.infos.now)) c.args.class.now c.args.ty.now c.in_ok-types.types c.in_ok-types.ensures c.in-None.ensures
