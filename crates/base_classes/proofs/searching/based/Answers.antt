use Rattle.item_answers.specs.Asking.{infos}
use Rattle.base_classes.proofs.Following.{based-halts, based-as}
use Rattle.base_classes.proofs.searching.based.Goals as goal

pub returns-in_err-bound : goal.returns-in_err-bound
returns-in_err-bound g c =
    based-halts (infos (g.I.Infos.known c.args.infos.now)) c.args.ty.now c.args.class.now c.in_err-bound.field-0.0 c.from_residual.result _ c.in_err-bound.ensures c.from_residual.ensures.1

pub returns : goal.returns
returns g c = based-as (infos (g.I.Infos.known c.args.infos.now)) c.args.ty.now c.in_ok-bound.bound c.args.class.now c.search.result c.in_ok-bound.ensures c.search.ensures
