use Rattle.item_answers.specs.Asking.{answer}
use Rattle.base_classes.specs.BaseTypes as spec
use Rattle.base_classes.proofs.searching.base_type.Goals as goal

pub returns : goal.returns
returns g c = c.asked.ensures (answer (g.I.Infos.known c.args.infos.now) (spec.base_type c.args.ty.now c.args.class.now)) c.based.ensures
