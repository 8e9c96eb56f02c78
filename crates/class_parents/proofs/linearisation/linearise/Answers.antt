use Rattle.item_answers.specs.Asking.{answer}
use Rattle.class_parents.specs.Linearisation.{linearisation}
use Rattle.class_parents.proofs.linearisation.linearise.Goals as goal

pub returns : goal.returns
returns g c = c.asked.ensures (answer (g.I.Infos.known c.args.infos.now) (linearisation c.args.class.now)) c.linearised.ensures
