use Rattle.std.proofs.Common.{reverse, sym, ap, ◌∙◌}
use Rattle.item_questions.specs.Questions.{Known}
use Rattle.item_answers.specs.Asking.{infos}
use Rattle.class_parents.specs.Parents.{max_steps}
use Rattle.class_parents.proofs.Visits.{lined-stops}
use Rattle.class_parents.proofs.Walks.{walk-known}
use Rattle.class_parents.proofs.linearisation.linearised.Goals as goal

pub returns-in_err-found : goal.returns-in_err-found
returns-in_err-found g c =
    lined-stops (infos (g.I.Infos.known c.args.infos.now)) max_steps c.args.class.now c.in_err-found.field-0.0 c.from_residual.result _ c.in_err-found.ensures c.from_residual.ensures.1

pub returns : goal.returns
returns g c =
    walk-known (infos (g.I.Infos.known c.args.infos.now)) max_steps c.args.class.now (reverse c.in_ok-found.found.keys) c.in_ok-found.ensures
    ∙ ap Known (sym (c.in_ok-reversed.ensures ∙ ap reverse c.as_slice.ensures.keys))
