use Rattle.std.proofs.Common.{sym, ap, ◌∙◌, []}
use Rattle.item_questions.specs.Questions.{Known}
use Rattle.item_answers.specs.Asking.{answer, infos}
use Rattle.class_parents.specs.Parents.{class_types, classes_of, max_steps, reached}
use Rattle.class_parents.proofs.Following.{followed-cyclic, followed-plain, followed-halts-later}
use Rattle.class_parents.proofs.parents.followed.Goals as goal

pub returns-in_err-seen : goal.returns-in_err-seen
returns-in_err-seen g c =
    followed-halts-later (infos (g.I.Infos.known c.args.infos.now)) c.args.class.now c.in_ok-types.types.now c.as_slice-written.result.now c.in_err-seen.field-0.0
    c.from_residual-in_err-seen.result _ c.in_ok-types.ensures c.as_slice-written.ensures c.in_err-seen.ensures c.from_residual-in_err-seen.ensures.1

pub returns-then-contains : goal.returns-then-contains
returns-then-contains g c =
    followed-cyclic (infos (g.I.Infos.known c.args.infos.now)) c.args.class.now c.in_ok-types.types.now c.in_ok-seen.seen.keys c.in_ok-types.ensures
    (ap (λ xs. answer (g.I.Infos.known c.args.infos.now) (reached max_steps (classes_of xs) [])) (sym c.as_slice-written.ensures) ∙ c.in_ok-seen.ensures)
    (sym c.contains.ensures ∙ c.if-contains.true)
    ∙ ap Known (sym c.in_ok-any_ref_alone.ensures)

pub returns : goal.returns
returns g c =
    followed-plain (infos (g.I.Infos.known c.args.infos.now)) c.args.class.now c.in_ok-types.types.now c.in_ok-seen.seen.keys c.in_ok-types.ensures
    (ap (λ xs. answer (g.I.Infos.known c.args.infos.now) (reached max_steps (classes_of xs) [])) (sym c.as_slice-written.ensures) ∙ c.in_ok-seen.ensures)
    (sym c.contains.ensures ∙ c.if-contains.false)
    ∙ ap Known (sym (c.in_ok-class_types.ensures ∙ ap class_types c.as_slice-written.ensures))
