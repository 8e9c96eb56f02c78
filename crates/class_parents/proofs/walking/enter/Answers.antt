use Rattle.std.proofs.Common.{sym, ◌∙◌}
use Rattle.item_answers.specs.Asking.{answer}
use Rattle.class_parents.specs.Parents.{followed}
use Rattle.class_parents.proofs.Visits.{passes-seen, enter-stops, enters-new}
use Rattle.class_parents.proofs.walking.enter.Goals as goal

pub returns-then-contains : goal.returns-then-contains
returns-then-contains g c =
    passes-seen (λ k. answer (g.I.Infos.known c.args.infos.now) (followed k)) c.args.class c.args.todo.now c.args.found.now.keys (sym c.contains.ensures ∙ c.if-contains.true)

pub returns-in_err-types : goal.returns-in_err-types
returns-in_err-types g c =
    enter-stops (λ k. answer (g.I.Infos.known c.args.infos.now) (followed k)) c.args.class c.args.todo.now c.args.found.now.keys c.in_err-types.field-0.0 c.from_residual.result _
    (sym c.contains.ensures ∙ c.if-contains.false) c.in_err-types.ensures c.from_residual.ensures.1

pub returns : goal.returns
returns g c =
    enters-new (λ k. answer (g.I.Infos.known c.args.infos.now) (followed k)) c.args.class c.args.todo.now c.args.found.now.keys c.in_ok-types.types c.as_slice.result.now
    c.push.new.self c.push_all_entering.new.todo (sym c.contains.ensures ∙ c.if-contains.false) c.in_ok-types.ensures c.as_slice.ensures c.in_ok-push.ensures c.in_ok-push_all_entering.ensures
