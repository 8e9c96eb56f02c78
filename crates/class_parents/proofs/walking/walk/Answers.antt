use Rattle.std.proofs.Common.{[], ◌∷◌}
use Rattle.item_answers.specs.Asking.{answer}
use Rattle.class_parents.specs.Parents.{followed, max_steps}
use Rattle.class_parents.specs.Walk.{walked}
use Rattle.class_parents.specs.declared.walking.Visit.TheVariants.{Enter}
use Rattle.class_parents.proofs.Visits.{walk-on, walk-breaks, walk-ends}
use Rattle.class_parents.proofs.walking.walk.Goals as goal

pub returns-in_err-take_step-in-Some : goal.returns-in_err-take_step-in-Some
returns-in_err-take_step-in-Some g c =
    walk-breaks (λ k. answer (g.I.Infos.known c.args.infos.now) (followed k)) c.loop-step._step (walked (λ k. answer (g.I.Infos.known c.args.infos.now) (followed k)) max_steps (Enter c.args.class.now ∷ []) []) c.loop-step.todo c.loop-step.found.keys
    c.in-Some.next c.pop.new.self c.in_err-take_step-in-Some.field-0.0 c.from_residual-in_err-take_step-in-Some.result _
    c.loop-step-test.true c.in-Some.ensures c.in_err-take_step-in-Some.ensures c.loop-step.invariant c.from_residual-in_err-take_step-in-Some.ensures.1

pub returns-in-None : goal.returns-in-None
returns-in-None g c =
    walk-ends (λ k. answer (g.I.Infos.known c.args.infos.now) (followed k)) c.loop-step._step (walked (λ k. answer (g.I.Infos.known c.args.infos.now) (followed k)) max_steps (Enter c.args.class.now ∷ []) []) c.loop-step.todo c.loop-step.found.keys
    c.loop-step-test.true c.in-None.ensures.0 c.loop-step.invariant

pub loop-step-preserved : goal.loop-step-preserved
loop-step-preserved g c =
    walk-on (λ k. answer (g.I.Infos.known c.args.infos.now) (followed k)) c.loop-step._step (walked (λ k. answer (g.I.Infos.known c.args.infos.now) (followed k)) max_steps (Enter c.args.class.now ∷ []) []) c.loop-step.todo c.loop-step.found.keys
    c.in-Some.next c.pop.new.self c.take_step.new.todo c.take_step.new.found.keys c.loop-step-test.true c.in-Some.ensures c.in_ok-take_step-in-Some.ensures c.loop-step.invariant
