use Rattle.std.proofs.Common.{sym, ap, ◌∙◌}
use Rattle.item_questions.specs.Questions.{Known}
use Rattle.item_answers.specs.Asking.{answer, infos}
use Rattle.base_classes.specs.BaseTypes as spec
use Rattle.base_classes.proofs.Following.{bound-on, bound-any, bound-halts, bound-plain}
use Rattle.base_classes.proofs.bounds.upper.Goals as goal

pub returns-in-None : goal.returns-in-None
returns-in-None g c =
    bound-plain (infos (g.I.Infos.known c.args.infos.now)) c.loop-step._step (answer (g.I.Infos.known c.args.infos.now) (spec.upper c.args.ty.now)) c.loop-step.bound c.loop-step.seen.keys c.loop-step-test.true (sym c.in-None.ensures) c.loop-step.invariant

pub returns-in_err-further-in-Some : goal.returns-in_err-further-in-Some
returns-in_err-further-in-Some g c =
    bound-halts (infos (g.I.Infos.known c.args.infos.now)) c.loop-step._step (answer (g.I.Infos.known c.args.infos.now) (spec.upper c.args.ty.now)) c.in-Some.path.now c.loop-step.bound c.loop-step.seen.keys c.in_err-further-in-Some.field-0.0
    c.from_residual-in_err-further-in-Some.result _ c.loop-step-test.true (sym c.in-Some.ensures) c.in_err-further-in-Some.ensures c.loop-step.invariant
    c.from_residual-in_err-further-in-Some.ensures.1

pub returns-in-None-further : goal.returns-in-None-further
returns-in-None-further g c =
    bound-any (infos (g.I.Infos.known c.args.infos.now)) c.loop-step._step (answer (g.I.Infos.known c.args.infos.now) (spec.upper c.args.ty.now)) c.in-Some.path.now c.loop-step.bound c.loop-step.seen.keys c.in_ok-further-in-Some.further c.bound_of.new.seen.keys
    c.loop-step-test.true (sym c.in-Some.ensures) c.in_ok-further-in-Some.ensures c.in-None-further.is c.loop-step.invariant
    ∙ ap Known (sym c.in_ok-scala_type-in-None-further.ensures)

pub loop-step-preserved : goal.loop-step-preserved
loop-step-preserved g c =
    bound-on (infos (g.I.Infos.known c.args.infos.now)) c.loop-step._step (answer (g.I.Infos.known c.args.infos.now) (spec.upper c.args.ty.now)) c.in-Some.path.now c.loop-step.bound c.loop-step.seen.keys c.in_ok-further-in-Some.further c.in-Some-further.next
    c.bound_of.new.seen.keys c.loop-step-test.true (sym c.in-Some.ensures) c.in_ok-further-in-Some.ensures c.in-Some-further.is c.loop-step.invariant
