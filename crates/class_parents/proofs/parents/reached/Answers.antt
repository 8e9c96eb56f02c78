use Rattle.std.proofs.Common.{[]}
use Rattle.item_answers.specs.Asking.{answer, infos}
use Rattle.class_parents.specs.Parents.{classes_of, max_steps, reached}
use Rattle.class_parents.proofs.Following.{reach-on, reach-halts, reach-ends}
use Rattle.class_parents.proofs.parents.reached.Goals as goal

pub returns-in_err-reach_one-in-Some : goal.returns-in_err-reach_one-in-Some
returns-in_err-reach_one-in-Some g c =
    reach-halts (infos (g.I.Infos.known c.args.infos.now)) c.loop-step._step (answer (g.I.Infos.known c.args.infos.now) (reached max_steps (classes_of c.args.types.now) []))
    c.in-Some.class c.loop-step.todo c.pop.new.self c.loop-step.seen.keys c.in_err-reach_one-in-Some.field-0.0 c.from_residual-in_err-reach_one-in-Some.result _
    c.loop-step-test.true c.in-Some.ensures c.in_err-reach_one-in-Some.ensures c.loop-step.invariant c.from_residual-in_err-reach_one-in-Some.ensures.1

pub returns-in-None : goal.returns-in-None
returns-in-None g c =
    reach-ends (infos (g.I.Infos.known c.args.infos.now)) c.loop-step._step (answer (g.I.Infos.known c.args.infos.now) (reached max_steps (classes_of c.args.types.now) []))
    c.loop-step.todo c.loop-step.seen.keys c.loop-step-test.true c.in-None.ensures.0 c.loop-step.invariant

pub loop-step-preserved : goal.loop-step-preserved
loop-step-preserved g c =
    reach-on (infos (g.I.Infos.known c.args.infos.now)) c.loop-step._step (answer (g.I.Infos.known c.args.infos.now) (reached max_steps (classes_of c.args.types.now) []))
    c.in-Some.class c.loop-step.todo c.pop.new.self c.loop-step.seen.keys c.reach_one.new.todo c.reach_one.new.seen.keys
    c.loop-step-test.true c.in-Some.ensures c.in_ok-reach_one-in-Some.ensures c.loop-step.invariant
