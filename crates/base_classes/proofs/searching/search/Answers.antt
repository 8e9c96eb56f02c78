use Rattle.std.proofs.Common.{[], ◌∷◌}
use Rattle.item_answers.specs.Asking.{answer, infos}
use Rattle.class_parents.specs.Parents.{max_steps}
use Rattle.base_classes.specs.BaseTypes.{searched}
use Rattle.base_classes.proofs.Following.{search-found, search-none, search-halts}
use Rattle.base_classes.proofs.searching.search.Goals as goal

pub returns-in-None : goal.returns-in-None
returns-in-None g c =
    search-none (infos (g.I.Infos.known c.args.infos.now)) c.loop-step._step (answer (g.I.Infos.known c.args.infos.now) (searched max_steps c.args.class.now (c.args.bound ∷ []) [])) c.args.class.now c.loop-step.todo c.loop-step.seen.keys c.loop-step-test.true c.in-None.ensures.0 c.loop-step.invariant

pub returns-in_err-found-in-Some : goal.returns-in_err-found-in-Some
returns-in_err-found-in-Some g c =
    search-halts (infos (g.I.Infos.known c.args.infos.now)) c.loop-step._step (answer (g.I.Infos.known c.args.infos.now) (searched max_steps c.args.class.now (c.args.bound ∷ []) [])) c.args.class.now c.loop-step.todo c.loop-step.seen.keys c.in-Some.ty c.pop.new.self c.in_err-found-in-Some.field-0.0
    c.from_residual-in_err-found-in-Some.result _ c.loop-step-test.true c.in-Some.ensures c.in_err-found-in-Some.ensures c.loop-step.invariant
    c.from_residual-in_err-found-in-Some.ensures.1

pub returns-in-Some-found : goal.returns-in-Some-found
returns-in-Some-found g c =
    search-found (infos (g.I.Infos.known c.args.infos.now)) c.loop-step._step (answer (g.I.Infos.known c.args.infos.now) (searched max_steps c.args.class.now (c.args.bound ∷ []) [])) c.args.class.now c.loop-step.todo c.loop-step.seen.keys c.in_ok-found-in-Some.found c.in-Some.ty c.in-Some-found.base c.pop.new.self
    c.search_one.new.todo c.search_one.new.seen.keys c.loop-step-test.true c.in-Some.ensures c.in_ok-found-in-Some.ensures c.in-Some-found.is c.loop-step.invariant
