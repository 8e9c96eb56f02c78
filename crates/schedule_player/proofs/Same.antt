-- What holds of a session and an engine holds of what is equal to them.
use Rattle.std.proofs.Common.{◌≡◌, List, sym, subst}
use Rattle.pc_terms.specs.declared.problems.Problem.{Problem}
use Rattle.ask_history.specs.Sources.{Bytes, Sources}
use Rattle.ask_history.specs.Engine.{EngineState}
use Rattle.ask_history.specs.declared.calls.Call.{Call}
use Rattle.ask_history.specs.declared.answers.Answer.{Answer}
use Rattle.schedule_player.specs.SessionState.{SessionState}
use Rattle.schedule_player.specs.InStep.{InStep, ChecksInStep}

pub in_step_at : {answer_of : Sources → Call → Answer} {problems_of : Sources → Bytes → List Problem} {s s' : SessionState} {state state' : EngineState}
    → s' ≡ s → state' ≡ state → InStep answer_of problems_of s state → InStep answer_of problems_of s' state'
in_step_at {answer_of} {problems_of} {s} {s'} {state} {state'} e f h =
    subst (λ x. InStep answer_of problems_of x state') (sym e) (subst (λ x. InStep answer_of problems_of s x) (sym f) h)

pub checks_at : {problems_of : Sources → Bytes → List Problem} {s s' : SessionState} {state state' : EngineState}
    → s' ≡ s → state' ≡ state → ChecksInStep problems_of s state → ChecksInStep problems_of s' state'
checks_at {problems_of} {s} {s'} {state} {state'} e f h =
    subst (λ x. ChecksInStep problems_of x state') (sym e) (subst (λ x. ChecksInStep problems_of s x) (sym f) h)
