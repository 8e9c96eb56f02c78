-- A call that was accepted and fed, as the code has it.
use Rattle.std.proofs.Common.{◌≡◌, ℕ, ◌<◌, ◌^◌, ◌≤◌, Bool, true, false, if◌then◌else◌, ◌==◌, List, [], ◌∷◌, ◌++◌, length, slice_set, Option, Some, None, IsTrue, refl, sym, ap, ◌∙◌, subst}
use Rattle.std.proofs.lemmas.Bool.{eq-eqb, true≢false}
use Rattle.pc_terms.specs.declared.problems.Problem.{Problem}
use Rattle.ask_history.specs.Sources.{Bytes, Sources, is_mutation, mutated, unchecked}
use Rattle.ask_history.specs.Journal.{accepted, call_of, is_open, after, checked, reply, taking_effect}
use Rattle.ask_history.specs.Legal.{is_next}
use Rattle.ask_history.specs.Engine.{EngineState, FeedGives, has_file_names, is_open_in, is_staged, settled_state, mutation_settled, ask_settled}
use Rattle.ask_history.specs.declared.calls.Call.{Call}
use Rattle.ask_history.specs.declared.answers.Answer.{Answer}
use Rattle.ask_history.specs.declared.answers.Answer.TheVariants as answer
use Rattle.ask_history.specs.declared.engine.Fed.TheVariants as fed
use Rattle.ask_history.specs.declared.engine.Effect.{Effect}
use Rattle.ask_history.specs.declared.engine.Effect.TheVariants.{Applies, Dropped}
use Rattle.ask_history.specs.declared.script.Order.TheVariants as order
use Rattle.ask_history.specs.declared.events.Mark.{Mark}
use Rattle.ask_history.specs.declared.events.Mark.TheVariants as mark
use Rattle.ask_history.specs.declared.events.Event.TheVariants.{Accept, Settle}
use Rattle.work_queue.specs.Queue.{effect_of}
use Rattle.schedule_player.specs.Around.{with_work}
use Rattle.schedule_player.specs.Steps.{IsPlaced, PlaysOrder}
use Rattle.schedule_player.specs.SessionState.{SessionState}
use Rattle.schedule_player.specs.InStep.{InStep, IsAhead, ChecksInStep}
use Rattle.schedule_player.specs.declared.session.Pending.{Pending}
use Rattle.schedule_player.specs.declared.outers.Work.TheVariants.{Ask}
use Rattle.schedule_player.proofs.Same.{in_step_at, checks_at}
use Rattle.schedule_player.proofs.Accepts.{opened, called_now, few, not_open_yet, asking, asking_state, asking_in_step, asking_checks, asking_plays, mutation_open, mutation_next, mutating, mutating_in_step, mutating_plays, mutation_right, after_is, checked_is, effect_is}

module _ (answer_of : Sources → Call → Answer) (problems_of : Sources → Bytes → List Problem) (session : SessionState) (state : EngineState)
    (step : InStep answer_of problems_of session state) (live : session.closed ≡ false) (call : Call)
    (now : SessionState) (t : ℕ) (there : Call) (is : now ≡ opened answer_of problems_of session state step live call) (at : t ≡ accepted session.journal) (named : call_of now.journal t ≡ Some there) where
  some_call : (a b : Call) → Some a ≡ Some b → a ≡ b
  some_call a b h = cc

  pub same_call : there ≡ call
  same_call = some_call there call (sym named ∙ (λ j. call_of (is j).journal (at j)) ∙ called_now answer_of problems_of session state step live call)

  pub new_ticket : is_open_in state.asks t ≡ false
  new_ticket = ap (is_open_in state.asks) at ∙ not_open_yet answer_of problems_of session state step live call

  pub same_names : has_file_names call ≡ true → has_file_names there ≡ true
  same_names h = ap has_file_names same_call ∙ h

  pub few_there : length (mutated (after now.journal) there) ≤ 1024 → length (mutated state.sources there) < 2 ^ 31
  few_there h =
      subst (λ c. length (mutated state.sources c) < 2 ^ 31) (sym same_call)
      (few answer_of problems_of session state step live call (subst (λ s. length (mutated (after s.journal) call) ≤ 1024) is (subst (λ c. length (mutated (after now.journal) c) ≤ 1024) same_call h)))

  -- ---- an ask

  module _ (ask : is_mutation there ≡ false) (placed : IsPlaced session.outers) (f : Bool) (new : SessionState) (e : new ≡ record now { outers = with_work (Ask t f 0) now.outers }) where
    is_ask_call : is_mutation call ≡ false
    is_ask_call = ap is_mutation (sym same_call) ∙ ask

    new_is : new ≡ asking answer_of problems_of session state step live call is_ask_call placed f
    new_is = e ∙ (λ j. record (is j) { outers = with_work (Ask (at j) f 0) (is j).outers })

    pub ask_in_step : (after_feed : EngineState) → after_feed ≡ (if f then record state { asks = state.asks ++ (t, there) ∷ [] } else state) → InStep answer_of problems_of new after_feed
    ask_in_step after_feed g = in_step_at new_is (g ∙ (λ j. if f then record state { asks = state.asks ++ (at j, same_call j) ∷ [] } else state))
        (asking_in_step answer_of problems_of session state step live call is_ask_call placed f)

    pub ask_checks : (after_feed : EngineState) → after_feed ≡ (if f then record state { asks = state.asks ++ (t, there) ∷ [] } else state) → ChecksInStep problems_of session state → ChecksInStep problems_of new after_feed
    ask_checks after_feed g checks = checks_at new_is (g ∙ (λ j. if f then record state { asks = state.asks ++ (at j, same_call j) ∷ [] } else state))
        (asking_checks answer_of problems_of session state step live call is_ask_call placed f checks)

    pub ask_plays : PlaysOrder (order.Call call) session new
    ask_plays = subst (PlaysOrder (order.Call call) session) (sym new_is) (asking_plays answer_of problems_of session state step live call is_ask_call placed f)

  -- ---- a mutation

  module _ (mutates : is_mutation there ≡ true) where
    is_mutation_call : is_mutation call ≡ true
    is_mutation_call = ap is_mutation (sym same_call) ∙ mutates

    pub open_there : (m : Mark) → IsTrue (is_open now.journal t)
    open_there m = (λ j. is_open (is j).journal (at j)) ∙ mutation_open answer_of problems_of session state step live call is_mutation_call m

    pub next_there : (m : Mark) → IsTrue (is_next now.journal t)
    next_there m = (λ j. is_next (is j).journal (at j)) ∙ mutation_next answer_of problems_of session state step live call is_mutation_call m

    -- out of memory
    module _ (placed : IsPlaced session.outers) (value : Sources → Call → Answer) (new : SessionState)
        (e : new ≡ record now { journal = now.journal ++ Settle t mark.NoMemory ∷ []; answers = slice_set now.answers t (reply value now.journal t mark.NoMemory) }) where
      right_there : reply value (opened answer_of problems_of session state step live call).journal (accepted session.journal) mark.NoMemory ≡ reply answer_of (opened answer_of problems_of session state step live call).journal (accepted session.journal) mark.NoMemory
      right_there = mutation_right answer_of problems_of session state step live call is_mutation_call mark.NoMemory value

      unmade_is : new ≡ mutating answer_of problems_of session state step live call is_mutation_call mark.NoMemory _ right_there session.found
      unmade_is = e ∙ (λ j. record (is j) { journal = (is j).journal ++ Settle (at j) mark.NoMemory ∷ []; answers = slice_set (is j).answers (at j) (reply value (is j).journal (at j) mark.NoMemory) })

      pub unmade_in_step : (after_feed : EngineState) → after_feed ≡ state → InStep answer_of problems_of new after_feed
      unmade_in_step after_feed g = in_step_at unmade_is g
          (mutating_in_step answer_of problems_of session state step live call is_mutation_call mark.NoMemory _ right_there session.found state refl step.served.staged
          (step.served.sources ∙ sym (after_is answer_of problems_of session state step live call is_mutation_call mark.NoMemory)))

      pub unmade_plays : PlaysOrder (order.Call call) session new
      unmade_plays = subst (PlaysOrder (order.Call call) session) (sym unmade_is) (mutating_plays answer_of problems_of session state step live call is_mutation_call mark.NoMemory _ right_there session.found placed)

      pub unmade_checks : (after_feed : EngineState) → after_feed ≡ state → ChecksInStep problems_of session state → ChecksInStep problems_of new after_feed
      unmade_checks after_feed g checks = checks_at unmade_is g (record { skipped = checks.skipped; ahead = ahead session.found state.checked checks.ahead })
        where
          same_after : after ((session.journal ++ Accept (accepted session.journal) 0 (length session.tickets) call ∷ []) ++ Settle (accepted session.journal) mark.NoMemory ∷ []) ≡ after session.journal
          same_after = after_is answer_of problems_of session state step live call is_mutation_call mark.NoMemory

          same_checked : checked ((session.journal ++ Accept (accepted session.journal) 0 (length session.tickets) call ∷ []) ++ Settle (accepted session.journal) mark.NoMemory ∷ []) ≡ checked session.journal
          same_checked = checked_is answer_of problems_of session state step live call is_mutation_call mark.NoMemory

          ahead : (found : Option Pending) (names : List Bytes) → IsAhead problems_of session.journal found names
              → IsAhead problems_of ((session.journal ++ Accept (accepted session.journal) 0 (length session.tickets) call ∷ []) ++ Settle (accepted session.journal) mark.NoMemory ∷ []) found names
          ahead None names h = h ∙ sym same_checked
          ahead (Some f) names h = (
            h.0 ∙ ap (λ ns. ns ++ f.file ∷ []) (sym same_checked),
            h.1 ∙ ap (λ files. problems_of files f.file) (sym same_after),
            h.2,
            (λ i. unchecked (same_checked i) (same_after i)) ∙ h.3,
          )

    -- in force
    module _ (placed : IsPlaced session.outers) (value : Sources → Call → Answer) (after_feed settled : EngineState) (effect : Effect) (new : SessionState)
        (e : new ≡ record now { journal = now.journal ++ Settle t mark.Done ∷ []; answers = slice_set now.answers t (reply value now.journal t mark.Done); found = None })
        (staged : after_feed ≡ record state { staged = Some (t, there) }) (applies : effect ≡ effect_of (taking_effect now.journal t mark.Done)) (g : settled ≡ settled_state after_feed t effect) where
      right_made : reply value (opened answer_of problems_of session state step live call).journal (accepted session.journal) mark.Done ≡ reply answer_of (opened answer_of problems_of session state step live call).journal (accepted session.journal) mark.Done
      right_made = mutation_right answer_of problems_of session state step live call is_mutation_call mark.Done value

      made_is : new ≡ mutating answer_of problems_of session state step live call is_mutation_call mark.Done _ right_made None
      made_is = e ∙ (λ j. record (is j) { journal = (is j).journal ++ Settle (at j) mark.Done ∷ []; answers = slice_set (is j).answers (at j) (reply value (is j).journal (at j) mark.Done); found = None })

      effect_applies : effect ≡ Applies
      effect_applies = applies ∙ (λ j. effect_of (taking_effect (is j).journal (at j) mark.Done)) ∙ ap effect_of (effect_is answer_of problems_of session state step live call is_mutation_call mark.Done)

      abbrev forced : EngineState
      forced = record state { sources = mutated state.sources call; staged = None; checked = []; skipped = [] }

      engine_is : settled ≡ forced
      engine_is = g ∙ (λ j. settled_state (staged j) t (effect_applies j)) ∙ ap (λ b. if b then mutation_settled (record state { staged = Some (t, there) }) Applies (Some (t, there)) else ask_settled (record state { staged = Some (t, there) }) t) (eq-eqb t t refl)
          ∙ ap (λ c. record state { sources = mutated state.sources c; staged = None; checked = []; skipped = [] }) same_call

      pub made_in_step : InStep answer_of problems_of new settled
      made_in_step = in_step_at made_is engine_is
          (mutating_in_step answer_of problems_of session state step live call is_mutation_call mark.Done _ right_made None forced refl refl
          (ap (λ files. mutated files call) step.served.sources ∙ sym (after_is answer_of problems_of session state step live call is_mutation_call mark.Done)))

      pub made_checks : ChecksInStep problems_of new settled
      made_checks = checks_at made_is engine_is (record { skipped = refl; ahead = sym (checked_is answer_of problems_of session state step live call is_mutation_call mark.Done) })

      pub made_plays : PlaysOrder (order.Call call) session new
      made_plays = subst (PlaysOrder (order.Call call) session) (sym made_is) (mutating_plays answer_of problems_of session state step live call is_mutation_call mark.Done _ right_made None placed)
