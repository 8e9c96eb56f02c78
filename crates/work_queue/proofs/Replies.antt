-- What a call that is not shut out is answered.
use Rattle.std.proofs.Common.{◌≡◌, ℕ, Bool, true, false, if◌then◌else◌, List, Some, None, is_none, unwrap_or, refl, ap, ◌∙◌}
use Rattle.ask_history.specs.Sources.{is_mutation}
use Rattle.ask_history.specs.Journal.{call_of, is_closed, is_cancelled, by_mark, forestalled, found, after, reply, mutation_only, taking_effect}
use Rattle.ask_history.specs.declared.calls.Call.{Call}
use Rattle.ask_history.specs.declared.events.Event.{Event}
use Rattle.ask_history.specs.declared.answers.Answer.TheVariants as answer
use Rattle.work_queue.specs.declared.limits.Settling.{Settling}
use Rattle.work_queue.specs.declared.limits.Settling.TheVariants.{Value, NoMemory}
use Rattle.work_queue.specs.Queue.{mark_of, value_of, answer_to, effect_to, effect_of}

module _ (journal : List Event) (t : ℕ) (call : Call) (unclosed : is_closed journal ≡ false) (is : call_of journal t ≡ Some call) (what : Settling) where
  stands : forestalled journal t (mark_of what) ≡ (if is_cancelled journal t then Some answer.Cancelled else by_mark (mark_of what))
  stands = ap (λ b. if b then Some answer.Closed else (if is_cancelled journal t then Some answer.Cancelled else by_mark (mark_of what))) unclosed

  pub reply-answer_to : reply (λ files c. value_of what) journal t (mark_of what) ≡ answer_to (is_cancelled journal t) (is_mutation call) what
  reply-answer_to =
      (λ j. unwrap_or (stands j) (found (λ files c. value_of what) (after journal) (is j)))
      ∙ by (is_cancelled journal t) (is_mutation call) what
    where
      by : (cancelled mutates : Bool) (what : Settling)
          → unwrap_or (if cancelled then Some answer.Cancelled else by_mark (mark_of what)) (if mutates then answer.Done else value_of what) ≡ answer_to cancelled mutates what
      by true mutates what = refl
      by false mutates NoMemory = refl
      by false true (Value found) = refl
      by false false (Value found) = refl

  pub taking_effect-effect_to : effect_of (taking_effect journal t (mark_of what)) ≡ effect_to (is_cancelled journal t) (is_mutation call) what
  taking_effect-effect_to =
      (λ j. effect_of (if is_none (stands j) then mutation_only (is j) else None)) ∙ by (is_cancelled journal t) (is_mutation call) what
    where
      by : (cancelled mutates : Bool) (what : Settling)
          → effect_of (if is_none (if cancelled then Some answer.Cancelled else by_mark (mark_of what)) then (if mutates then Some call else None) else None) ≡ effect_to cancelled mutates what
      by true mutates what = refl
      by false mutates NoMemory = refl
      by false true (Value found) = refl
      by false false (Value found) = refl
