-- A session in step after one of its calls is settled.
use Rattle.std.proofs.Common.{◌≡◌, ℕ, ◌<◌, Bool, true, false, not, ◌||◌, ◌&&◌, ◌==◌, nat_lt, if◌then◌else◌, List, [], ◌∷◌, ◌++◌, length, map, filter, All, slice_set, Option, Some, None, is_some, is_none, unwrap_or, IsTrue, refl, sym, ap, ◌∙◌, subst, arith}
use Rattle.std.proofs.Math.Bool.{or-false}
use Rattle.std.proofs.lemmas.Bool.{and_parts, and_from, eq-eqb, or_left}
use Rattle.std.specs.List.{list_any}
use Rattle.pc_terms.specs.declared.problems.Problem.{Problem}
use Rattle.ask_history.specs.Sources.{Bytes, Sources, is_mutation, unchecked}
use Rattle.ask_history.specs.Journal.{accepted, call_of, is_close, is_closed, is_cancelled, is_open, is_settled, after, checked, sources_step, checked_step, changed, reply, forestalled, found, taking_effect}
use Rattle.ask_history.specs.Checks.{due}
use Rattle.ask_history.specs.Legal.{is_next, is_legal, may_follow}
use Rattle.ask_history.specs.Engine.{EngineState, is_staged, settled_state, mutation_settled, ask_settled}
use Rattle.ask_history.specs.declared.calls.Call.{Call}
use Rattle.ask_history.specs.declared.answers.Answer.{Answer}
use Rattle.ask_history.specs.declared.answers.Answer.TheVariants as answer
use Rattle.ask_history.specs.declared.engine.Effect.TheVariants.{Applies, Dropped}
use Rattle.ask_history.specs.declared.events.Mark.{Mark}
use Rattle.ask_history.specs.declared.events.Mark.TheVariants as mark
use Rattle.ask_history.specs.declared.events.Event.{Event}
use Rattle.ask_history.specs.declared.events.Event.TheVariants.{Settle}
use Rattle.ask_history.proofs.Pushes.{list_any-push}
use Rattle.ask_history.proofs.Accepted.{accepted_below}
use Rattle.ask_history.proofs.Underway.{Holds, is_among, holds-settle, may_settle}
use Rattle.work_queue.specs.Queue.{mark_of, value_of}
use Rattle.work_queue.specs.declared.limits.Settling.{Settling}
use Rattle.work_queue.specs.declared.limits.Settling.TheVariants as settling
use Rattle.schedule_player.specs.Around.{asks_of, fed_of, around, AreStacked}
use Rattle.schedule_player.specs.Steps.{Finds, IsRight, top_ask}
use Rattle.schedule_player.specs.SessionState.{SessionState}
use Rattle.schedule_player.specs.InStep.{IsAsked, IsNoted, IsServed, InStep, IsAhead, ChecksInStep}
use Rattle.schedule_player.specs.declared.session.Pending.{Pending}
use Rattle.schedule_player.proofs.Tops.{asks_top, fed_top, new_top, stacked_around}
use Rattle.schedule_player.proofs.Served.{asked_stays, TopServed, fed_live, settled_top}
use Rattle.schedule_player.proofs.Pushing.{after-push, checked-push, no_effect}
use Rattle.schedule_player.proofs.Noted.{noted_settle}

-- ---- right answers

right_none : (closed cancelled : Bool) (a b : Answer)
    → unwrap_or (if closed then Some answer.Closed else (if cancelled then Some answer.Cancelled else Some answer.NoMemory)) a
    ≡ unwrap_or (if closed then Some answer.Closed else (if cancelled then Some answer.Cancelled else Some answer.NoMemory)) b
right_none true cancelled a b = refl
right_none false true a b = refl
right_none false false a b = refl

right_cancelled : (closed cancelled : Bool) (a b : Answer) → cancelled ≡ true
    → unwrap_or (if closed then Some answer.Closed else (if cancelled then Some answer.Cancelled else None)) a
    ≡ unwrap_or (if closed then Some answer.Closed else (if cancelled then Some answer.Cancelled else None)) b
right_cancelled true cancelled a b h = refl
right_cancelled false true a b h = refl
right_cancelled false false a b h = cc

module _ (answer_of : Sources → Call → Answer) (journal : List Event) (ticket : ℕ) where
  -- where no memory could be had the value does not matter
  pub right_no_memory : IsRight answer_of journal ticket settling.NoMemory
  right_no_memory = record { right = right_none (is_closed journal) (is_cancelled journal ticket) _ _ }

  -- nor does it for a cancelled ask
  pub right_for_cancelled : (value : Answer) → is_cancelled journal ticket ≡ true → IsRight answer_of journal ticket (settling.Value value)
  right_for_cancelled value h = record { right = right_cancelled (is_closed journal) (is_cancelled journal ticket) _ _ h }

  -- and else it is what the engine found
  pub right_found : (call : Call) (what : Settling) → call_of journal ticket ≡ Some call → is_mutation call ≡ false → Finds what (answer_of (after journal) call) → IsRight answer_of journal ticket what
  right_found call settling.NoMemory h ask finds = right_no_memory
  right_found call (settling.Value value) h ask finds = record { right = ap (unwrap_or (forestalled journal ticket mark.Done)) (both (λ files c. value) ∙ finds ∙ sym (both answer_of)) }
    where
      both : (f : Sources → Call → Answer) → found f (after journal) (call_of journal ticket) ≡ f (after journal) call
      both f = ap (found f (after journal)) h ∙ ap (λ b. if b then answer.Done else f (after journal) call) ask

-- ---- an ask that is the innermost line

module _ (answer_of : Sources → Call → Answer) (problems_of : Sources → Bytes → List Problem) (session : SessionState) (state : EngineState)
    (step : InStep answer_of problems_of session state) (live : session.closed ≡ false) (ticket : ℕ) (fed : Bool) (top : top_ask session.outers ≡ Some (ticket, fed)) where
  open_now : is_closed session.journal ≡ false
  open_now = sym step.closed ∙ live

  pub top_open : is_open session.journal ticket ≡ true
  top_open =
      step.holds.opens ticket
      ∙ ap (λ b. not b && is_among (asks_of session.outers) ticket) open_now
      ∙ ap (λ ts. is_among ts ticket) (asks_top session.outers ticket fed top)
      ∙ or_left (ticket == ticket) _ (eq-eqb ticket ticket refl)

  pub top_next : is_next session.journal ticket ≡ true
  top_next = (and_parts (is_open session.journal ticket) (is_next session.journal ticket) (may_settle session.journal ticket step.holds.prompt top_open mark.Done)).1

  pub top_within : ticket < length session.answers
  top_within =
      let called = (and_parts (is_some (call_of session.journal ticket)) (not (is_settled session.journal ticket)) top_open).0 in
      let below = accepted_below session.journal step.holds.legal ticket called in
      let same = step.noted.counted in
      omega arith

  module _ (m : Mark) (value : Answer) (right : value ≡ reply answer_of session.journal ticket m) where
    abbrev settled_journal : List Event
    settled_journal = session.journal ++ Settle ticket m ∷ []

    abbrev pub settled_session : SessionState
    settled_session = record session { journal = session.journal ++ Settle ticket m ∷ []; answers = slice_set session.answers ticket value; outers = around session.outers }

    no_change : taking_effect session.journal ticket m ≡ None
    no_change = no_effect session.journal ticket m top_open step.holds.prompt

    same_sources : after settled_journal ≡ after session.journal
    same_sources = after-push session.journal (Settle ticket m) ∙ ap (changed (after session.journal)) no_change

    same_checked : checked settled_journal ≡ checked session.journal
    same_checked = checked-push session.journal (Settle ticket m) ∙ ap (λ o. if is_some o then [] else checked session.journal) no_change

    same_due : due settled_journal ≡ due session.journal
    same_due = λ j. unchecked (same_checked j) (same_sources j)

    settled_closed : is_closed settled_journal ≡ is_closed session.journal
    settled_closed = list_any-push is_close session.journal (Settle ticket m) ∙ or-false (is_closed session.journal)

    -- the engine, where it had the ask and where not
    settled_served : (f : Bool) → fed ≡ f → IsServed settled_session (if f then settled_state state ticket Dropped else state)
    settled_served true e =
        let top' : top_ask session.outers ≡ Some (ticket, true) = top ∙ (λ j. Some (ticket, e j)) in
        let taken = settled_top session state step.served live ticket top' step.stacked in
        subst (IsServed settled_session) (sym taken.1) (record {
          fed = taken.0.fed ∙ sym (ap (λ b. if b then [] else fed_of (around session.outers)) live);
          asked = asked_stays session.journal (Settle ticket m) taken.0.below taken.0.asked;
          staged = step.served.staged;
          sources = step.served.sources ∙ sym same_sources;
        })
    settled_served false e = record {
      fed = fed_live session state step.served live ∙ fed_top session.outers ticket fed top ∙ ap (λ b. if b then fed_of (around session.outers) ++ ticket ∷ [] else fed_of (around session.outers)) e
          ∙ sym (ap (λ b. if b then [] else fed_of (around session.outers)) live);
      asked = asked_stays session.journal (Settle ticket m) state.asks step.served.asked;
      staged = step.served.staged;
      sources = step.served.sources ∙ sym same_sources;
    }

    pub settled_in_step : InStep answer_of problems_of settled_session (if fed then settled_state state ticket Dropped else state)
    settled_in_step = record {
      holds = holds-settle (asks_of (around session.outers)) ticket session.journal (subst (λ ts. Holds ts session.journal) (asks_top session.outers ticket fed top) step.holds)
          (new_top session.outers ticket fed top step.stacked) top_open m;
      stacked = stacked_around session.outers step.stacked;
      closed = step.closed ∙ sym settled_closed;
      noted = let n = noted_settle answer_of problems_of session step.noted ticket m value top_within right in
          record { numbered = n.numbered; counted = n.counted; answers = n.answers; problems = n.problems };
      served = settled_served fed refl;
    }

    ahead_stays : (found : Option Pending) (names : List Bytes) → IsAhead problems_of session.journal found names → IsAhead problems_of settled_journal found names
    ahead_stays None names h = h ∙ sym same_checked
    ahead_stays (Some f) names h =
        (h.0 ∙ ap (λ ns. ns ++ f.file ∷ []) (sym same_checked), h.1 ∙ ap (λ files. problems_of files f.file) (sym same_sources), h.2, same_due ∙ h.3)

    settled_checks_by : (f : Bool) → ChecksInStep problems_of session state → ChecksInStep problems_of settled_session (if f then settled_state state ticket Dropped else state)
    settled_checks_by true checks =
        let left : settled_state state ticket Dropped ≡ ask_settled state ticket = ap (λ staged. if is_staged staged ticket then mutation_settled state Dropped staged else ask_settled state ticket) step.served.staged in
        subst (ChecksInStep problems_of settled_session) (sym left) (record { skipped = checks.skipped; ahead = ahead_stays session.found state.checked checks.ahead })
    settled_checks_by false checks = record { skipped = checks.skipped; ahead = ahead_stays session.found state.checked checks.ahead }

    pub settled_checks : ChecksInStep problems_of session state → ChecksInStep problems_of settled_session (if fed then settled_state state ticket Dropped else state)
    settled_checks = settled_checks_by fed
