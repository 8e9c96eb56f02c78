-- A session in step after one of its call lines is accepted.
use Rattle.std.proofs.Common.{◌≡◌, ℕ, ◌<◌, ◌+◌, ◌^◌, ◌≤◌, Bool, true, false, not, ◌||◌, ◌&&◌, ◌==◌, if◌then◌else◌, List, [], ◌∷◌, ◌++◌, length, map, All, slice_set, Option, Some, None, is_some, is_none, unwrap_or, IsTrue, refl, sym, ap, ◌∙◌, subst, arith, true≢false}
use Rattle.std.proofs.Math.Bool.{or-false}
use Rattle.std.proofs.lemmas.Bool.{and_parts, or_from, eq-eqb, eqb-true, false_from_ne_true}
use Rattle.std.proofs.lemmas.List.{map-append, length-append}
use Rattle.std.proofs.lemmas.List.Elements.{All-head, All-tail, All-push}
use Rattle.std.specs.List.{list_any}
use Rattle.pc_terms.specs.declared.problems.Problem.{Problem}
use Rattle.ask_history.specs.Sources.{Bytes, Sources, is_mutation, mutated, unchecked}
use Rattle.ask_history.specs.Journal.{accepted, call_of, call_under, first_of_two, is_close, is_closed, is_cancelled, cancels, is_open, is_settled, after, changed, checked, reply, forestalled, by_mark, found, taking_effect, mutation_only}
use Rattle.ask_history.specs.Checks.{due}
use Rattle.ask_history.specs.Legal.{is_next, is_legal, may_follow}
use Rattle.ask_history.specs.Plain.{mark_of}
use Rattle.ask_history.specs.Schedule.{Part, all_of, settle_open, accept_call, play_line}
use Rattle.ask_history.specs.Engine.{EngineState, is_open_in, settled_state, mutation_settled, in_force}
use Rattle.ask_history.specs.declared.calls.Call.{Call}
use Rattle.ask_history.specs.declared.answers.Answer.{Answer}
use Rattle.ask_history.specs.declared.answers.Answer.TheVariants as answer
use Rattle.ask_history.specs.declared.engine.Effect.TheVariants.{Applies}
use Rattle.ask_history.specs.declared.script.Order.TheVariants as order
use Rattle.ask_history.specs.declared.events.Mark.{Mark}
use Rattle.ask_history.specs.declared.events.Mark.TheVariants as mark
use Rattle.ask_history.specs.declared.events.Event.{Event}
use Rattle.ask_history.specs.declared.events.Event.TheVariants.{Accept, Settle}
use Rattle.ask_history.proofs.Walks.{along-push}
use Rattle.ask_history.proofs.Pushes.{list_any-push, call_of-push, accepted-push}
use Rattle.ask_history.proofs.Underway.{Holds, holds-accept, holds-mutation, is_new, accept-shut, uncalled}
use Rattle.schedule_player.specs.Around.{HasMarks, ending, asks_of, fed_of, onto, with_work, AreStacked, top_under_ask}
use Rattle.schedule_player.specs.Steps.{IsPlaced, PlaysOrder}
use Rattle.schedule_player.specs.SessionState.{SessionState}
use Rattle.schedule_player.specs.InStep.{IsAsked, IsNoted, IsServed, InStep, IsAhead, ChecksInStep}
use Rattle.schedule_player.specs.declared.session.Pending.{Pending}
use Rattle.schedule_player.specs.declared.outers.Work.{Work}
use Rattle.schedule_player.specs.declared.outers.Work.TheVariants.{Ask, Passed}
use Rattle.schedule_player.specs.declared.outers.Outer.{Outer}
use Rattle.schedule_player.proofs.Served.{asked_stays}
use Rattle.schedule_player.proofs.Pushing.{after-push, checked-push, cancelled_called}
use Rattle.schedule_player.proofs.Noted.{noted_accept, noted_settle}
use Rattle.schedule_player.proofs.Ending.{marks_front, mark_last}

module _ (answer_of : Sources → Call → Answer) (problems_of : Sources → Bytes → List Problem) (session : SessionState) (state : EngineState)
    (step : InStep answer_of problems_of session state) (live : session.closed ≡ false) (call : Call) where
  abbrev ticket : ℕ
  ticket = accepted session.journal

  abbrev event : Event
  event = Accept (accepted session.journal) 0 (length session.tickets) call

  abbrev pub opened : SessionState
  opened = record session {
    journal = session.journal ++ Accept (accepted session.journal) 0 (length session.tickets) call ∷ [];
    tickets = session.tickets ++ Some (accepted session.journal) ∷ [];
    answers = session.answers ++ answer.Closed ∷ [];
  }

  shut : is_closed session.journal ≡ false
  shut = sym step.closed ∙ live

  opened_shut : is_closed (session.journal ++ event ∷ []) ≡ false
  opened_shut = list_any-push is_close session.journal event ∙ or-false (is_closed session.journal) ∙ shut

  no_call : is_some (call_of session.journal ticket) ≡ false
  no_call = uncalled session.journal step.holds.legal

  pub called_now : call_of (session.journal ++ event ∷ []) ticket ≡ Some call
  called_now = call_of-push session.journal event ticket ∙ by (call_of session.journal ticket) no_call
    where
      by : (o : Option Call) → is_some o ≡ false → first_of_two o (if accepted session.journal == accepted session.journal then Some call else None) ≡ Some call
      by None e = ap (λ b. if b then Some call else None) (eq-eqb (accepted session.journal) (accepted session.journal) refl)
      by (Some c) e = absurd (true≢false e)

  pub is_accepted : ticket < accepted (session.journal ++ event ∷ [])
  is_accepted = let more = accepted-push session.journal event in omega arith

  same_after : after (session.journal ++ event ∷ []) ≡ after session.journal
  same_after = after-push session.journal event

  same_checked : checked (session.journal ++ event ∷ []) ≡ checked session.journal
  same_checked = checked-push session.journal event

  pub opened_noted : IsNoted answer_of problems_of opened
  opened_noted = noted_accept answer_of problems_of session step.noted ticket call

  -- the engine has no ask of this ticket yet
  pub not_open_yet : is_open_in state.asks ticket ≡ false
  not_open_yet = by state.asks step.served.asked
    where
      apart : (ask : ℕ × Call) → IsAsked session.journal ask → (ask.0 == accepted session.journal) ≡ false
      apart ask is = false_from_ne_true (ask.0 == accepted session.journal)
          (λ e. true≢false (sym (ap is_some (sym (ap (call_of session.journal) (eqb-true ask.0 (accepted session.journal) e)) ∙ is.call)) ∙ uncalled session.journal step.holds.legal))

      by : (asks : List (ℕ × Call)) → All (IsAsked session.journal) asks → is_open_in asks (accepted session.journal) ≡ false
      by [] all = refl
      by (ask ∷ asks) all = or_from _ _ (apart ask (All-head (IsAsked session.journal) ask asks all)) (by asks (All-tail (IsAsked session.journal) ask asks all))

  pub few : length (mutated (after (session.journal ++ event ∷ [])) call) ≤ 1024 → length (mutated state.sources call) < 2 ^ 31
  few h = let same = ap (λ files. length (mutated files call)) (step.served.sources ∙ sym same_after) in omega arith

  -- ---- an ask

  module _ (ask : is_mutation call ≡ false) (placed : IsPlaced session.outers) (fed : Bool) where
    abbrev pub asking : SessionState
    asking = record opened { outers = with_work (Ask (accepted session.journal) fed 0) session.outers }

    abbrev pub asking_state : EngineState
    asking_state = if fed then record state { asks = state.asks ++ (accepted session.journal, call) ∷ [] } else state

    outers_is : with_work (Ask ticket fed 0) session.outers ≡ record { level = placed.level; under_ask = top_under_ask placed.around || true; work = Ask ticket fed 0 } ∷ placed.around
    outers_is = ap (with_work (Ask ticket fed 0)) placed.is

    asking_asks : asks_of asking.outers ≡ ticket ∷ asks_of session.outers
    asking_asks = ap asks_of outers_is ∙ ap (λ fs. ticket ∷ asks_of fs) (sym placed.is)

    asking_fed : fed_of asking.outers ≡ (if fed then fed_of session.outers ++ ticket ∷ [] else fed_of session.outers)
    asking_fed = ap fed_of outers_is ∙ ap (λ fs. if fed then fed_of fs ++ ticket ∷ [] else fed_of fs) (sym placed.is)

    asking_stacked : AreStacked asking.outers
    asking_stacked =
        let below : AreStacked (onto placed.level placed.around) = subst AreStacked placed.is step.stacked in
        let new : list_any (λ u. u == ticket) (asks_of placed.around) ≡ false =
        subst (λ fs. list_any (λ u. u == accepted session.journal) (asks_of fs) ≡ false) placed.is (is_new (asks_of session.outers) session.journal step.holds shut (length session.tickets) call) in
        subst AreStacked (sym outers_is) (new, refl, below.2)

    asking_served : (f : Bool) → fed ≡ f → IsServed asking (if f then record state { asks = state.asks ++ (accepted session.journal, call) ∷ [] } else state)
    asking_served true e = record {
      fed = map-append (λ a. a.0) state.asks ((ticket, call) ∷ [])
          ∙ ap (λ ts. ts ++ ticket ∷ []) (step.served.fed ∙ ap (λ b. if b then [] else fed_of session.outers) live)
          ∙ ap (λ b. if b then fed_of session.outers ++ ticket ∷ [] else fed_of session.outers) (sym e)
          ∙ sym asking_fed
          ∙ sym (ap (λ b. if b then [] else fed_of asking.outers) live);
      asked = All-push (IsAsked (session.journal ++ event ∷ [])) state.asks (ticket, call) (asked_stays session.journal event state.asks step.served.asked) (record { call = called_now; asks = ask });
      staged = step.served.staged;
      sources = step.served.sources ∙ sym same_after;
    }
    asking_served false e = record {
      fed = step.served.fed ∙ ap (λ b. if b then [] else fed_of session.outers) live
          ∙ ap (λ b. if b then fed_of session.outers ++ ticket ∷ [] else fed_of session.outers) (sym e)
          ∙ sym asking_fed
          ∙ sym (ap (λ b. if b then [] else fed_of asking.outers) live);
      asked = asked_stays session.journal event state.asks step.served.asked;
      staged = step.served.staged;
      sources = step.served.sources ∙ sym same_after;
    }

    pub asking_in_step : InStep answer_of problems_of asking asking_state
    asking_in_step = record {
      holds = subst (λ ts. Holds ts (session.journal ++ event ∷ [])) (sym asking_asks)
          (holds-accept (asks_of session.outers) session.journal step.holds shut (length session.tickets) call ask);
      stacked = asking_stacked;
      closed = live ∙ sym opened_shut;
      noted = let n = opened_noted in record { numbered = n.numbered; counted = n.counted; answers = n.answers; problems = n.problems };
      served = asking_served fed refl;
    }

    ahead_stays : (found : Option Pending) (names : List Bytes) → IsAhead problems_of session.journal found names → IsAhead problems_of (session.journal ++ event ∷ []) found names
    ahead_stays None names h = h ∙ sym same_checked
    ahead_stays (Some f) names h = (
      h.0 ∙ ap (λ ns. ns ++ f.file ∷ []) (sym same_checked),
      h.1 ∙ ap (λ files. problems_of files f.file) (sym same_after),
      h.2,
      (λ j. unchecked (same_checked j) (same_after j)) ∙ h.3,
    )

    pub asking_checks : ChecksInStep problems_of session state → ChecksInStep problems_of asking asking_state
    asking_checks checks = by fed
      where
        by : (f : Bool) → ChecksInStep problems_of asking (if f then record state { asks = state.asks ++ (accepted session.journal, call) ∷ [] } else state)
        by true = record { skipped = checks.skipped; ahead = ahead_stays session.found state.checked checks.ahead }
        by false = record { skipped = checks.skipped; ahead = ahead_stays session.found state.checked checks.ahead }

    pub asking_plays : PlaysOrder (order.Call call) session asking
    asking_plays = record {
      work = Ask ticket fed 0;
      outers = refl;
      number = length-append session.tickets (Some ticket ∷ []);
      marks = λ without h. marks_front without session.journal (event ∷ []) h;
      plays = λ without parts h.
          ap (λ b. if b then all_of parts session.journal else accept_call ticket (mark_of without ticket) (length session.tickets) call (all_of parts) session.journal) shut
          ∙ ap (λ b. if b then (session.journal ++ event ∷ []) ++ Settle ticket (mark_of without ticket) ∷ [] else settle_open ticket (mark_of without ticket) (all_of parts (session.journal ++ event ∷ []))) ask;
    }

  -- ---- a mutation

  module _ (mutates : is_mutation call ≡ true) (m : Mark) where
    abbrev journal : List Event
    journal = (session.journal ++ Accept (accepted session.journal) 0 (length session.tickets) call ∷ []) ++ Settle (accepted session.journal) m ∷ []

    held : Holds (asks_of session.outers) journal
    held = holds-mutation (asks_of session.outers) session.journal step.holds shut (length session.tickets) call m

    may : IsTrue (may_follow (session.journal ++ event ∷ []) (Settle ticket m))
    may = (and_parts (is_legal (session.journal ++ event ∷ [])) (may_follow (session.journal ++ event ∷ []) (Settle ticket m))
        (sym (along-push (λ before legal e. legal && may_follow before e) true (session.journal ++ event ∷ []) (Settle ticket m)) ∙ held.legal)).1

    pub mutation_open : is_open (session.journal ++ event ∷ []) ticket ≡ true
    mutation_open = (and_parts (is_open (session.journal ++ event ∷ []) ticket) (is_next (session.journal ++ event ∷ []) ticket) may).0

    pub mutation_next : is_next (session.journal ++ event ∷ []) ticket ≡ true
    mutation_next = (and_parts (is_open (session.journal ++ event ∷ []) ticket) (is_next (session.journal ++ event ∷ []) ticket) may).1

    pub mutation_within : ticket < length (session.answers ++ answer.Closed ∷ [])
    mutation_within = let more = length-append session.answers (answer.Closed ∷ []) in let counted = step.noted.counted in omega arith

    not_cancelled : is_cancelled (session.journal ++ event ∷ []) ticket ≡ false
    not_cancelled = list_any-push (cancels ticket) session.journal event ∙ or-false (is_cancelled session.journal ticket)
        ∙ false_from_ne_true (is_cancelled session.journal ticket) (λ h. true≢false (sym (cancelled_called session.journal step.holds.legal ticket h) ∙ no_call))

    forestalled_is : forestalled (session.journal ++ event ∷ []) ticket m ≡ by_mark m
    forestalled_is = (λ j. if opened_shut j then Some answer.Closed else (if not_cancelled j then Some answer.Cancelled else by_mark m))

    pub effect_is : taking_effect (session.journal ++ event ∷ []) ticket m ≡ (if is_none (by_mark m) then Some call else None)
    effect_is = (λ j. if is_none (forestalled_is j) then mutation_only (called_now j) else None)
        ∙ ap (λ b. if is_none (by_mark m) then (if b then Some call else None) else None) mutates

    settled_shut : is_closed journal ≡ false
    settled_shut = list_any-push is_close (session.journal ++ event ∷ []) (Settle ticket m) ∙ or-false (is_closed (session.journal ++ event ∷ [])) ∙ opened_shut

    module _ (value : Answer) (right : value ≡ reply answer_of (session.journal ++ event ∷ []) ticket m) (found_new : Option Pending) where
      abbrev pub mutating : SessionState
      mutating = record session {
        journal = (session.journal ++ Accept (accepted session.journal) 0 (length session.tickets) call ∷ []) ++ Settle (accepted session.journal) m ∷ [];
        tickets = session.tickets ++ Some (accepted session.journal) ∷ [];
        answers = slice_set (session.answers ++ answer.Closed ∷ []) (accepted session.journal) value;
        found = found_new;
      }

      mutating_noted : IsNoted answer_of problems_of mutating
      mutating_noted = let n = noted_settle answer_of problems_of opened opened_noted ticket m value mutation_within right in
          record { numbered = n.numbered; counted = n.counted; answers = n.answers; problems = n.problems }

      mutating_asked : (asks : List (ℕ × Call)) → All (IsAsked session.journal) asks → All (IsAsked journal) asks
      mutating_asked asks all = asked_stays (session.journal ++ event ∷ []) (Settle ticket m) asks (asked_stays session.journal event asks all)

      pub mutating_in_step : (new : EngineState) → new.asks ≡ state.asks → new.staged ≡ None → new.sources ≡ after journal → InStep answer_of problems_of mutating new
      mutating_in_step new asks staged sources = record {
        holds = held;
        stacked = step.stacked;
        closed = live ∙ sym settled_shut;
        noted = mutating_noted;
        served = record {
          fed = ap (map (λ a. a.0)) asks ∙ step.served.fed;
          asked = mutating_asked new.asks (subst (All (IsAsked session.journal)) (sym asks) step.served.asked);
          staged = staged;
          sources = sources;
        };
      }

      pub mutating_plays : (placed : IsPlaced session.outers) → PlaysOrder (order.Call call) session mutating
      mutating_plays placed = record {
        work = Passed;
        outers = placed.is ∙ (λ j. record { level = placed.level; under_ask = sym (or-false (top_under_ask placed.around)) j; work = Passed } ∷ placed.around) ∙ sym (ap (with_work Passed) placed.is);
        number = length-append session.tickets (Some ticket ∷ []);
        marks = λ without h. marks_front without session.journal (event ∷ []) (marks_front without (session.journal ++ event ∷ []) (Settle ticket m ∷ []) h);
        plays = λ without parts h.
            ap (λ b. if b then all_of parts session.journal else accept_call ticket (mark_of without ticket) (length session.tickets) call (all_of parts) session.journal) shut
            ∙ ap (λ b. if b then (session.journal ++ event ∷ []) ++ Settle ticket (mark_of without ticket) ∷ [] else settle_open ticket (mark_of without ticket) (all_of parts (session.journal ++ event ∷ []))) mutates
            ∙ ap (λ k. (session.journal ++ event ∷ []) ++ Settle ticket k ∷ []) (mark_last without (session.journal ++ event ∷ []) ticket m h);
      }

    pub after_is : after journal ≡ changed (after session.journal) (if is_none (by_mark m) then Some call else None)
    after_is = after-push (session.journal ++ event ∷ []) (Settle ticket m) ∙ (λ j. changed (same_after j) (effect_is j))

    pub checked_is : checked journal ≡ (if is_some (if is_none (by_mark m) then Some call else None) then [] else checked session.journal)
    checked_is = checked-push (session.journal ++ event ∷ []) (Settle ticket m) ∙ (λ j. if is_some (effect_is j) then [] else same_checked j)

  -- the answer of a mutation is that of its mark, whatever the engine's function is
  pub mutation_right : is_mutation call ≡ true → (m : Mark) (other : Sources → Call → Answer)
      → reply other (session.journal ++ event ∷ []) ticket m ≡ reply answer_of (session.journal ++ event ∷ []) ticket m
  mutation_right mutates m other =
      ap (unwrap_or (forestalled (session.journal ++ event ∷ []) ticket m)) (done other ∙ sym (done answer_of))
    where
      done : (f : Sources → Call → Answer) → found f (after (session.journal ++ event ∷ [])) (call_of (session.journal ++ event ∷ []) (accepted session.journal)) ≡ answer.Done
      done f = ap (found f (after (session.journal ++ event ∷ []))) called_now ∙ ap (λ b. if b then answer.Done else f (after (session.journal ++ event ∷ [])) call) mutates
