-- Cancels, shutdowns and idles are played.
use Rattle.std.proofs.Common.{◌≡◌, ℕ, zero, suc, ◌<◌, ◌+◌, ◌-◌, Bool, true, false, not, ◌||◌, ◌&&◌, ◌==◌, nat_lt, if◌then◌else◌, List, [], ◌∷◌, ◌++◌, length, map, All, Option, Some, None, is_some, unwrap_or, IsTrue, refl, sym, ap, ◌∙◌, subst, arith, true≢false}
use Rattle.std.specs.List.{list_any, list_all}
use Rattle.std.specs.Option.{option_or}
use Rattle.std.proofs.Math.Bool.{or-false}
use Rattle.std.proofs.lemmas.Bool.{and_parts, and_right, eqb-true, eq-eqb, or_parts, or_from, or_right}
use Rattle.std.proofs.lemmas.Bool.Decides.{nat_tests}
use Rattle.std.proofs.lemmas.List.{append-nil}
use Rattle.pc_terms.specs.declared.problems.Problem.{Problem}
use Rattle.ask_history.specs.Sources.{Bytes, Sources, unchecked, some_of}
use Rattle.ask_history.specs.Journal.{accepted, call_of, call_under, first_of_two, ticket_of, ticket_under, tickets, is_close, is_closed, is_cancelled, is_settled, is_open, all_settled, after, checked, findings}
use Rattle.ask_history.specs.Checks.{due, check_begins, check_done}
use Rattle.ask_history.specs.Schedule.{Part, all_of, cancel_ticket, play_checks, play_line}
use Rattle.ask_history.specs.Engine.{EngineState}
use Rattle.ask_history.specs.declared.calls.Call.{Call}
use Rattle.ask_history.specs.declared.answers.Answer.{Answer}
use Rattle.ask_history.specs.declared.script.Order.TheVariants as order
use Rattle.ask_history.specs.declared.events.Event.{Event}
use Rattle.ask_history.specs.declared.events.Event.TheVariants.{Accept, Cancel, Close, Settle, Checked}
use Rattle.ask_history.proofs.Pushes.{list_any-push}
use Rattle.ask_history.proofs.Accepted.{accepted_below}
use Rattle.ask_history.proofs.Underway.{Holds, is_among}
use Rattle.ask_history.proofs.Plays.{keeps-cancel}
use Rattle.schedule_player.specs.Around.{HasMarks, ending, asks_of, ask_onto, fed_of, with_work, onto, around, top_under_ask, is_ask, top_work, AreStacked}
use Rattle.schedule_player.specs.Steps.{IsPlaced, PlaysOrder, IsAccepted, idle_work}
use Rattle.schedule_player.specs.SessionState.{SessionState}
use Rattle.schedule_player.specs.InStep.{IsAsked, IsNoted, IsServed, InStep, IsAhead, ChecksInStep}
use Rattle.schedule_player.specs.declared.session.Pending.{Pending}
use Rattle.schedule_player.specs.declared.outers.Work.{Work}
use Rattle.schedule_player.specs.declared.outers.Work.TheVariants.{Ask, Checks, Check, Beside, Passed}
use Rattle.schedule_player.specs.declared.outers.Outer.{Outer}
use Rattle.schedule_player.proofs.Same.{in_step_at, checks_at}
use Rattle.schedule_player.proofs.Served.{asked_stays}
use Rattle.schedule_player.proofs.Pushing.{after-push, checked-push, findings-push}
use Rattle.schedule_player.proofs.Noted.{noted_cancel}
use Rattle.schedule_player.proofs.Ending.{marks_front}
use Rattle.schedule_player.proofs.CheckRuns.{over}
use Rattle.schedule_player.proofs.Reworks.{Replaces, rework_in_step}

-- ---- cancels

called_by : (journal : List Event) (c k t : ℕ) → ticket_of journal c k ≡ Some t → is_some (call_of journal t) ≡ true
called_by [] c k t h = cc
called_by (event ∷ journal) c k t h = by event (ticket_under c k event) refl (called_by journal c k t)
  where
    some_two : (a b : Option Call) → is_some b ≡ true → is_some (first_of_two a b) ≡ true
    some_two None b e = e
    some_two (Some call) b e = refl

    here : (e : Event) (n : ℕ) → ticket_under c k e ≡ Some n → is_some (call_under n e) ≡ true
    here (Accept ticket client tag call) n e = here_by ((client == c) && (tag == k)) e
      where
        here_by : (b : Bool) → (if b then Some ticket else None) ≡ Some n → is_some (if ticket == n then Some call else None) ≡ true
        here_by true q = let same : ticket ≡ n = cc in ap (λ b. is_some (if b then Some call else None)) (eq-eqb ticket n same)
        here_by false q = cc
    here (Cancel ticket) n e = cc
    here Close n e = cc
    here (Settle ticket m) n e = cc
    here (Checked file) n e = cc

    left_some : (a b : Option Call) → is_some a ≡ true → is_some (first_of_two a b) ≡ true
    left_some None b e = absurd (true≢false (sym e))
    left_some (Some call) b e = refl

    by : (e : Event) (o : Option ℕ) → ticket_under c k event ≡ o → (ticket_of journal c k ≡ Some t → is_some (call_of journal t) ≡ true) → is_some (first_of_two (call_under t event) (call_of journal t)) ≡ true
    by e None q next = some_two (call_under t event) (call_of journal t) (next (sym (ap (λ o. option_or o (ticket_of journal c k)) q) ∙ h))
    by e (Some n) q next =
        let is : Some n ≡ Some t = sym (ap (λ o. option_or o (ticket_of journal c k)) q) ∙ h in
        left_some (call_under t event) (call_of journal t) (here event t (q ∙ is))

module _ (answer_of : Sources → Call → Answer) (problems_of : Sources → Bytes → List Problem) (session : SessionState) (state : EngineState)
    (step : InStep answer_of problems_of session state) where
  pub accepted_by : (k t : ℕ) → ticket_of session.journal 0 k ≡ Some t → IsAccepted session.journal t
  accepted_by k t h = let called = called_by session.journal 0 k t h in record { within = accepted_below session.journal step.holds.legal t called; called = called }

  -- an event that nobody but the journal sees
  module _ (event : Event) (new : Holds (asks_of session.outers) (session.journal ++ event ∷ [])) (noted : IsNoted answer_of problems_of (record session { journal = session.journal ++ event ∷ [] }))
      (closed : is_closed (session.journal ++ event ∷ []) ≡ is_closed session.journal) (same_after : after (session.journal ++ event ∷ []) ≡ after session.journal) (same_checked : checked (session.journal ++ event ∷ []) ≡ checked session.journal) where
    pub aside_in_step : InStep answer_of problems_of (record session { journal = session.journal ++ event ∷ [] }) state
    aside_in_step = record {
      holds = new;
      stacked = step.stacked;
      closed = step.closed ∙ sym closed;
      noted = noted;
      served = let s = step.served in record { fed = s.fed; asked = asked_stays session.journal event state.asks s.asked; staged = s.staged; sources = s.sources ∙ sym same_after };
    }

    aside_ahead : (found : Option Pending) (names : List Bytes) → IsAhead problems_of session.journal found names → IsAhead problems_of (session.journal ++ event ∷ []) found names
    aside_ahead None names h = h ∙ sym same_checked
    aside_ahead (Some f) names h = (
      h.0 ∙ ap (λ ns. ns ++ f.file ∷ []) (sym same_checked),
      h.1 ∙ ap (λ files. problems_of files f.file) (sym same_after),
      h.2,
      (λ j. unchecked (same_checked j) (same_after j)) ∙ h.3,
    )

    pub aside_checks : ChecksInStep problems_of session state → ChecksInStep problems_of (record session { journal = session.journal ++ event ∷ [] }) state
    aside_checks checks = record { skipped = checks.skipped; ahead = aside_ahead session.found state.checked checks.ahead }

  cancels_by : (ticket : Option ℕ) → Holds (asks_of session.outers) (cancel_ticket ticket session.journal)
  cancels_by ticket = keeps-cancel ticket (asks_of session.outers) session.journal step.holds

  pub cancel_in_step : (ticket : Option ℕ) → InStep answer_of problems_of (record session { journal = cancel_ticket ticket session.journal }) state
  cancel_in_step None = step
  cancel_in_step (Some ticket) = by (is_open session.journal ticket && not (is_cancelled session.journal ticket)) (cancels_by (Some ticket))
    where
      by : (b : Bool) → Holds (asks_of session.outers) (if b then session.journal ++ Cancel ticket ∷ [] else session.journal)
          → InStep answer_of problems_of (record session { journal = if b then session.journal ++ Cancel ticket ∷ [] else session.journal }) state
      by true holds = aside_in_step (Cancel ticket) holds (noted_cancel answer_of problems_of session step.noted ticket)
          (list_any-push is_close session.journal (Cancel ticket) ∙ or-false (is_closed session.journal)) (after-push session.journal (Cancel ticket)) (checked-push session.journal (Cancel ticket))
      by false holds = step

  pub cancel_checks : (ticket : Option ℕ) → ChecksInStep problems_of session state → ChecksInStep problems_of (record session { journal = cancel_ticket ticket session.journal }) state
  cancel_checks None checks = checks
  cancel_checks (Some ticket) checks = by (is_open session.journal ticket && not (is_cancelled session.journal ticket)) (cancels_by (Some ticket))
    where
      by : (b : Bool) → Holds (asks_of session.outers) (if b then session.journal ++ Cancel ticket ∷ [] else session.journal)
          → ChecksInStep problems_of (record session { journal = if b then session.journal ++ Cancel ticket ∷ [] else session.journal }) state
      by true holds = aside_checks (Cancel ticket) holds (noted_cancel answer_of problems_of session step.noted ticket)
          (list_any-push is_close session.journal (Cancel ticket) ∙ or-false (is_closed session.journal)) (after-push session.journal (Cancel ticket)) (checked-push session.journal (Cancel ticket)) checks
      by false holds = checks

pub cancel_finds : (problems_of : Sources → Bytes → List Problem) (ticket : Option ℕ) (journal : List Event) → findings problems_of (cancel_ticket ticket journal) ≡ findings problems_of journal
cancel_finds problems_of None journal = refl
cancel_finds problems_of (Some ticket) journal = by (is_open journal ticket && not (is_cancelled journal ticket))
  where
    by : (b : Bool) → findings problems_of (if b then journal ++ Cancel ticket ∷ [] else journal) ≡ findings problems_of journal
    by true = findings-push problems_of journal (Cancel ticket)
    by false = refl

cancel_marks : (without : List ℕ) (ticket : Option ℕ) (journal : List Event) → HasMarks without (cancel_ticket ticket journal) → HasMarks without journal
cancel_marks without None journal h = h
cancel_marks without (Some ticket) journal h = by (is_open journal ticket && not (is_cancelled journal ticket)) h
  where
    by : (b : Bool) → HasMarks without (if b then journal ++ Cancel ticket ∷ [] else journal) → HasMarks without journal
    by true k = marks_front without journal (Cancel ticket ∷ []) k
    by false k = k

-- the line stays as it was placed
pub placed_passed : (outers : List Outer) → IsPlaced outers → outers ≡ with_work Passed outers
placed_passed outers placed =
    placed.is ∙ (λ j. record { level = placed.level; under_ask = sym (or-false (top_under_ask placed.around)) j; work = Passed } ∷ placed.around) ∙ sym (ap (with_work Passed) placed.is)

pub cancel_plays : (tag : ℕ) (old new : SessionState) (ticket : Option ℕ) → ticket ≡ ticket_of old.journal 0 tag → new ≡ record old { journal = cancel_ticket ticket old.journal } → IsPlaced old.outers → PlaysOrder (order.Cancel tag) old new
cancel_plays tag old new ticket is e placed = record {
  work = Passed;
  outers = ap {A = SessionState} (λ s. s.outers) e ∙ placed_passed old.outers placed;
  number = ap {A = SessionState} (λ s. length s.tickets) e;
  marks = λ without h. cancel_marks without ticket old.journal (subst (λ s. HasMarks without s.journal) e h);
  plays = λ without parts h. ap (λ t. cancel_ticket t old.journal) (sym is) ∙ ap {A = SessionState} (λ s. s.journal) (sym e);
}

pub wait_plays : (tag : ℕ) (old : SessionState) → IsPlaced old.outers → PlaysOrder (order.Wait tag) old old
wait_plays tag old placed = record { work = Passed; outers = placed_passed old.outers placed; number = refl; marks = λ without h. h; plays = λ without parts h. refl }

-- ---- idles

idle_over : (parts : List Part) (journal : List Event) → check_begins journal ≡ false → play_checks 0 parts journal ≡ all_of parts journal
idle_over [] journal h = over (length (due journal)) journal h
idle_over (part ∷ parts) journal h =
    (λ j. if check_begins (over (part.check - 0) journal h j) then play_checks (part.check + 1) parts (check_done (part.play (over (part.check - 0) journal h j))) else all_of (part ∷ parts) (over (part.check - 0) journal h j))
    ∙ ap (λ b. if b then play_checks (part.check + 1) parts (check_done (part.play journal)) else all_of (part ∷ parts) journal) h

none_by : (w : Work) (asks : List ℕ) → is_ask w ≡ false → ask_onto w asks ≡ asks
none_by (Ask ticket is_fed turns) asks h = absurd (true≢false h)
none_by (Checks next) asks h = refl
none_by (Check number turns) asks h = refl
none_by Beside asks h = refl
none_by Passed asks h = refl

no_asks : (outers : List Outer) → AreStacked outers → top_under_ask outers ≡ false → asks_of outers ≡ []
no_asks [] stacked h = refl
no_asks (outer ∷ outers) stacked h =
    let parts = or_parts (top_under_ask outers) (is_ask outer.work) (sym stacked.1 ∙ h) in
    none_by outer.work (asks_of outers) parts.1 ∙ no_asks outers stacked.2 parts.0

some_by : (w : Work) (asks : List ℕ) → is_ask w ≡ true → (t : ℕ) × (is_among (ask_onto w asks) t ≡ true)
some_by (Ask ticket is_fed turns) asks h = (ticket, ap (λ b. b || is_among asks ticket) (eq-eqb ticket ticket refl))
some_by (Checks next) asks h = absurd (true≢false (sym h))
some_by (Check number turns) asks h = absurd (true≢false (sym h))
some_by Beside asks h = absurd (true≢false (sym h))
some_by Passed asks h = absurd (true≢false (sym h))

more_by : (w : Work) (asks : List ℕ) (t : ℕ) → is_among asks t ≡ true → is_among (ask_onto w asks) t ≡ true
more_by (Ask ticket is_fed turns) asks t h = or_right (ticket == t) _ h
more_by (Checks next) asks t h = h
more_by (Check number turns) asks t h = h
more_by Beside asks t h = h
more_by Passed asks t h = h

some_asks : (outers : List Outer) → AreStacked outers → top_under_ask outers ≡ true → (t : ℕ) × (is_among (asks_of outers) t ≡ true)
some_asks [] stacked h = absurd (true≢false (sym h))
some_asks (outer ∷ outers) stacked h = by (top_under_ask outers) refl (some_asks outers stacked.2)
  where
    by : (b : Bool) → top_under_ask outers ≡ b → (top_under_ask outers ≡ true → (t : ℕ) × (is_among (asks_of outers) t ≡ true)) → (t : ℕ) × (is_among (ask_onto outer.work (asks_of outers)) t ≡ true)
    by true e next = let found = next e in (found.0, more_by outer.work (asks_of outers) found.0 found.1)
    by false e next = some_by outer.work (asks_of outers) (ap (λ b. b || is_ask outer.work) (sym e) ∙ sym stacked.1 ∙ h)

unsettled_some : (events : List Event) (settled : ℕ → Bool) (t : ℕ) → is_some (call_of events t) ≡ true → settled t ≡ false → list_all settled (tickets events) ≡ false
unsettled_some [] settled t h u = absurd (true≢false (sym h))
unsettled_some (Accept ticket client tag call ∷ events) settled t h u = by (ticket == t) refl (unsettled_some events settled t)
  where
    left_none : (b c : Bool) → b ≡ false → (b && c) ≡ false
    left_none true c e = absurd (true≢false e)
    left_none false c e = refl

    by : (b : Bool) → (ticket == t) ≡ b → (is_some (call_of events t) ≡ true → settled t ≡ false → list_all settled (tickets events) ≡ false) → (settled ticket && list_all settled (tickets events)) ≡ false
    by true e next = left_none (settled ticket) (list_all settled (tickets events)) (ap settled (eqb-true ticket t e) ∙ u)
    by false e next = and_right (settled ticket) _ (next (sym (ap (λ b. is_some (first_of_two (if b then Some call else None) (call_of events t))) e) ∙ h) u)
unsettled_some (Cancel ticket ∷ events) settled t h u = unsettled_some events settled t h u
unsettled_some (Close ∷ events) settled t h u = unsettled_some events settled t h u
unsettled_some (Settle ticket m ∷ events) settled t h u = unsettled_some events settled t h u
unsettled_some (Checked file ∷ events) settled t h u = unsettled_some events settled t h u

module _ (answer_of : Sources → Call → Answer) (problems_of : Sources → Bytes → List Problem) (session : SessionState) (state : EngineState)
    (step : InStep answer_of problems_of session state) (placed : IsPlaced session.outers) where
  -- no check begins where the session is shut down or an ask is open
  no_begin : (session.closed || top_under_ask session.outers) ≡ true → check_begins session.journal ≡ false
  no_begin h = by (is_closed session.journal) refl
    where
      by : (b : Bool) → is_closed session.journal ≡ b → check_begins session.journal ≡ false
      by true e = ap (λ b. (not b && all_settled session.journal) && some_of (due session.journal)) e
      by false e =
          let under : top_under_ask session.outers ≡ true = sym (ap (λ b. b || top_under_ask session.outers) (step.closed ∙ e)) ∙ h in
          let found = some_asks session.outers step.stacked under in
          let open_ : is_open session.journal found.0 ≡ true = step.holds.opens found.0 ∙ (λ j. not (e j) && found.1 j) in
          let parts = and_parts (is_some (call_of session.journal found.0)) (not (is_settled session.journal found.0)) open_ in
          let unsettled : all_settled session.journal ≡ false = unsettled_some session.journal (is_settled session.journal) found.0 parts.0 (not_true (is_settled session.journal found.0) parts.1) in
          ap (λ b. (not (is_closed session.journal) && b) && some_of (due session.journal)) unsettled
          ∙ ap (λ b. b && some_of (due session.journal)) (and_right (not (is_closed session.journal)) false refl)
        where
          not_true : (b : Bool) → not b ≡ true → b ≡ false
          not_true true k = sym k
          not_true false k = refl

  top_passed : top_work session.outers ≡ Passed
  top_passed = ap top_work placed.is

  idle_replaces : (b : Bool) → (session.closed || top_under_ask session.outers) ≡ b → Replaces (top_work session.outers) (if b then Beside else Checks 0) (asks_of (around session.outers))
  idle_replaces true e = subst (λ w. Replaces w Beside (asks_of (around session.outers))) (sym top_passed) (record { onto = refl; fed = λ ts. refl; stands = tt; is = refl })
  idle_replaces false e =
      let none : asks_of session.outers ≡ [] = no_asks session.outers step.stacked (or_parts session.closed (top_under_ask session.outers) e).1 in
      let below : asks_of (around session.outers) ≡ [] = ap (λ fs. asks_of (around fs)) placed.is ∙ sym (ap asks_of placed.is) ∙ none in
      subst (λ w. Replaces w (Checks 0) (asks_of (around session.outers))) (sym top_passed) (record { onto = refl; fed = λ ts. refl; stands = below; is = refl })

  pub idle_in_step : InStep answer_of problems_of (record session { outers = with_work (idle_work session) session.outers }) state
  idle_in_step = rework_in_step answer_of problems_of session state (idle_work session) step (idle_replaces (session.closed || top_under_ask session.outers) refl)

  pub idle_plays : PlaysOrder order.Idle session (record session { outers = with_work (idle_work session) session.outers })
  idle_plays = record {
    work = idle_work session;
    outers = refl;
    number = refl;
    marks = λ without h. h;
    plays = λ without parts h. by without parts (session.closed || top_under_ask session.outers) refl;
  }
    where
      by : (without : List ℕ) (parts : List Part) (b : Bool) → (session.closed || top_under_ask session.outers) ≡ b
          → play_checks 0 parts session.journal ≡ ending without (if b then Beside else Checks 0) parts session.journal
      by without parts true e = idle_over parts session.journal (no_begin e)
      by without parts false e = refl
