-- What one event more does to what a journal says.
use Rattle.std.proofs.Common.{◌≡◌, ℕ, Bool, true, false, not, ◌||◌, ◌&&◌, ◌==◌, if◌then◌else◌, List, [], ◌∷◌, ◌++◌, Option, Some, None, is_some, is_none, IsTrue, refl, sym, ap, ◌∙◌, subst, true≢false}
use Rattle.std.specs.List.{list_any}
use Rattle.std.specs.Option.{option_or}
use Rattle.std.proofs.lemmas.Bool.{and_parts, or_parts, eqb-true, not-false}
use Rattle.pc_terms.specs.declared.problems.Problem.{Problem}
use Rattle.ask_history.specs.Sources.{Bytes, Sources, is_mutation}
use Rattle.ask_history.specs.Walk.{walk}
use Rattle.ask_history.specs.Journal.{accepted, call_of, call_under, first_of_two, ticket_of, ticket_under, is_closed, is_cancelled, cancels, is_settled, is_open, settles, after, sources_step, checked, checked_step, reply, reply_step, reply_in, findings, finding_step, forestalled, taking_effect, mutation_only}
use Rattle.ask_history.specs.Legal.{is_legal, may_follow, is_next}
use Rattle.ask_history.specs.declared.calls.Call.{Call}
use Rattle.ask_history.specs.declared.answers.Answer.{Answer}
use Rattle.ask_history.specs.declared.events.Mark.{Mark}
use Rattle.ask_history.specs.declared.events.Event.{Event}
use Rattle.ask_history.specs.declared.events.Event.TheVariants.{Accept, Cancel, Close, Settle, Checked}
use Rattle.ask_history.proofs.Walks.{along-push}
use Rattle.ask_history.proofs.Pushes.{list_any-push, call_of-push, legal-induction}
use Rattle.ask_history.proofs.Underway.{waits}

or-assoc : {A : Type 0} (a b c : Option A) → option_or a (option_or b c) ≡ option_or (option_or a b) c
or-assoc None b c = refl
or-assoc (Some x) b c = refl

pub or-none : {A : Type 0} (a : Option A) → option_or a None ≡ a
or-none None = refl
or-none (Some x) = refl

pub ticket_of-push : (journal : List Event) (event : Event) (c k : ℕ) → ticket_of (journal ++ event ∷ []) c k ≡ option_or (ticket_of journal c k) (ticket_under c k event)
ticket_of-push [] event c k = or-none (ticket_under c k event)
ticket_of-push (first ∷ journal) event c k =
    ap (option_or (ticket_under c k first)) (ticket_of-push journal event c k) ∙ or-assoc (ticket_under c k first) (ticket_of journal c k) (ticket_under c k event)

pub after-push : (journal : List Event) (event : Event) → after (journal ++ event ∷ []) ≡ sources_step journal (after journal) event
after-push journal event = along-push sources_step [] journal event

pub checked-push : (journal : List Event) (event : Event) → checked (journal ++ event ∷ []) ≡ checked_step journal (checked journal) event
checked-push journal event = along-push checked_step [] journal event

module _ (answer_of : Sources → Call → Answer) (t : ℕ) where
  pub reply_in-push : (journal : List Event) (event : Event) → reply_in answer_of (journal ++ event ∷ []) t ≡ reply_step answer_of t journal (reply_in answer_of journal t) event
  reply_in-push journal event = along-push (reply_step answer_of t) None journal event

  none_given : (events before : List Event) (given : Option Answer) → list_any (settles t) events ≡ false → walk (reply_step answer_of t) given before events ≡ given
  none_given [] before given h = refl
  none_given (Accept ticket client tag call ∷ events) before given h = none_given events _ given h
  none_given (Cancel ticket ∷ events) before given h = none_given events _ given h
  none_given (Close ∷ events) before given h = none_given events _ given h
  none_given (Settle ticket m ∷ events) before given h =
      let parts = or_parts (ticket == t) (list_any (settles t) events) h in
      ap (λ b. walk (reply_step answer_of t) (if b then Some (reply answer_of before t m) else given) (before ++ Settle ticket m ∷ []) events) parts.0
      ∙ none_given events _ given parts.1
  none_given (Checked file ∷ events) before given h = none_given events _ given h

  -- what is not settled has no answer
  pub none_yet : (journal : List Event) → is_settled journal t ≡ false → reply_in answer_of journal t ≡ None
  none_yet journal h = none_given journal [] None h

pub findings-push : (problems_of : Sources → Bytes → List Problem) (journal : List Event) (event : Event)
    → findings problems_of (journal ++ event ∷ []) ≡ finding_step problems_of journal (findings problems_of journal) event
findings-push problems_of journal event = along-push (finding_step problems_of) [] journal event

-- a call stays
pub call_stays : (journal : List Event) (event : Event) (t : ℕ) (call : Call) → call_of journal t ≡ Some call → call_of (journal ++ event ∷ []) t ≡ Some call
call_stays journal event t call h = call_of-push journal event t ∙ ap (λ o. first_of_two o (call_under t event)) h

-- ---- an open ticket of which no mutation waits is an ask

open_ask_one : (journal : List Event) (ticket : ℕ) (first : Call) (events : List Event) (t : ℕ) (call : Call) → is_settled journal t ≡ false
    → (is_mutation first && not (is_settled journal ticket)) ≡ false → (call_of events t ≡ Some call → is_mutation call ≡ false)
    → first_of_two (if ticket == t then Some first else None) (call_of events t) ≡ Some call → is_mutation call ≡ false
open_ask_one journal ticket first events t call unsettled none next h = by (ticket == t) refl
  where
    left_false : (b s : Bool) → s ≡ false → (b && not s) ≡ false → b ≡ false
    left_false true true e k = e
    left_false true false e k = k
    left_false false s e k = refl

    by : (b : Bool) → (ticket == t) ≡ b → is_mutation call ≡ false
    by true e =
        let same : ticket ≡ t = eqb-true ticket t e in
        let here : Some first ≡ Some call = sym (ap (λ b. first_of_two (if b then Some first else None) (call_of events t)) e) ∙ h in
        let is : first ≡ call = cc in
        ap is_mutation (sym is) ∙ left_false (is_mutation first) (is_settled journal ticket) (ap (is_settled journal) same ∙ unsettled) none
    by false e = next (sym (ap (λ b. first_of_two (if b then Some first else None) (call_of events t)) e) ∙ h)

open_ask_from : (journal events : List Event) (t : ℕ) (call : Call) → is_settled journal t ≡ false → list_any (waits journal) events ≡ false → call_of events t ≡ Some call
    → is_mutation call ≡ false
open_ask_from journal [] t call unsettled none h = cc
open_ask_from journal (Accept ticket client tag first ∷ events) t call unsettled none h =
    open_ask_one journal ticket first events t call unsettled (or_parts (waits journal (Accept ticket client tag first)) (list_any (waits journal) events) none).0
    (open_ask_from journal events t call unsettled (or_parts (waits journal (Accept ticket client tag first)) (list_any (waits journal) events) none).1) h
open_ask_from journal (Cancel ticket ∷ events) t call unsettled none h = open_ask_from journal events t call unsettled none h
open_ask_from journal (Close ∷ events) t call unsettled none h = open_ask_from journal events t call unsettled none h
open_ask_from journal (Settle ticket m ∷ events) t call unsettled none h = open_ask_from journal events t call unsettled none h
open_ask_from journal (Checked file ∷ events) t call unsettled none h = open_ask_from journal events t call unsettled none h

no_effect_of : (b : Bool) (o : Option Call) → mutation_only o ≡ None → (if b then mutation_only o else None) ≡ None
no_effect_of true o h = h
no_effect_of false o h = refl

-- the settling of such a ticket changes no source
pub no_effect : (journal : List Event) (t : ℕ) (m : Mark) → is_open journal t ≡ true → list_any (waits journal) journal ≡ false → taking_effect journal t m ≡ None
no_effect journal t m o prompt = no_effect_of (is_none (forestalled journal t m)) (call_of journal t) (by (call_of journal t) refl)
  where
    parts : (is_some (call_of journal t) ≡ true) × (not (is_settled journal t) ≡ true)
    parts = and_parts (is_some (call_of journal t)) (not (is_settled journal t)) o

    not_true : (b : Bool) → not b ≡ true → b ≡ false
    not_true true h = sym h
    not_true false h = refl

    by : (c : Option Call) → call_of journal t ≡ c → mutation_only c ≡ None
    by None e = refl
    by (Some call) e = ap (λ b. if b then Some call else None) (open_ask_from journal journal t call (not_true (is_settled journal t) parts.1) prompt e)

-- ---- what a mutation that was accepted just now is

-- a cancelled ticket was accepted
CancelledBefore : List Event → Type 0
CancelledBefore journal = (t : ℕ) → is_cancelled journal t ≡ true → is_some (call_of journal t) ≡ true

cancelled-more : (journal : List Event) (event : Event) → IsTrue (is_legal journal) → IsTrue (may_follow journal event) → CancelledBefore journal → CancelledBefore (journal ++ event ∷ [])
unfolding CancelledBefore
cancelled-more journal event legal may known t h = ap is_some (call_of-push journal event t) ∙ some_two (call_of journal t) (call_under t event) (by (is_cancelled journal t) refl)
  where
    some_two : (a b : Option Call) → is_some a ≡ true → is_some (first_of_two a b) ≡ true
    some_two None b k = absurd (true≢false (sym k))
    some_two (Some call) b k = refl

    of_event : (e : Event) → IsTrue (may_follow journal e) → cancels t e ≡ true → is_some (call_of journal t) ≡ true
    of_event (Accept ticket client tag call) m k = cc
    of_event (Cancel ticket) m k =
        let there : is_open journal ticket ≡ true = (and_parts (is_open journal ticket) (not (is_cancelled journal ticket)) (and_parts (is_open journal ticket && not (is_cancelled journal ticket)) (not (is_closed journal)) m).0).0 in
        subst (λ n. is_some (call_of journal n) ≡ true) (eqb-true ticket t k) (and_parts (is_some (call_of journal ticket)) (not (is_settled journal ticket)) there).0
    of_event Close m k = cc
    of_event (Settle ticket mark) m k = cc
    of_event (Checked file) m k = cc

    by : (b : Bool) → is_cancelled journal t ≡ b → is_some (call_of journal t) ≡ true
    by true e = known t e
    by false e = of_event event may (ap (λ b. b || cancels t event) (sym e) ∙ sym (list_any-push (cancels t) journal event) ∙ h)

pub cancelled_called : (journal : List Event) → IsTrue (is_legal journal) → (t : ℕ) → is_cancelled journal t ≡ true → is_some (call_of journal t) ≡ true
unfolding CancelledBefore
cancelled_called journal legal = legal-induction CancelledBefore cancelled-more (λ t h. cc) journal legal
