-- What holds of a journal while lines are played, some of them under open asks.
use Rattle.std.proofs.Common.{◌≡◌, ℕ, Bool, true, false, not, ◌||◌, ◌&&◌, if◌then◌else◌, nat_lt, ◌==◌, List, [], ◌∷◌, ◌++◌, IsTrue, Option, Some, None, is_some, refl, sym, ap, ◌∙◌, arith, ⊎_elim}
use Rattle.std.proofs.Math.Bool.{or-false}
use Rattle.std.specs.List.{list_any}
use Rattle.std.proofs.lemmas.Bool.{and_parts, and_from, and_right, or_parts, or_from, or_cases, eq-eqb, eqb-true, true≢false, false_from_ne_true}
use Rattle.std.proofs.lemmas.Bool.Decides.{nat_tests}
use Rattle.ask_history.specs.Sources.{is_mutation}
use Rattle.ask_history.specs.Journal.{accepted, call_of, call_under, first_of_two, is_close, is_closed, is_settled, settles, is_open}
use Rattle.ask_history.specs.Legal.{holds_back, is_next, may_follow, is_legal}
use Rattle.ask_history.specs.declared.calls.Call.{Call}
use Rattle.ask_history.specs.declared.events.Mark.{Mark}
use Rattle.ask_history.specs.declared.events.Event.{Event}
use Rattle.ask_history.specs.declared.events.Event.TheVariants.{Accept, Cancel, Close, Settle, Checked}
use Rattle.ask_history.proofs.Orders.{is_settled-here}
use Rattle.ask_history.proofs.Pushes.{list_any-push, call_of-push, is_legal-push, is_some-call_of, legal-induction}

-- an accepted mutation that is not settled
abbrev pub waits : List Event → Event → Bool
waits journal (Accept ticket client tag call) = is_mutation call && not (is_settled journal ticket)
waits _ _ = false

abbrev pub is_among : List ℕ → ℕ → Bool
is_among tickets t = list_any (λ u. u == t) tickets

-- The journal is legal, no mutation waits, and the open tickets are those of the asks around; after the shutdown none is.
pub record Holds (under : List ℕ) (journal : List Event) : Type 0 where
  pub legal : IsTrue (is_legal journal)
  pub prompt : list_any (waits journal) journal ≡ false
  pub opens : (t : ℕ) → is_open journal t ≡ (not (is_closed journal) && is_among under t)

pub holds-none : Holds [] []
holds-none = record { legal = refl; prompt = refl; opens = λ t. refl }

-- ---- one event more

some-two : (a b : Option Call) → is_some (first_of_two a b) ≡ (is_some a || is_some b)
some-two None b = refl
some-two (Some call) b = refl

pub is_open-push : (journal : List Event) (event : Event) (t : ℕ)
    → is_open (journal ++ event ∷ []) t ≡ ((is_some (call_of journal t) || is_some (call_under t event)) && not (is_settled journal t || settles t event))
is_open-push journal event t =
    (λ j. is_some (call_of-push journal event t j) && not (list_any-push (settles t) journal event j))
    ∙ ap (λ b. b && not (is_settled journal t || settles t event)) (some-two (call_of journal t) (call_under t event))

settled_less : (b s m : Bool) → (b && not s) ≡ false → (b && not (s || m)) ≡ false
settled_less false s m h = refl
settled_less true true m h = refl
settled_less true false true h = refl
settled_less true false false h = h

waits-less : (journal : List Event) (event : Event) (events : List Event)
    → list_any (waits journal) events ≡ false → list_any (waits (journal ++ event ∷ [])) events ≡ false
waits-less journal event [] h = refl
waits-less journal event (Accept ticket client tag call ∷ events) h =
    let parts = or_parts (waits journal (Accept ticket client tag call)) (list_any (waits journal) events) h in
    or_from _ _
    (ap (λ b. is_mutation call && not b) (list_any-push (settles ticket) journal event)
    ∙ settled_less (is_mutation call) (is_settled journal ticket) (settles ticket event) parts.0)
    (waits-less journal event events parts.1)
waits-less journal event (Cancel ticket ∷ events) h = waits-less journal event events h
waits-less journal event (Close ∷ events) h = waits-less journal event events h
waits-less journal event (Settle ticket m ∷ events) h = waits-less journal event events h
waits-less journal event (Checked file ∷ events) h = waits-less journal event events h

-- no mutation waits after one event more, where that accepts none
pub prompt-push : (journal : List Event) (event : Event) → list_any (waits journal) journal ≡ false
    → waits (journal ++ event ∷ []) event ≡ false → list_any (waits (journal ++ event ∷ [])) (journal ++ event ∷ []) ≡ false
prompt-push journal event h k =
    list_any-push (waits (journal ++ event ∷ [])) journal event ∙ or_from _ _ (waits-less journal event journal h) k

-- where no mutation waits, each open ticket is next
no_hold : (b m s : Bool) → (m && s) ≡ false → (b && m && s) ≡ false
no_hold false m s h = refl
no_hold true m s h = h

holds_back-none : (journal : List Event) (t : ℕ) (events : List Event) → list_any (waits journal) events ≡ false → list_any (holds_back journal t) events ≡ false
holds_back-none journal t [] h = refl
holds_back-none journal t (Accept ticket client tag call ∷ events) h =
    let parts = or_parts (waits journal (Accept ticket client tag call)) (list_any (waits journal) events) h in
    or_from _ _
    (no_hold (nat_lt ticket t) (is_mutation call) (not (is_settled journal ticket)) parts.0)
    (holds_back-none journal t events parts.1)
holds_back-none journal t (Cancel ticket ∷ events) h = holds_back-none journal t events h
holds_back-none journal t (Close ∷ events) h = holds_back-none journal t events h
holds_back-none journal t (Settle ticket m ∷ events) h = holds_back-none journal t events h
holds_back-none journal t (Checked file ∷ events) h = holds_back-none journal t events h

pub may_settle : (journal : List Event) (t : ℕ) → list_any (waits journal) journal ≡ false → is_open journal t ≡ true → (m : Mark) → IsTrue (may_follow journal (Settle t m))
may_settle journal t prompt h m = and_from (is_open journal t) (is_next journal t) h (ap not (holds_back-none journal t journal prompt))

-- ---- what each event keeps

-- a settled ticket was accepted
CalledBefore : List Event → Type 0
CalledBefore journal = (t : ℕ) → is_settled journal t ≡ true → is_some (call_of journal t) ≡ true

called-more : (journal : List Event) (event : Event) → IsTrue (is_legal journal) → IsTrue (may_follow journal event) → CalledBefore journal → CalledBefore (journal ++ event ∷ [])
unfolding CalledBefore
called-more journal event legal may called t h =
    (λ j. is_some (call_of-push journal event t j)) ∙ some-two (call_of journal t) (call_under t event) ∙ ap (λ b. b || is_some (call_under t event)) was
  where
    of_event : (event : Event) → IsTrue (may_follow journal event) → settles t event ≡ true → is_some (call_of journal t) ≡ true
    of_event (Accept ticket client tag call) may k = cc
    of_event (Cancel ticket) may k = cc
    of_event Close may k = cc
    of_event (Settle ticket m) may k =
        let there : is_some (call_of journal ticket) ≡ true =
        (and_parts (is_some (call_of journal ticket)) (not (is_settled journal ticket)) (and_parts (is_open journal ticket) (is_next journal ticket) may).0).0 in
        (λ j. is_some (call_of journal (sym (eqb-true ticket t k) j))) ∙ there
    of_event (Checked file) may k = cc

    was : is_some (call_of journal t) ≡ true
    was = ⊎_elim
        (λ (k : is_settled journal t ≡ true). called t k)
        (λ (k : settles t event ≡ true). of_event event may k)
        (or_cases (is_settled journal t) (settles t event) (sym (list_any-push (settles t) journal event) ∙ h))

pub called : (journal : List Event) → IsTrue (is_legal journal) → (t : ℕ) → is_settled journal t ≡ true → is_some (call_of journal t) ≡ true
unfolding CalledBefore
called journal legal = legal-induction CalledBefore called-more (λ t h. cc) journal legal

module _ (journal : List Event) (legal : IsTrue (is_legal journal)) where
  pub uncalled : is_some (call_of journal (accepted journal)) ≡ false
  uncalled = is_some-call_of journal legal (accepted journal) ∙ none (accepted journal)
    where
      none : (n : ℕ) → nat_lt n n ≡ false
      none n = grind (arith, nat_tests)

  pub unsettled : is_settled journal (accepted journal) ≡ false
  unsettled = false_from_ne_true (is_settled journal (accepted journal)) (λ h. true≢false (sym (called journal legal (accepted journal) h) ∙ uncalled))

-- an event that neither accepts, settles nor shuts down
module _ (under : List ℕ) (journal : List Event) (h : Holds under journal) (event : Event) where
  is_closed-other : is_close event ≡ false → is_closed (journal ++ event ∷ []) ≡ is_closed journal
  is_closed-other e = list_any-push is_close journal event ∙ ap (λ b. is_closed journal || b) e ∙ or-false (is_closed journal)

  is_open-other : (t : ℕ) → is_some (call_under t event) ≡ false → settles t event ≡ false → is_open (journal ++ event ∷ []) t ≡ is_open journal t
  is_open-other t c s =
      is_open-push journal event t
      ∙ (λ j. (is_some (call_of journal t) || c j) && not (is_settled journal t || s j))
      ∙ (λ j. or-false (is_some (call_of journal t)) j && not (or-false (is_settled journal t) j))

  pub holds-aside : IsTrue (may_follow journal event) → waits (journal ++ event ∷ []) event ≡ false → is_close event ≡ false
      → ((t : ℕ) → is_some (call_under t event) ≡ false) → ((t : ℕ) → settles t event ≡ false) → Holds under (journal ++ event ∷ [])
  holds-aside may quick shut calls settlings = record {
    legal = is_legal-push journal event h.legal may;
    prompt = prompt-push journal event h.prompt quick;
    opens = λ t. is_open-other t (calls t) (settlings t) ∙ h.opens t ∙ ap (λ b. not b && is_among under t) (sym (is_closed-other shut));
  }

-- ---- accepting and settling

split_off : (a s e : Bool) → ((a || false) && not (s || e)) ≡ ((a && not s) && not e)
split_off true true e = refl
split_off true false e = refl
split_off false s e = refl

pub is_open-settle : (journal : List Event) (ticket : ℕ) (m : Mark) (t : ℕ) → is_open (journal ++ Settle ticket m ∷ []) t ≡ (is_open journal t && not (ticket == t))
is_open-settle journal ticket m t = is_open-push journal (Settle ticket m) t ∙ split_off (is_some (call_of journal t)) (is_settled journal t) (ticket == t)

rest_of : (n e a : Bool) → (e ≡ true → a ≡ false) → ((n && (e || a)) && not e) ≡ (n && a)
rest_of false e a h = refl
rest_of true true a h = sym (h refl)
rest_of true false true h = refl
rest_of true false false h = refl

module _ (under : List ℕ) (journal : List Event) (h : Holds under journal) (shut : is_closed journal ≡ false) (tag : ℕ) (call : Call) where
  abbrev pub with_accept : List Event
  with_accept = journal ++ Accept (accepted journal) 0 tag call ∷ []

  pub may_accept : IsTrue (may_follow journal (Accept (accepted journal) 0 tag call))
  may_accept = and_from (accepted journal == accepted journal) (not (is_closed journal)) (eq-eqb (accepted journal) (accepted journal) refl) (ap not shut)

  pub accept-shut : is_closed with_accept ≡ false
  accept-shut = is_closed-other under journal h (Accept (accepted journal) 0 tag call) refl ∙ shut

  -- the asks around do not have the next ticket
  pub is_new : is_among under (accepted journal) ≡ false
  is_new = ap (λ b. not b && is_among under (accepted journal)) (sym shut) ∙ sym (h.opens (accepted journal))
      ∙ (λ j. uncalled journal h.legal j && not (is_settled journal (accepted journal)))

  opens-accept : (t : ℕ) → is_open with_accept t ≡ ((accepted journal == t) || is_among under t)
  opens-accept t =
      is_open-push journal (Accept (accepted journal) 0 tag call) t
      ∙ (λ j. (is_some (call_of journal t) || some-under (accepted journal == t) j) && not (or-false (is_settled journal t) j))
      ∙ by (accepted journal == t) refl
    where
      some-under : (b : Bool) → is_some (if b then Some call else None) ≡ b
      some-under true = refl
      some-under false = refl

      or-true : (b : Bool) → (b || true) ≡ true
      or-true true = refl
      or-true false = refl

      by : (b : Bool) → (accepted journal == t) ≡ b → ((is_some (call_of journal t) || b) && not (is_settled journal t)) ≡ (b || is_among under t)
      by true e =
          let same : accepted journal ≡ t = eqb-true (accepted journal) t e in
          (λ j. or-true (is_some (call_of journal t)) j && not (is_settled journal (sym same j))) ∙ ap not (unsettled journal h.legal)
      by false e =
          (λ j. or-false (is_some (call_of journal t)) j && not (is_settled journal t)) ∙ h.opens t ∙ ap (λ b. not b && is_among under t) shut

  -- an ask stands on top of those around
  pub holds-accept : is_mutation call ≡ false → Holds (accepted journal ∷ under) with_accept
  holds-accept ask = record {
    legal = is_legal-push journal (Accept (accepted journal) 0 tag call) h.legal may_accept;
    prompt = prompt-push journal (Accept (accepted journal) 0 tag call) h.prompt (ap (λ b. b && not (is_settled with_accept (accepted journal))) ask);
    opens = λ t. opens-accept t ∙ ap (λ b. not b && is_among (accepted journal ∷ under) t) (sym accept-shut);
  }

  -- a mutation is settled at once
  pub holds-mutation : (m : Mark) → Holds under (with_accept ++ Settle (accepted journal) m ∷ [])
  holds-mutation m = record {
    legal = is_legal-push with_accept (Settle ticket m) (is_legal-push journal event h.legal may_accept) (and_from (is_open with_accept ticket) (is_next with_accept ticket) opened (ap not held));
    prompt = list_any-push (waits after) with_accept (Settle ticket m) ∙ or-false (list_any (waits after) with_accept) ∙ waited;
    opens = λ t. is_open-settle with_accept ticket m t ∙ ap (λ b. b && not (ticket == t)) (opens-accept t)
        ∙ rest_of true (ticket == t) (is_among under t) (new_at t)
        ∙ ap (λ b. not b && is_among under t) (sym (list_any-push is_close with_accept (Settle ticket m) ∙ or-false (is_closed with_accept) ∙ accept-shut));
  }
    where
      ticket : ℕ
      ticket = accepted journal

      event : Event
      event = Accept (accepted journal) 0 tag call

      after : List Event
      after = with_accept ++ Settle (accepted journal) m ∷ []

      opened : is_open with_accept (accepted journal) ≡ true
      opened = opens-accept (accepted journal) ∙ ap (λ b. b || is_among under (accepted journal)) (eq-eqb (accepted journal) (accepted journal) refl)

      before : list_any (waits with_accept) journal ≡ false
      before = waits-less journal (Accept (accepted journal) 0 tag call) journal h.prompt

      not_less : (n : ℕ) → nat_lt n n ≡ false
      not_less n = grind (arith, nat_tests)

      held : list_any (holds_back with_accept (accepted journal)) with_accept ≡ false
      held = list_any-push (holds_back with_accept (accepted journal)) journal (Accept (accepted journal) 0 tag call)
          ∙ or_from _ _ (holds_back-none with_accept (accepted journal) journal before)
          (ap (λ b. b && is_mutation call && not (is_settled with_accept (accepted journal))) (not_less (accepted journal)))

      waited : list_any (waits (with_accept ++ Settle (accepted journal) m ∷ [])) with_accept ≡ false
      waited = list_any-push (waits (with_accept ++ Settle (accepted journal) m ∷ [])) journal (Accept (accepted journal) 0 tag call)
          ∙ or_from _ _ (waits-less with_accept (Settle (accepted journal) m) journal before)
          (and_right (is_mutation call) _ (ap not (is_settled-here with_accept (accepted journal) m)))

      new_at : (t : ℕ) → (accepted journal == t) ≡ true → is_among under t ≡ false
      new_at t e = let same : t ≡ accepted journal = sym (eqb-true (accepted journal) t e) in ap (is_among under) same ∙ is_new

-- the ask on top is settled
pub holds-settle : (under : List ℕ) (ticket : ℕ) (journal : List Event) → Holds (ticket ∷ under) journal → is_among under ticket ≡ false
    → is_open journal ticket ≡ true → (m : Mark) → Holds under (journal ++ Settle ticket m ∷ [])
holds-settle under ticket journal h new top m = record {
  legal = is_legal-push journal (Settle ticket m) h.legal (may_settle journal ticket h.prompt top m);
  prompt = prompt-push journal (Settle ticket m) h.prompt refl;
  opens = λ t. is_open-settle journal ticket m t ∙ ap (λ b. b && not (ticket == t)) (h.opens t)
      ∙ rest_of (not (is_closed journal)) (ticket == t) (is_among under t) (new_at t)
      ∙ ap (λ b. not b && is_among under t) (sym (list_any-push is_close journal (Settle ticket m) ∙ or-false (is_closed journal)));
}
  where
    new_at : (t : ℕ) → (ticket == t) ≡ true → is_among under t ≡ false
    new_at t e = let same : t ≡ ticket = sym (eqb-true ticket t e) in ap (is_among under) same ∙ new

-- a shutdown settled it
pub holds-settled : (under : List ℕ) (ticket : ℕ) (journal : List Event) → Holds (ticket ∷ under) journal → is_open journal ticket ≡ false → Holds under journal
holds-settled under ticket journal h gone = record {
  legal = h.legal;
  prompt = h.prompt;
  opens = λ t. h.opens t ∙ ap (λ b. b && is_among (ticket ∷ under) t) shut ∙ sym (ap (λ b. b && is_among under t) shut);
}
  where
    and-true : (b : Bool) → (b && true) ≡ b
    and-true true = refl
    and-true false = refl

    shut : not (is_closed journal) ≡ false
    shut = sym (and-true (not (is_closed journal)))
        ∙ ap (λ b. not (is_closed journal) && (b || is_among under ticket)) (sym (eq-eqb ticket ticket refl))
        ∙ sym (h.opens ticket) ∙ gone
