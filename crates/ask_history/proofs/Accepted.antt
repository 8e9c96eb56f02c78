-- In a legal journal each ticket is accepted once, before all else of it, and settled once at most.
use Rattle.std.proofs.Common.{◌≡◌, ℕ, ◌<◌, ◌≤◌, Bool, true, false, not, ◌||◌, nat_lt, true≢false, List, [], ◌∷◌, ◌++◌, IsTrue, Option, Some, None, is_some, refl, sym, ap, ◌∙◌, subst, arith}
use Rattle.std.proofs.lemmas.Bool.{and_parts, eqb-true}
use Rattle.std.proofs.lemmas.Bool.Decides.{nat_tests}
use Rattle.ask_history.specs.Journal.{accepted, call_of, call_under, first_of_two, is_settled, is_open, settles}
use Rattle.ask_history.specs.Legal.{may_follow, is_legal, is_next}
use Rattle.ask_history.specs.declared.calls.Call.{Call}
use Rattle.ask_history.specs.declared.events.Mark.{Mark}
use Rattle.ask_history.specs.declared.events.Event.{Event}
use Rattle.ask_history.specs.declared.events.Event.TheVariants.{Accept, Cancel, Close, Settle, Checked}
use Rattle.ask_history.proofs.Pushes.{list_any-push, call_of-push, is_some-call_of, legal-induction}

-- a ticket that is not below the number of accepted calls has no call
pub next_unaccepted : (journal : List Event) → IsTrue (is_legal journal) → (t : ℕ) → accepted journal ≤ t → is_some (call_of journal t) ≡ false
next_unaccepted journal legal t h = is_some-call_of journal legal t ∙ above
  where
    above : nat_lt t (accepted journal) ≡ false
    above = grind (arith, nat_tests)

pub accepted_below : (journal : List Event) → IsTrue (is_legal journal) → (t : ℕ) → IsTrue (is_some (call_of journal t)) → t < accepted journal
accepted_below journal legal t h = less (sym (is_some-call_of journal legal t) ∙ h)
  where
    less : nat_lt t (accepted journal) ≡ true → t < accepted journal
    less e = grind (arith, nat_tests)

-- what is settled was accepted
SettledAccepted : List Event → Type 0
SettledAccepted journal = (t : ℕ) → IsTrue (is_settled journal t) → IsTrue (is_some (call_of journal t))

more_settled : (journal : List Event) (event : Event) → IsTrue (is_legal journal) → IsTrue (may_follow journal event) → SettledAccepted journal → SettledAccepted (journal ++ event ∷ [])
unfolding SettledAccepted
more_settled journal event legal may before t h =
    ap is_some (call_of-push journal event t) ∙ some_two (call_of journal t) (call_under t event) (by (is_settled journal t) refl (sym (list_any-push (settles t) journal event) ∙ h))
  where
    some_two : (a b : Option Call) → is_some a ≡ true → is_some (first_of_two a b) ≡ true
    some_two None b k = absurd (true≢false (sym k))
    some_two (Some call) b k = refl

    named : (e : Event) → settles t e ≡ true → IsTrue (may_follow journal e) → is_some (call_of journal t) ≡ true
    named (Accept ticket client tag call) k m = absurd (true≢false (sym k))
    named (Cancel ticket) k m = absurd (true≢false (sym k))
    named Close k m = absurd (true≢false (sym k))
    named (Settle ticket mark) k m =
        let same : ticket ≡ t = eqb-true ticket t k in
        let open_ = (and_parts (is_open journal ticket) (is_next journal ticket) m).0 in
        subst (λ n. is_some (call_of journal n) ≡ true) same (and_parts (is_some (call_of journal ticket)) (not (is_settled journal ticket)) open_).0
    named (Checked file) k m = absurd (true≢false (sym k))

    by : (b : Bool) → is_settled journal t ≡ b → (is_settled journal t || settles t event) ≡ true → is_some (call_of journal t) ≡ true
    by true e k = before t e
    by false e k = named event (ap (λ b. b || settles t event) (sym e) ∙ k) may

pub settled_accepted : (journal : List Event) → IsTrue (is_legal journal) → (t : ℕ) → IsTrue (is_settled journal t) → IsTrue (is_some (call_of journal t))
unfolding SettledAccepted
settled_accepted journal legal = legal-induction SettledAccepted more_settled none journal legal
  where
    none : (t : ℕ) → IsTrue false → IsTrue false
    none t h = h

-- a ticket is settled once at most
pub settled_once : (journal : List Event) (t : ℕ) (mark : Mark) → IsTrue (may_follow journal (Settle t mark)) → is_settled journal t ≡ false
settled_once journal t mark h = not_true (is_settled journal t) (and_parts (is_some (call_of journal t)) (not (is_settled journal t)) (and_parts (is_open journal t) (is_next journal t) h).0).1
  where
    not_true : (b : Bool) → not b ≡ true → b ≡ false
    not_true true k = sym k
    not_true false k = refl
