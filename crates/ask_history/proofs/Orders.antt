-- When a ticket may be settled, and what stays settled.
use Rattle.std.proofs.Common.{◌≡◌, ℕ, ◌<◌, Bool, true, false, not, ◌||◌, ◌&&◌, nat_lt, List, [], ◌∷◌, ◌++◌, is_some, IsTrue, refl, sym, ap, ◌∙◌, arith}
use Rattle.std.specs.List.{list_any}
use Rattle.std.proofs.lemmas.Bool.{and_from, eq-eqb}
use Rattle.std.proofs.lemmas.Bool.Decides.{nat_tests}
use Rattle.std.proofs.lemmas.List.Folds.{list_any-append}
use Rattle.ask_history.specs.Sources.{is_mutation}
use Rattle.ask_history.specs.Journal.{accepted, call_of, is_settled, is_open, settles}
use Rattle.ask_history.specs.Legal.{holds_back, is_next, is_legal}
use Rattle.ask_history.specs.declared.events.Mark.{Mark}
use Rattle.ask_history.specs.declared.events.Event.{Event}
use Rattle.ask_history.specs.declared.events.Event.TheVariants.{Accept, Cancel, Close, Settle, Checked}
use Rattle.ask_history.proofs.Pushes.{list_any-push, is_some-call_of}

or_true : (b : Bool) → (b || true) ≡ true
or_true true = refl
or_true false = refl

module _ (journal : List Event) (t : ℕ) where
  pub is_settled-append : (events : List Event) → is_settled journal t ≡ true → is_settled (journal ++ events) t ≡ true
  is_settled-append events h = list_any-append (settles t) journal events ∙ ap (λ b. b || list_any (settles t) events) h

  pub is_settled-here : (mark : Mark) → is_settled (journal ++ Settle t mark ∷ []) t ≡ true
  is_settled-here mark =
      list_any-push (settles t) journal (Settle t mark) ∙ ap (λ b. is_settled journal t || b) (eq-eqb t t refl) ∙ or_true (is_settled journal t)

  -- an accepted ticket is open where it is not settled
  pub is_open-from : IsTrue (is_legal journal) → t < accepted journal → is_settled journal t ≡ false → IsTrue (is_open journal t)
  is_open-from legal within unsettled =
      and_from (is_some (call_of journal t)) (not (is_settled journal t)) (is_some-call_of journal legal t ∙ less) (ap not unsettled)
    where
      less : nat_lt t (accepted journal) ≡ true
      less = grind (arith, nat_tests)

  module _ (before : (k : ℕ) → k < t → is_settled journal k ≡ true) where
    holds_back-none : (events : List Event) → list_any (holds_back journal t) events ≡ false
    holds_back-none [] = refl
    holds_back-none (Accept ticket client tag call ∷ events) = by (nat_lt ticket t) refl ∙ holds_back-none events
      where
        less : nat_lt ticket t ≡ true → ticket < t
        less h = grind (arith, nat_tests)

        none : (b c : Bool) → c ≡ true → (b && not c) ≡ false
        none true true h = refl
        none true false h = sym h
        none false c h = refl

        rest : Bool
        rest = list_any (holds_back journal t) events

        by : (b : Bool) → nat_lt ticket t ≡ b → ((b && is_mutation call && not (is_settled journal ticket)) || rest) ≡ rest
        by true h = ap (λ b. b || rest) (none (true && is_mutation call) (is_settled journal ticket) (before ticket (less h)))
        by false h = refl
    holds_back-none (Cancel ticket ∷ events) = holds_back-none events
    holds_back-none (Close ∷ events) = holds_back-none events
    holds_back-none (Settle ticket m ∷ events) = holds_back-none events
    holds_back-none (Checked file ∷ events) = holds_back-none events

    -- a ticket is next where all below it are settled
    pub is_next-from : IsTrue (is_next journal t)
    is_next-from = ap not (holds_back-none journal)
