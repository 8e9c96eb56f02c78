-- The loop that settles all open tickets in ascending order.
use Rattle.std.proofs.Common.{◌≡◌, ◌≢◌, ℕ, ◌+◌, ◌<◌, ◌≤◌, zero, suc, Bool, true, false, not, ◌||◌, ◌&&◌, if◌then◌else◌, List, [], ◌∷◌, ◌++◌, is_some, IsTrue, refl, sym, ap, ◌∙◌, subst, arith, add-one, add-zero, append_assoc, append-nil, ⊎_elim}
use Rattle.std.proofs.lemmas.Bool.{cases_eq, ne_eqb, and_from}
use Rattle.std.proofs.lemmas.List.{map-append}
use Rattle.std.proofs.Math.Bool.{or-false}
use Rattle.ask_history.specs.Journal.{accepted, call_of, is_settled, is_open, settles}
use Rattle.ask_history.specs.Legal.{is_next, may_follow, is_legal}
use Rattle.ask_history.specs.declared.events.Mark.{Mark}
use Rattle.ask_history.specs.declared.events.Mark.TheVariants as mark
use Rattle.ask_history.specs.declared.events.Event.{Event}
use Rattle.ask_history.specs.declared.events.Event.TheVariants.{Close, Settle}
use Rattle.ask_history.proofs.Pushes.{list_any-push, accepted-push, call_of-push, is_legal-push, two-none}
use Rattle.ask_history.proofs.Orders.{is_settled-append, is_settled-here, is_next-from}
use Rattle.work_queue.specs.Closing.{open_below, settled}

-- a settling leaves the other tickets
is_open-other : (journal : List Event) (t k : ℕ) (m : Mark) → k ≢ t → is_open (journal ++ Settle t m ∷ []) k ≡ is_open journal k
is_open-other journal t k m ne =
    (λ j. is_some ((call_of-push journal (Settle t m) k ∙ two-none (call_of journal k)) j)
    && not ((list_any-push (settles k) journal (Settle t m) ∙ ap (λ b. is_settled journal k || b) (ne_eqb t k (λ e. ne (sym e))) ∙ or-false (is_settled journal k)) j))

-- the tickets below i are settled, in ascending order
pub record IsSettling (start now : List Event) (i : ℕ) : Type 0 where
  pub journal : now ≡ start ++ settled (open_below start i)
  pub count : accepted now ≡ accepted start
  pub done : (k : ℕ) → k < i → is_settled now k ≡ true
  pub ahead : (k : ℕ) → i ≤ k → is_open now k ≡ is_open start k
  pub legal : IsTrue (is_legal now)

pub settling-none : (start : List Event) → IsTrue (is_legal start) → IsSettling start start 0
settling-none start legal = record {
  journal = sym (append-nil start);
  count = refl;
  done = λ k h. absurd (let no : ⊥ = omega arith in no);
  ahead = λ k h. refl;
  legal = legal;
}

module _ (start now : List Event) (i : ℕ) (settling : IsSettling start now i) where
  open_below-more : (b : Bool) → is_open now i ≡ b → open_below start (i + 1) ≡ open_below start i ++ (if b then i ∷ [] else [])
  open_below-more b h = ap (open_below start) (add-one i) ∙ ap (λ c. open_below start i ++ (if c then i ∷ [] else [])) (sym (settling.ahead i (omega arith)) ∙ h)

  -- an open ticket may be settled next
  pub settling_may : is_open now i ≡ true → IsTrue (may_follow now (Settle i mark.Done))
  settling_may h = and_from (is_open now i) (is_next now i) h (is_next-from now i settling.done)

  pub settling-more : is_open now i ≡ true → IsSettling start (now ++ Settle i mark.Done ∷ []) (i + 1)
  settling-more h = record {
    journal = ap (λ js. js ++ Settle i mark.Done ∷ []) settling.journal
        ∙ append_assoc start (settled (open_below start i)) (Settle i mark.Done ∷ [])
        ∙ ap (λ es. start ++ es) (sym (map-append (λ t. Settle t mark.Done) (open_below start i) (i ∷ [])) ∙ ap settled (sym (open_below-more true h)));
    count = accepted-push now (Settle i mark.Done) ∙ add-zero (accepted now) ∙ settling.count;
    done = λ k less. ⊎_elim
        (λ (e : k ≡ i). subst (λ j. is_settled (now ++ Settle i mark.Done ∷ []) j ≡ true) (sym e) (is_settled-here now i mark.Done))
        (λ (ne : k ≢ i). is_settled-append now k (Settle i mark.Done ∷ []) (settling.done k (omega arith)))
        (cases_eq k i);
    ahead = λ k more. is_open-other now i k mark.Done (λ e. omega arith) ∙ settling.ahead k (omega arith);
    legal = is_legal-push now (Settle i mark.Done) settling.legal (settling_may h);
  }

  pub settling-skip : is_open now i ≡ false → is_settled now i ≡ true → IsSettling start now (i + 1)
  settling-skip h there = record {
    journal = settling.journal ∙ ap (λ ts. start ++ settled ts) (sym (append-nil (open_below start i)) ∙ sym (open_below-more false h));
    count = settling.count;
    done = λ k less. ⊎_elim
        (λ (e : k ≡ i). subst (λ j. is_settled now j ≡ true) (sym e) there)
        (λ (ne : k ≢ i). settling.done k (omega arith))
        (cases_eq k i);
    ahead = λ k more. settling.ahead k (omega arith);
    legal = settling.legal;
  }

-- the shutdown leaves the tickets
is_open-close : (journal : List Event) (t : ℕ) → is_open (journal ++ Close ∷ []) t ≡ is_open journal t
is_open-close journal t =
    (λ j. is_some ((call_of-push journal Close t ∙ two-none (call_of journal t)) j)
    && not ((list_any-push (settles t) journal Close ∙ or-false (is_settled journal t)) j))

open_below-close : (journal : List Event) (n : ℕ) → open_below (journal ++ Close ∷ []) n ≡ open_below journal n
open_below-close journal zero = refl
open_below-close journal (suc n) = λ j. open_below-close journal n j ++ (if is_open-close journal n j then n ∷ [] else [])

-- the shutdown, and then all open tickets settled
pub closed_at_once : (journal : List Event) → (journal ++ Close ∷ []) ++ settled (open_below (journal ++ Close ∷ []) (accepted (journal ++ Close ∷ [])))
    ≡ journal ++ Close ∷ settled (open_below journal (accepted journal))
closed_at_once journal =
    ap (λ ts. (journal ++ Close ∷ []) ++ settled ts)
    (open_below-close journal (accepted (journal ++ Close ∷ [])) ∙ ap (open_below journal) (accepted-push journal Close ∙ add-zero (accepted journal)))
    ∙ append_assoc journal (Close ∷ []) (settled (open_below journal (accepted journal)))
