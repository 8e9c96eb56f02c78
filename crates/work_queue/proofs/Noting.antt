-- What is noted of a journal stays noted where an event is appended.
use Rattle.std.proofs.Common.{◌≡◌, ◌≢◌, ℕ, ◌+◌, ◌<◌, ◌≤◌, true, false, cond, eqb, ltb, List, [], ◌∷◌, ◌++◌, length, get_or, set, Option, Some, None, is_some, unwrap_or, IsTrue, refl, sym, ap, ◌∙◌, subst, arith, add-zero, ⊎_elim}
use Rattle.std.proofs.lemmas.Bool.{cases_eq, eq-eqb, ne_eqb}
use Rattle.std.proofs.lemmas.Bool.Decides.{nat_tests}
use Rattle.std.proofs.lemmas.List.{length-set, get_or-set_same, get_or-set_other, get_or_push, get_or_append_left, length_push}
use Rattle.ask_history.specs.declared.calls.Call.{Call}
use Rattle.ask_history.specs.declared.events.Mark.{Mark}
use Rattle.ask_history.specs.declared.events.Event.{Event}
use Rattle.ask_history.specs.declared.events.Event.TheVariants.{Accept, Cancel, Settle}
use Rattle.ask_history.specs.Journal.{accepted, is_accept, cancels, settles}
use Rattle.ask_history.specs.Legal.{may_follow}
use Rattle.ask_history.proofs.Pushes.{accepted-push, is_legal-push}
use Rattle.work_queue.specs.declared.log.Indexes.{Indexes}
use Rattle.work_queue.specs.Indexes.{accepts, accept_index, cancel_index, settle_index}
use Rattle.work_queue.specs.Log.{IsNoted, indexes_of}
use Rattle.work_queue.proofs.EventIndexes.{index_of-other, index_of-first}

same_indexes : {a b : ℕ} {c d e f : Option ℕ} → a ≡ b → c ≡ d → e ≡ f
    → (let p : Indexes = record { accept = a; cancel = c; settle = e } in p) ≡ record { accept = b; cancel = d; settle = f }
same_indexes p q r = λ i. record { accept = p i; cancel = q i; settle = r i }

pub none_from : {X : Type 0} (o : Option X) → is_some o ≡ false → o ≡ None
none_from None h = refl
none_from (Some x) h = cc

not_below : (k n : ℕ) → n ≡ k → ltb k n ≡ false
not_below k n e = grind (arith, nat_tests)

pub below : (k n : ℕ) → k < n → ltb k n ≡ true
below k n h = grind (arith, nat_tests)

below_same : (k m n : ℕ) → n ≡ m + 1 → k ≢ m → ltb k m ≡ ltb k n
below_same k m n e ne = grind (arith, nat_tests)

module _ (journal : List Event) (indexes : List Indexes) (noted : IsNoted journal indexes) where
  -- an event that is of no ticket
  pub noted-other : (event : Event) → is_accept event ≡ false → ((t : ℕ) → accepts t event ≡ false) → ((t : ℕ) → cancels t event ≡ false)
      → ((t : ℕ) → settles t event ≡ false) → IsTrue (may_follow journal event) → IsNoted (journal ++ event ∷ []) indexes
  noted-other event no_accept accepts_none cancels_none settles_none may =
      let accept_same : (t : ℕ) → accept_index (journal ++ event ∷ []) t ≡ accept_index journal t = λ t. index_of-other (accepts t) journal event (accepts_none t) in
      let cancel_same : (t : ℕ) → cancel_index (journal ++ event ∷ []) t ≡ cancel_index journal t = λ t. index_of-other (cancels t) journal event (cancels_none t) in
      let settle_same : (t : ℕ) → settle_index (journal ++ event ∷ []) t ≡ settle_index journal t = λ t. index_of-other (settles t) journal event (settles_none t) in
      record {
        count = noted.count ∙ sym (accepted-push journal event ∙ ap (λ b. accepted journal + cond b 1 0) no_accept ∙ add-zero (accepted journal));
        tickets = λ t. ap is_some (accept_same t) ∙ noted.tickets t;
        uncancelled = λ t h. cancel_same t ∙ noted.uncancelled t h;
        unsettled = λ t h. settle_same t ∙ noted.unsettled t h;
        each = λ t d h. noted.each t d h ∙ sym (same_indexes (ap (λ o. unwrap_or o 0) (accept_same t)) (cancel_same t) (settle_same t));
        legal = is_legal-push journal event noted.legal may;
      }

  -- the events of a ticket that is settled or cancelled stay where they are for every other ticket
  noted-at : (event : Event) (t : ℕ) (new : Indexes) → is_accept event ≡ false → ((k : ℕ) → accepts k event ≡ false)
      → ((k : ℕ) → k ≢ t → cancels k event ≡ false) → ((k : ℕ) → k ≢ t → settles k event ≡ false)
      → t < length indexes → new ≡ indexes_of (journal ++ event ∷ []) t → IsTrue (may_follow journal event)
      → IsNoted (journal ++ event ∷ []) (set indexes t new)
  noted-at event t new no_accept accepts_none cancels_none settles_none within is may =
      let accept_same : (k : ℕ) → accept_index (journal ++ event ∷ []) k ≡ accept_index journal k = λ k. index_of-other (accepts k) journal event (accepts_none k) in
      let cancel_same : (k : ℕ) → k ≢ t → cancel_index (journal ++ event ∷ []) k ≡ cancel_index journal k = λ k ne. index_of-other (cancels k) journal event (cancels_none k ne) in
      let settle_same : (k : ℕ) → k ≢ t → settle_index (journal ++ event ∷ []) k ≡ settle_index journal k = λ k ne. index_of-other (settles k) journal event (settles_none k ne) in
      let long : length (set indexes t new) ≡ length indexes = length-set indexes t new in
      let ahead : (k : ℕ) → length (set indexes t new) ≤ k → length indexes ≤ k = λ k h. omega arith in
      let other : (k : ℕ) → length indexes ≤ k → k ≢ t = λ k h e. omega arith in
      record {
        count = long ∙ noted.count ∙ sym (accepted-push journal event ∙ ap (λ b. accepted journal + cond b 1 0) no_accept ∙ add-zero (accepted journal));
        tickets = λ k. ap is_some (accept_same k) ∙ noted.tickets k ∙ ap (λ n. ltb k n) (sym long);
        uncancelled = λ k h. cancel_same k (other k (ahead k h)) ∙ noted.uncancelled k (ahead k h);
        unsettled = λ k h. settle_same k (other k (ahead k h)) ∙ noted.unsettled k (ahead k h);
        each = λ k d h. ⊎_elim
            (λ (e : k ≡ t). subst (λ j. get_or (set indexes t new) j d ≡ indexes_of (journal ++ event ∷ []) j) (sym e) (get_or-set_same indexes t new d within ∙ is))
            (λ (ne : k ≢ t). get_or-set_other indexes t k new d ne ∙ noted.each k d (omega arith)
            ∙ sym (same_indexes (ap (λ o. unwrap_or o 0) (accept_same k)) (cancel_same k ne) (settle_same k ne)))
            (cases_eq k t);
        legal = is_legal-push journal event noted.legal may;
      }

  other_ticket : (t k : ℕ) → k ≢ t → eqb t k ≡ false
  other_ticket t k ne = ne_eqb t k (λ e. ne (sym e))

  pub noted-cancel : (t : ℕ) (was : Indexes) → was ≡ indexes_of journal t → t < length indexes → cancel_index journal t ≡ None → IsTrue (may_follow journal (Cancel t))
      → IsNoted (journal ++ Cancel t ∷ []) (set indexes t (record { accept = was.accept; cancel = Some (length journal); settle = was.settle }))
  noted-cancel t was is within none may =
      let event : Event = Cancel t in
      noted-at event t _ refl (λ k. refl) (other_ticket t) (λ k ne. refl) within
      (same_indexes
      (ap (λ (p : Indexes). p.accept) is ∙ ap (λ o. unwrap_or o 0) (sym (index_of-other (accepts t) journal event refl)))
      (sym (index_of-first (cancels t) journal event none (eq-eqb t t refl)))
      (ap (λ (p : Indexes). p.settle) is ∙ sym (index_of-other (settles t) journal event refl)))
      may

  pub noted-settle : (t : ℕ) (mark : Mark) (was : Indexes) → was ≡ indexes_of journal t → t < length indexes → settle_index journal t ≡ None → IsTrue (may_follow journal (Settle t mark))
      → IsNoted (journal ++ Settle t mark ∷ []) (set indexes t (record { accept = was.accept; cancel = was.cancel; settle = Some (length journal) }))
  noted-settle t mark was is within none may =
      let event : Event = Settle t mark in
      noted-at event t _ refl (λ k. refl) (λ k ne. refl) (other_ticket t) within
      (same_indexes
      (ap (λ (p : Indexes). p.accept) is ∙ ap (λ o. unwrap_or o 0) (sym (index_of-other (accepts t) journal event refl)))
      (ap (λ (p : Indexes). p.cancel) is ∙ sym (index_of-other (cancels t) journal event refl))
      (sym (index_of-first (settles t) journal event none (eq-eqb t t refl))))
      may

  pub noted-accept : (client tag : ℕ) (call : Call) → IsTrue (may_follow journal (Accept (accepted journal) client tag call))
      → IsNoted (journal ++ Accept (accepted journal) client tag call ∷ []) (indexes ++ (record { accept = length journal; cancel = None; settle = None }) ∷ [])
  noted-accept client tag call may =
      let n : ℕ = accepted journal in
      let event : Event = Accept n client tag call in
      let new : Indexes = record { accept = length journal; cancel = None; settle = None } in
      let long : length (indexes ++ new ∷ []) ≡ length indexes + 1 = length_push indexes new in
      let count = noted.count in
      let accept_same : (k : ℕ) → k ≢ n → accept_index (journal ++ event ∷ []) k ≡ accept_index journal k =
      λ k ne. index_of-other (accepts k) journal event (ap (λ b. is_some (cond b (Some call) None)) (other_ticket n k ne)) in
      let cancel_same : (k : ℕ) → cancel_index (journal ++ event ∷ []) k ≡ cancel_index journal k = λ k. index_of-other (cancels k) journal event refl in
      let settle_same : (k : ℕ) → settle_index (journal ++ event ∷ []) k ≡ settle_index journal k = λ k. index_of-other (settles k) journal event refl in
      let none : accept_index journal n ≡ None = none_from (accept_index journal n) (noted.tickets n ∙ not_below n (length indexes) count) in
      let here : accept_index (journal ++ event ∷ []) n ≡ Some (length journal) =
      index_of-first (accepts n) journal event none (ap (λ b. is_some (cond b (Some call) None)) (eq-eqb n n refl)) in
      record {
        count = long ∙ ap (λ m. m + 1) count ∙ sym (accepted-push journal event);
        tickets = λ k. ⊎_elim
            (λ (e : k ≡ n). subst (λ j. is_some (accept_index (journal ++ event ∷ []) j) ≡ ltb j (length (indexes ++ new ∷ []))) (sym e)
            (ap is_some here ∙ sym (below n (length (indexes ++ new ∷ [])) (omega arith))))
            (λ (ne : k ≢ n). ap is_some (accept_same k ne) ∙ noted.tickets k ∙ below_same k (length indexes) (length (indexes ++ new ∷ [])) long (λ e. ne (e ∙ count)))
            (cases_eq k n);
        uncancelled = λ k h. cancel_same k ∙ noted.uncancelled k (omega arith);
        unsettled = λ k h. settle_same k ∙ noted.unsettled k (omega arith);
        each = λ k d h. ⊎_elim
            (λ (e : k ≡ n). subst (λ j. get_or (indexes ++ new ∷ []) j d ≡ indexes_of (journal ++ event ∷ []) j) (sym e)
            (get_or_push indexes new d n count
            ∙ sym (same_indexes (ap (λ o. unwrap_or o 0) here) (cancel_same n ∙ noted.uncancelled n (omega arith)) (settle_same n ∙ noted.unsettled n (omega arith)))))
            (λ (ne : k ≢ n). let within : k < length indexes = omega arith in
            get_or_append_left indexes (new ∷ []) d k within ∙ noted.each k d within
            ∙ sym (same_indexes (ap (λ o. unwrap_or o 0) (accept_same k ne)) (cancel_same k) (settle_same k)))
            (cases_eq k n);
        legal = is_legal-push journal event noted.legal may;
      }
