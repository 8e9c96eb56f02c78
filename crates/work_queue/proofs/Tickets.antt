-- What the definitions say of a ticket, read off its indexes.
use Rattle.std.proofs.Common.{◌≡◌, ℕ, ◌<◌, nat_lt, Bool, true, false, not, ◌||◌, ◌&&◌, List, [], ◌∷◌, length, Some, None, is_some, IsTrue, refl, sym, ap, ◌∙◌, arith}
use Rattle.std.specs.List.{list_any}
use Rattle.std.proofs.lemmas.Bool.{and_parts}
use Rattle.std.proofs.lemmas.Bool.Decides.{nat_tests}
use Rattle.ask_history.specs.declared.events.Mark.{Mark}
use Rattle.ask_history.specs.declared.events.Event.{Event}
use Rattle.ask_history.specs.declared.events.Event.TheVariants.{Cancel, Settle}
use Rattle.ask_history.specs.Journal.{call_of, call_under, first_of_two, cancels, settles, is_closed, is_cancelled, is_settled, is_open}
use Rattle.ask_history.specs.Legal.{may_follow, is_next}
use Rattle.work_queue.specs.declared.log.Indexes.{Indexes}
use Rattle.work_queue.specs.Indexes.{accepts, accept_index, cancel_index, settle_index}
use Rattle.work_queue.specs.Log.{IsNoted}
use Rattle.work_queue.proofs.EventIndexes.{list_any-index_of}
use Rattle.work_queue.proofs.Noting.{none_from}

is_some-call_of-accepts : (journal : List Event) (t : ℕ) → is_some (call_of journal t) ≡ list_any (accepts t) journal
is_some-call_of-accepts [] t = refl
is_some-call_of-accepts (event ∷ journal) t =
    elim (call_under t event) as (λ o. is_some (first_of_two o (call_of journal t)) ≡ (is_some o || list_any (accepts t) journal))
    [ None ↦ is_some-call_of-accepts journal t | Some call ↦ refl ]

pub not-false : (b : Bool) → not b ≡ true → b ≡ false
not-false true h = sym h
not-false false h = refl

module _ (journal : List Event) (t : ℕ) where
  pub is_accepted-accept_index : is_some (call_of journal t) ≡ is_some (accept_index journal t)
  is_accepted-accept_index = is_some-call_of-accepts journal t ∙ list_any-index_of (accepts t) journal

  pub is_cancelled-cancel_index : is_cancelled journal t ≡ is_some (cancel_index journal t)
  is_cancelled-cancel_index = list_any-index_of (cancels t) journal

  pub is_settled-settle_index : is_settled journal t ≡ is_some (settle_index journal t)
  is_settled-settle_index = list_any-index_of (settles t) journal

  pub open_unsettled : IsTrue (is_open journal t) → settle_index journal t ≡ None
  open_unsettled h =
      none_from _ (sym is_settled-settle_index ∙ not-false (is_settled journal t) (and_parts (is_some (call_of journal t)) (not (is_settled journal t)) h).1)

  module _ (indexes : List Indexes) (noted : IsNoted journal indexes) where
    -- an open ticket has indexes
    pub open_within : IsTrue (is_open journal t) → t < length indexes
    open_within h =
        let there : is_some (call_of journal t) ≡ true = (and_parts (is_some (call_of journal t)) (not (is_settled journal t)) h).0 in
        below_from t (length indexes) (sym (noted.tickets t) ∙ sym is_accepted-accept_index ∙ there)
      where
        below_from : (k n : ℕ) → nat_lt k n ≡ true → k < n
        below_from k n h = grind (arith, nat_tests)

    -- a ticket with indexes whose Settle does not stand is open
    pub open_from : t < length indexes → settle_index journal t ≡ None → IsTrue (is_open journal t)
    open_from within none =
        both _ _ (is_accepted-accept_index ∙ noted.tickets t ∙ below_is t (length indexes) within) (ap not (is_settled-settle_index ∙ ap is_some none))
      where
        below_is : (k n : ℕ) → k < n → nat_lt k n ≡ true
        below_is k n h = grind (arith, nat_tests)

        both : (a b : Bool) → a ≡ true → b ≡ true → (a && b) ≡ true
        both true b h k = k
        both false b h k = h

  -- what stands after a cancel and a settling that may follow
  pub cancel_open : IsTrue (may_follow journal (Cancel t)) → IsTrue (is_open journal t)
  cancel_open h = (and_parts (is_open journal t) (not (is_cancelled journal t)) (and_parts (is_open journal t && not (is_cancelled journal t)) (not (is_closed journal)) h).0).0

  pub cancel_first : IsTrue (may_follow journal (Cancel t)) → cancel_index journal t ≡ None
  cancel_first h =
      none_from _ (sym is_cancelled-cancel_index
      ∙ not-false (is_cancelled journal t) (and_parts (is_open journal t) (not (is_cancelled journal t)) (and_parts (is_open journal t && not (is_cancelled journal t)) (not (is_closed journal)) h).0).1)

  pub settle_open : (mark : Mark) → IsTrue (may_follow journal (Settle t mark)) → IsTrue (is_open journal t)
  settle_open mark h = (and_parts (is_open journal t) (is_next journal t) h).0
