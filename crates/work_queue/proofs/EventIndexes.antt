-- Indexes in a journal that has one event more, and what the tests of a journal say of indexes.
use Rattle.std.proofs.Common.{◌≡◌, ℕ, ◌+◌, ◌-◌, suc, ◌<◌, ◌≤◌, Bool, true, false, ◌||◌, cond, List, [], ◌∷◌, ◌++◌, length, Option, Some, None, is_some, refl, sym, ap, ◌∙◌, arith, add-zero, zero-add, get_or}
use Rattle.std.proofs.lemmas.Bool.{cond-true, cond-false}
use Rattle.std.specs.List.{list_any, position_from}
use Rattle.std.specs.Option.{option_or}
use Rattle.ask_history.specs.declared.events.Event.{Event}
use Rattle.ask_history.specs.declared.calls.Call.{Call}
use Rattle.ask_history.specs.Journal.{call_of, call_under, first_of_two}
use Rattle.work_queue.specs.Indexes.{index_of, accepts, accept_index}

or-none : {X : Type 0} (o : Option X) → option_or o None ≡ o
or-none None = refl
or-none (Some x) = refl

module _ {X : Type 0} (test : X → Bool) where
  -- the first index that passes, in a list that has one element more
  position_from-push : (from : ℕ) (xs : List X) (x : X)
      → position_from test from (xs ++ x ∷ []) ≡ option_or (position_from test from xs) (cond (test x) (Some (from + length xs)) None)
  position_from-push from [] x = ap (λ n. cond (test x) (Some n) None) (sym (add-zero from))
  position_from-push from (y ∷ xs) x =
      let moved : from + 1 + length xs ≡ from + length (y ∷ xs) = omega arith in
      let next = position_from-push (from + 1) xs x ∙ ap (λ n. option_or (position_from test (from + 1) xs) (cond (test x) (Some n) None)) moved in
      elim (test y) as (λ b. cond b (Some from) (position_from test (from + 1) (xs ++ x ∷ []))
      ≡ option_or (cond b (Some from) (position_from test (from + 1) xs)) (cond (test x) (Some (from + length (y ∷ xs))) None))
      [ true ↦ refl | false ↦ next ]

  list_any-position_from : (from : ℕ) (xs : List X) → list_any test xs ≡ is_some (position_from test from xs)
  list_any-position_from from [] = refl
  list_any-position_from from (x ∷ xs) =
      elim (test x) as (λ b. (b || list_any test xs) ≡ is_some (cond b (Some from) (position_from test (from + 1) xs)))
      [ true ↦ refl | false ↦ list_any-position_from (from + 1) xs ]

module _ (test : Event → Bool) (journal : List Event) where
  -- an event that does not pass leaves the index
  pub index_of-other : (event : Event) → test event ≡ false → index_of test (journal ++ event ∷ []) ≡ index_of test journal
  index_of-other event e =
      position_from-push test 0 journal event ∙ ap (option_or (index_of test journal)) (cond-false (test event) _ None e) ∙ or-none (index_of test journal)

  -- an event that passes stands at the end where none passed before
  pub index_of-first : (event : Event) → index_of test journal ≡ None → test event ≡ true → index_of test (journal ++ event ∷ []) ≡ Some (length journal)
  index_of-first event none e =
      position_from-push test 0 journal event
      ∙ ap (option_or (index_of test journal)) (cond-true (test event) (Some (0 + length journal)) None e)
      ∙ ap (λ o. option_or o (Some (0 + length journal))) none
      ∙ ap Some (zero-add (length journal))

  -- whether one passes, read off the index
  pub list_any-index_of : list_any test journal ≡ is_some (index_of test journal)
  list_any-index_of = list_any-position_from test 0 journal

call-position : (t : ℕ) (from : ℕ) (journal : List Event) (p : ℕ) → position_from (accepts t) from journal ≡ Some p
    → (from ≤ p) × (p < from + length journal) × ((d : Event) → call_under t (get_or journal (p - from) d) ≡ call_of journal t)
call-position t from [] p h = cc
call-position t from (event ∷ journal) p h = by (call_under t event) refl (call-position t (from + 1) journal p) h
  where
    Found : ℕ → List Event → Type 0
    Found n js = (n ≤ p) × (p < n + length js) × ((d : Event) → call_under t (get_or js (p - n) d) ≡ call_of js t)

    by : (o : Option Call) → call_under t event ≡ o → (position_from (accepts t) (from + 1) journal ≡ Some p → Found (from + 1) journal)
        → cond (is_some o) (Some from) (position_from (accepts t) (from + 1) journal) ≡ Some p → Found from (event ∷ journal)
    by (Some call) is rest e =
        let here : p ≡ from = cc in
        (omega arith, omega arith, λ d. let first : p - from ≡ 0 = omega arith in ap (λ n. call_under t (get_or (event ∷ journal) n d)) first ∙ is ∙ sym (ap (λ o. first_of_two o (call_of journal t)) is))
    by None is rest e =
        let found = rest e in
        let after : from + 1 ≤ p = found.0 in
        let before : p < from + 1 + length journal = found.1 in
        let next : p - from ≡ suc (p - (from + 1)) = omega arith in (
          omega arith,
          omega arith,
          λ d. ap (λ n. call_under t (get_or (event ∷ journal) n d)) next ∙ found.2 d ∙ sym (ap (λ o. first_of_two o (call_of journal t)) is),
        )

-- the event at a ticket's first index accepts its call
pub accept_index-call : (journal : List Event) (t p : ℕ) → accept_index journal t ≡ Some p
    → (p < length journal) × ((d : Event) → call_under t (get_or journal p d) ≡ call_of journal t)
accept_index-call journal t p h =
    let found = call-position t 0 journal p h in
    let before : p < 0 + length journal = found.1 in
    let same : p - 0 ≡ p = omega arith in
    (omega arith, λ d. ap (λ n. call_under t (get_or journal n d)) (sym same) ∙ found.2 d)
