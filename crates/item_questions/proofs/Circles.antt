-- Which items are cyclic: those that need a cyclic one, and those that need each other.
use Rattle.std.proofs.Common.{◌≡◌, ℕ, zero, suc, Bool, true, List, length, Option, None, Some, refl, sym, ap, ◌∙◌, ◌⊎◌, inl, inr}
use Rattle.item_questions.specs.Questions.{Has, Cyclic, Asks, Known, Needs, AtCyclic, Infos, run}
use Rattle.item_questions.specs.Rounds.{IsExact, values, is_item, added, known, known_star, final, Agrees}
use Rattle.item_questions.proofs.Answers.{run-more, needs-blocks, cyclic-blocks, needs≢known, done-known, none≢some}
use Rattle.item_questions.proofs.Rounds.{known-zero, known-suc, either_round, only_if, has-values, values-has, typed, typed-known, final-has, has-final, final-cyclic, agrees-values}

module _ {K V : Type 0} (eq : K → K → Bool) (exact : IsExact eq) (items : List K) (typing : K → Asks K V V) where
  pub cyclic_need : (k other : K) → run (values (known_star eq items typing)) (typing k) ≡ Needs other → final eq items typing k ≡ Cyclic
  cyclic_need k other needs = final-cyclic eq exact items typing k (by (known_star eq items typing k) refl)
    where
      by : (o : Option V) → known_star eq items typing k ≡ o → known_star eq items typing k ≡ None
      by None e = e
      by (Some v) e = absurd (needs≢known other v (sym needs ∙ (typed eq exact items typing (length items) k v e).1))

  -- a typing that is done under what is so gives the item's value
  pub settled-final : (infos : Infos K V) → Agrees (final eq items typing) infos → (k : K) (v : V) → is_item eq items k ≡ true
      → run infos (typing k) ≡ Known v → final eq items typing k ≡ Has v
  settled-final infos so k v listed h =
      final-has eq exact items typing k v (typed-known eq exact items typing k v listed
      (run-more infos (values (known_star eq items typing)) (λ j w e. values-has (known_star eq items typing) j w (has-final eq exact items typing j w (so j (Has w) e))) (typing k) v h))

  module _ (infos : Infos K V) (so : Agrees (final eq items typing) infos) (among : K → Bool) where
    -- the item's typing needs one of these, or was ended by a cyclic item
    abbrev pub IsHeld : K → Type 0
    IsHeld k = ((j : K) × (run infos (typing k) ≡ Needs j) × (among j ≡ true)) ⊎ ((j : K) × (run infos (typing k) ≡ AtCyclic j))

    -- items that are held by each other get no value in any round
    pub held-unknown : ((k : K) → among k ≡ true → IsHeld k) → (n : ℕ) (k : K) → among k ≡ true → known eq items typing n k ≡ None
    held-unknown held zero k m = known-zero eq exact items typing k
    held-unknown held (suc n) k m = by (known eq items typing (suc n) k) refl (held-unknown held n)
      where
        not_done : ((j : K) → among j ≡ true → known eq items typing n j ≡ None) → (v : V) → run (values (known eq items typing n)) (typing k) ≡ Known v → ⊥
        not_done before v d =
            elim (held k m) [
              | inl needs ↦ needs-blocks (final eq items typing) infos (values (known eq items typing n)) so (agrees-values eq exact items typing n)
                  (typing k) needs.0 needs.1 (λ w e. none≢some w (sym (before needs.0 needs.2) ∙ has-values _ w e)) v d
              | inr cyclic ↦ cyclic-blocks (final eq items typing) infos (values (known eq items typing n)) so (agrees-values eq exact items typing n)
                  (typing k) cyclic.0 cyclic.1 v d
            ]

        by : (o : Option V) → known eq items typing (suc n) k ≡ o → ((j : K) → among j ≡ true → known eq items typing n j ≡ None) → known eq items typing (suc n) k ≡ None
        by None e before = e
        by (Some v) e before =
            elim (either_round (known eq items typing n k) (added eq items typing (known eq items typing n) k) v (sym (ap (λ f. f k) (known-suc eq exact items typing n)) ∙ e)) [
              | inl old ↦ absurd (none≢some v (sym (before k m) ∙ old))
              | inr now ↦ absurd (not_done before v (done-known _ v (only_if (is_item eq items k) _ v now.1).1))
            ]

    pub held-cyclic : ((k : K) → among k ≡ true → IsHeld k) → (k : K) → among k ≡ true → final eq items typing k ≡ Cyclic
    held-cyclic held k m = final-cyclic eq exact items typing k (held-unknown held (length items) k m)
