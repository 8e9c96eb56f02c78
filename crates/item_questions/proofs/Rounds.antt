-- What the rounds come to: they only add, they end in time, and in the end a value is what the typing gives then.
use Rattle.std.proofs.Common.{◌≡◌, ℕ, zero, suc, ◌+◌, ◌≤◌, Bool, true, false, is_some, if◌then◌else◌, List, length, Option, None, Some, refl, sym, ap, ◌∙◌, subst, true≢false, ◌⊎◌, inl, inr, arith, add_comm}
use Rattle.std.proofs.lemmas.Bool.Decides.{leb_tells}
use Rattle.item_questions.specs.Questions.{Info, Has, Cyclic, Asks, Known, run}
use Rattle.item_questions.specs.Rounds.{IsExact, done, values, earlier_or, is_item, added, next_round, known, known_star, final, Agrees}
use Rattle.item_questions.proofs.Answers.{run-more, done-known, known-injective, HasValuesOf, has-injective, has≢cyclic, none≢some, some-injective}
use Rattle.item_questions.proofs.Counting.{count, count-length, count-same}

-- the first map's values are the second's too
abbrev pub HasAllOf : {K V : Type 0} → (K → Option V) → (K → Option V) → Type 0
HasAllOf {K} {V} few many = (k : K) (v : V) → few k ≡ Some v → many k ≡ Some v

module _ {V : Type 0} where
  pub has-values : (o : Option V) (v : V) → elim o as (λ _. Option (Info V)) [ None ↦ None | Some x ↦ Some (Has x) ] ≡ Some (Has v) → o ≡ Some v
  has-values None v h = absurd (none≢some (Has v) h)
  has-values (Some w) v h = ap Some (has-injective w v (some-injective (Has w) (Has v) h))

  pub earlier : (o now : Option V) (v : V) → o ≡ Some v → earlier_or o now ≡ Some v
  earlier o now v h = ap (λ o. earlier_or o now) h

  pub either_round : (o now : Option V) (v : V) → earlier_or o now ≡ Some v → (o ≡ Some v) ⊎ ((o ≡ None) × (now ≡ Some v))
  either_round None now v h = inr (refl, h)
  either_round (Some w) now v h = inl h

  pub only_if : (b : Bool) (o : Option V) (v : V) → (if b then o else None) ≡ Some v → (b ≡ true) × (o ≡ Some v)
  only_if true o v h = (refl, h)
  only_if false o v h = absurd (none≢some v h)

module _ {K V : Type 0} where
  pub values-has : (f : K → Option V) (k : K) (v : V) → f k ≡ Some v → values f k ≡ Some (Has v)
  values-has f k v h = ap (λ o. elim o as (λ _. Option (Info V)) [ None ↦ None | Some x ↦ Some (Has x) ]) h

  pub values-more : (few many : K → Option V) → HasAllOf few many → HasValuesOf (values few) (values many)
  values-more few many more k v h = values-has many k v (more k v (has-values (few k) v h))

abbrev as_final : {V : Type 0} → Option V → Info V
as_final (Some v) = Has v
as_final None = Cyclic

module _ {K V : Type 0} (eq : K → K → Bool) (exact : IsExact eq) (items : List K) (typing : K → Asks K V V) where
  round : ℕ → K → Option V
  round = known eq items typing

  next : (K → Option V) → K → Option V
  next = next_round eq items typing

  pub known-suc : (n : ℕ) → known eq items typing (suc n) ≡ next_round eq items typing (known eq items typing n)
  unfolding known
  known-suc n = refl

  pub known-zero : (k : K) → known eq items typing 0 k ≡ None
  unfolding known
  known-zero k = refl

  pub grows : (n : ℕ) → HasAllOf (known eq items typing n) (known eq items typing (suc n))
  grows n k v h = ap (λ f. f k) (known-suc n) ∙ earlier _ _ v h

  pub grows_by : (m n : ℕ) → HasAllOf (known eq items typing n) (known eq items typing (m + n))
  grows_by zero n k v h = ap (λ i. known eq items typing i k) (omega arith) ∙ h
  grows_by (suc m) n k v h = ap (λ i. known eq items typing i k) (omega arith) ∙ grows (m + n) k v (grows_by m n k v h)

  -- a round that adds nothing
  abbrev pub IsLast : ℕ → Type 0
  IsLast n = (k : K) → known eq items typing (suc n) k ≡ known eq items typing n k

  pub last-next : (n : ℕ) → IsLast n → IsLast (suc n)
  last-next n last k =
      let same : known eq items typing (suc n) ≡ known eq items typing n = λ i x. last x i in
      ap (λ f. f k) (known-suc (suc n)) ∙ ap (λ f. next_round eq items typing f k) same ∙ sym (ap (λ f. f k) (known-suc n))

  pub last_by : (m n : ℕ) → IsLast n → IsLast (m + n)
  last_by zero n last = subst IsLast (omega arith) last
  last_by (suc m) n last = subst IsLast (omega arith) (last-next (m + n) (last_by m n last))

  pub after_last : (m n : ℕ) → IsLast n → (k : K) → known eq items typing (m + n) k ≡ known eq items typing n k
  after_last zero n last k = ap (λ i. known eq items typing i k) (omega arith)
  after_last (suc m) n last k = ap (λ i. known eq items typing i k) (omega arith) ∙ last_by m n last k ∙ after_last m n last k

  abbrev pub has_value : ℕ → K → Bool
  has_value n k = is_some (known eq items typing n k)

  has_more : (n : ℕ) (k : K) → has_value n k ≡ true → has_value (suc n) k ≡ true
  has_more n k h = by (known eq items typing n k) refl h
    where
      by : (o : Option V) → known eq items typing n k ≡ o → is_some o ≡ true → is_some (known eq items typing (suc n) k) ≡ true
      by None e h = absurd (true≢false (sym h))
      by (Some v) e h = ap is_some (grows n k v e)

  -- a round that makes the values no more adds none
  none_added : (n : ℕ) → count (has_value (suc n)) items ≤ count (has_value n) items → IsLast n
  none_added n few k = by (known eq items typing n k) refl (known eq items typing (suc n) k) refl
    where
      listed : (v : V) → known eq items typing n k ≡ None → known eq items typing (suc n) k ≡ Some v → is_item eq items k ≡ true
      listed v none h =
          elim (either_round (known eq items typing n k) (added eq items typing (known eq items typing n) k) v (sym (ap (λ f. f k) (known-suc n)) ∙ h)) [
            | inl old ↦ absurd (none≢some v (sym none ∙ old))
            | inr now ↦ (only_if (is_item eq items k) _ v now.1).0
          ]

      by : (o : Option V) → known eq items typing n k ≡ o → (o' : Option V) → known eq items typing (suc n) k ≡ o' → known eq items typing (suc n) k ≡ known eq items typing n k
      by (Some v) e o' e' = grows n k v e ∙ sym e
      by None e None e' = e' ∙ sym e
      by None e (Some v) e' =
          absurd (true≢false (sym (count-same (has_value n) (has_value (suc n)) (has_more n) eq exact items few k (listed v e e') (ap is_some e')) ∙ ap is_some e))

  -- a round is the last, or there are more values after it than its number
  one_more : (n : ℕ) → n ≤ count (has_value n) items → IsLast n ⊎ (suc n ≤ count (has_value (suc n)) items)
  one_more n h =
      elim (leb_tells (count (has_value (suc n)) items) (count (has_value n) items)) [
        | inl no_more ↦ inl (none_added n no_more.1)
        | inr more ↦ let m = more.1 in inr (omega (arith, h, m))
      ]

  progress : (n : ℕ) → IsLast n ⊎ (suc n ≤ count (has_value (suc n)) items)
  progress zero = one_more zero (omega arith)
  progress (suc n) = elim (progress n) [ inl last ↦ inl (last-next n last) | inr h ↦ one_more (suc n) h ]

  pub last_round : IsLast (length items)
  last_round =
      elim (progress (length items)) [
        | inl last ↦ last
        | inr more ↦ let most = count-length (has_value (suc (length items))) items in absurd (too_many _ _ more most)
      ]
    where
      too_many : (n m : ℕ) → suc n ≤ m → m ≤ n → ⊥
      too_many n m h k = omega (arith, h, k)

  star : K → Option V
  star = known_star eq items typing

  pub ended : (m : ℕ) (k : K) → known eq items typing (m + length items) k ≡ known_star eq items typing k
  ended m k = after_last m (length items) last_round k

  -- a value of any round is one of the end
  pub kept : (n : ℕ) → HasAllOf (known eq items typing n) (known_star eq items typing)
  kept n k v h =
      sym (ended n k) ∙ ap (λ i. known eq items typing i k) (add_comm n (length items)) ∙ grows_by (length items) n k v h

  -- a value of any round is what the typing gives in the end
  pub typed : (n : ℕ) (k : K) (v : V) → known eq items typing n k ≡ Some v
      → (is_item eq items k ≡ true) × (run (values (known_star eq items typing)) (typing k) ≡ Known v)
  typed zero k v h = absurd (none≢some v (sym (known-zero k) ∙ h))
  typed (suc n) k v h =
      elim (either_round (known eq items typing n k) (added eq items typing (known eq items typing n) k) v (sym (ap (λ f. f k) (known-suc n)) ∙ h)) [
        | inl old ↦ typed n k v old
        | inr now ↦
            let parts = only_if (is_item eq items k) _ v now.1 in
            (parts.0, run-more _ _ (values-more _ _ (kept n)) (typing k) v (done-known _ v parts.1))
      ]

  -- an item whose typing is done in the end has its value
  pub typed-known : (k : K) (v : V) → is_item eq items k ≡ true → run (values (known_star eq items typing)) (typing k) ≡ Known v
      → known_star eq items typing k ≡ Some v
  typed-known k v listed h = by (known_star eq items typing k) refl
    where
      by : (o : Option V) → known_star eq items typing k ≡ o → known_star eq items typing k ≡ Some v
      by (Some w) e = e ∙ ap Some (known-injective w v (sym (typed (length items) k w e).1 ∙ h))
      by None e =
          sym (last_round k) ∙ ap (λ f. f k) (known-suc (length items)) ∙ ap (λ o. earlier_or o (added eq items typing (known_star eq items typing) k)) e
          ∙ ap (λ b. if b then done (run (values (known_star eq items typing)) (typing k)) else None) listed ∙ ap done h

  pub final-has : (k : K) (v : V) → known_star eq items typing k ≡ Some v → final eq items typing k ≡ Has v
  final-has k v h = ap as_final h

  pub has-final : (k : K) (v : V) → final eq items typing k ≡ Has v → known_star eq items typing k ≡ Some v
  has-final k v h = by (known_star eq items typing k) h
    where
      by : (o : Option V) → as_final o ≡ Has v → o ≡ Some v
      by None h = absurd (has≢cyclic v (sym h))
      by (Some w) h = ap Some (has-injective w v h)

  pub final-cyclic : (k : K) → known_star eq items typing k ≡ None → final eq items typing k ≡ Cyclic
  final-cyclic k h = ap as_final h

  pub cyclic-final : (k : K) → final eq items typing k ≡ Cyclic → known_star eq items typing k ≡ None
  cyclic-final k h = by (known_star eq items typing k) h
    where
      by : (o : Option V) → as_final o ≡ Cyclic → o ≡ None
      by None h = refl
      by (Some w) h = absurd (has≢cyclic w h)

  -- the values of any round are so in the end
  pub agrees-values : (n : ℕ) → Agrees (final eq items typing) (values (known eq items typing n))
  agrees-values n k i h = by (known eq items typing n k) refl h
    where
      by : (o : Option V) → known eq items typing n k ≡ o → elim o as (λ _. Option (Info V)) [ None ↦ None | Some x ↦ Some (Has x) ] ≡ Some i → final eq items typing k ≡ i
      by None e h = absurd (none≢some i h)
      by (Some v) e h = final-has k v (kept n k v e) ∙ some-injective (Has v) i h
