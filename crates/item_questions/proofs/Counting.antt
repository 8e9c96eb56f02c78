-- How many elements of a list pass a test, and what that says of two tests of which one passes where the other does.
use Rattle.std.proofs.Common.{◌≡◌, ℕ, ◌+◌, ◌<◌, ◌≤◌, Bool, true, false, ◌||◌, List, [], ◌∷◌, length, refl, sym, ap, ◌∙◌, true≢false, arith}
use Rattle.std.specs.List.{list_any}
use Rattle.item_questions.specs.Rounds.{IsExact}

abbrev pub one_if : Bool → ℕ
one_if true = 1
one_if false = 0

one_if-implies : (a b : Bool) → (a ≡ true → b ≡ true) → one_if a ≤ one_if b
one_if-implies false b h = omega arith
one_if-implies true true h = omega arith
one_if-implies true false h = absurd (true≢false (sym (h refl)))

module _ {K : Type 0} where
  pub count : (K → Bool) → List K → ℕ
  count p [] = 0
  count p (x ∷ xs) = one_if (p x) + count p xs

  pub count-length : (p : K → Bool) (xs : List K) → count p xs ≤ length xs
  unfolding count
  count-length p [] = omega arith
  count-length p (x ∷ xs) = let rest = count-length p xs in let one : one_if (p x) ≤ 1 = at_most (p x) in omega (arith, rest, one)
    where
      at_most : (b : Bool) → one_if b ≤ 1
      at_most true = omega arith
      at_most false = omega arith

  module _ (p q : K → Bool) (implies : (x : K) → p x ≡ true → q x ≡ true) where
    pub count-implies : (xs : List K) → count p xs ≤ count q xs
    unfolding count
    count-implies [] = omega arith
    count-implies (x ∷ xs) = let rest = count-implies xs in let one = one_if-implies (p x) (q x) (implies x) in omega (arith, rest, one)

    -- where no more pass the second test, what passes it passes the first too
    pub count-same : (eq : K → K → Bool) → IsExact eq → (xs : List K) → count q xs ≤ count p xs
        → (k : K) → list_any (eq k) xs ≡ true → q k ≡ true → p k ≡ true
    unfolding count
    count-same eq exact [] few k there passes = absurd (true≢false (sym there))
    count-same eq exact (x ∷ xs) few k there passes =
        by (eq k x) refl (count-same eq exact xs (fewer (one_if-implies (p x) (q x) (implies x))) k)
      where
        fewer : one_if (p x) ≤ one_if (q x) → count q xs ≤ count p xs
        fewer one = omega (arith, few, one)

        first : (b : Bool) → p x ≡ b → q x ≡ true → p x ≡ true
        first true e h = e
        first false e h =
            let a : one_if (p x) ≡ 0 = ap one_if e in
            let b : one_if (q x) ≡ 1 = ap one_if h in
            let c = count-implies xs in
            absurd (contradiction (omega (arith, few, a, b, c)))
          where
            contradiction : 1 ≤ 0 → ⊥
            contradiction h = omega (arith, h)

        by : (b : Bool) → eq k x ≡ b → (list_any (eq k) xs ≡ true → q k ≡ true → p k ≡ true) → p k ≡ true
        by true e rest =
            let same : k ≡ x = (exact k x).0 e in
            ap p same ∙ first (p x) refl (ap q (sym same) ∙ passes)
        by false e rest = rest (sym (ap (λ b. b || list_any (eq k) xs) e) ∙ there) passes

    -- where one more element passes the second test, more pass it
    pub count-more : (eq : K → K → Bool) → IsExact eq → (xs : List K) (k : K) → list_any (eq k) xs ≡ true → q k ≡ true → p k ≡ false
        → count p xs < count q xs
    count-more eq exact xs k there passes fails = by (count-implies xs) (λ few. true≢false (sym (count-same eq exact xs few k there passes) ∙ fails))
      where
        by : count p xs ≤ count q xs → (count q xs ≤ count p xs → ⊥) → count p xs < count q xs
        by le not_ge = grind (arith, le, not_ge)
