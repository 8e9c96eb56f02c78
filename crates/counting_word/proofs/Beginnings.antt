-- Beginnings of lists, and lists of views.
use Rattle.std.proofs.Common.{◌≡◌, ◌≢◌, ◌⊎◌, inl, inr, ℕ, zero, suc, ◌≤◌, List, [], ◌∷◌, ◌++◌, length, set, refl, ap, sym, ◌∙◌, subst, arith, append_assoc, append-nil, length-append}
use mathlib.Core.List.{IsPrefix}
use mathlib.Core.Option.{some, some-injective, some-ne-none}
use lib.ListN.{get_elem?}

module _ {A : Type 0} where
  pub begins_itself : (xs : List A) → IsPrefix xs xs
  begins_itself xs = ([], append-nil xs)

  pub begins_none : (xs : List A) → IsPrefix [] xs
  begins_none xs = (xs, refl)

  pub begins_more : (xs ys : List A) → IsPrefix xs (xs ++ ys)
  begins_more xs ys = (ys, refl)

  pub begins-trans : (xs ys zs : List A) → IsPrefix xs ys → IsPrefix ys zs → IsPrefix xs zs
  begins-trans xs ys zs p q = (p.0 ++ q.0, sym (append_assoc xs p.0 q.0) ∙ (ap (λ w. w ++ q.0) p.1 ∙ q.1))

  pub begins_whole : (xs ys : List A) → IsPrefix xs ys → length ys ≤ length xs → xs ≡ ys
  begins_whole [] [] p le = refl
  begins_whole [] (y ∷ ys) p le = absurd (omega arith)
  begins_whole (x ∷ xs) [] p le = absurd (cc (p.1))
  begins_whole (x ∷ xs) (y ∷ ys) p le =
      let rest = begins_whole xs ys (p.0, cc (p.1)) (omega arith) in cc (p.1, rest)

  pub length-begins : (xs ys : List A) → IsPrefix xs ys → length xs ≤ length ys
  length-begins xs ys p = omega (arith, sym (ap length p.1) ∙ length-append xs p.0)

  -- the view at a place, in a list with another view at a place
  pub at_set : (l : List A) (i j : ℕ) (a b : A) → get_elem? (set l i a) j ≡ some b → ((j ≡ i) × (a ≡ b)) ⊎ ((j ≢ i) × (get_elem? l j ≡ some b))
  at_set [] i j a b e = absurd (some-ne-none b (sym e))
  at_set (x ∷ xs) zero zero a b e = inl (refl, some-injective a b e)
  at_set (x ∷ xs) zero (suc j) a b e = inr ((λ h. omega arith), e)
  at_set (x ∷ xs) (suc i) zero a b e = inr ((λ h. omega arith), e)
  at_set (x ∷ xs) (suc i) (suc j) a b e =
      elim (at_set xs i j a b e) [ inl t ↦ inl (ap suc t.0, t.1) | inr t ↦ inr ((λ h. t.0 (omega arith)), t.1) ]

  pub set_there : (l : List A) (i : ℕ) (v w : A) → get_elem? l i ≡ some v → get_elem? (set l i w) i ≡ some w
  set_there [] i v w e = absurd (some-ne-none v (sym e))
  set_there (x ∷ xs) zero v w e = refl
  set_there (x ∷ xs) (suc i) v w e = set_there xs i v w e

  pub set_elsewhere : (l : List A) (i j : ℕ) (v w : A) → j ≢ i → get_elem? l j ≡ some v → get_elem? (set l i w) j ≡ some v
  set_elsewhere [] i j v w n e = e
  set_elsewhere (x ∷ xs) zero zero v w n e = absurd (n refl)
  set_elsewhere (x ∷ xs) zero (suc j) v w n e = e
  set_elsewhere (x ∷ xs) (suc i) zero v w n e = e
  set_elsewhere (x ∷ xs) (suc i) (suc j) v w n e = set_elsewhere xs i j v w (λ h. n (ap suc h)) e

  -- the view at a place, in a list with one view more
  pub at_more : (l : List A) (j : ℕ) (a b : A) → get_elem? (l ++ a ∷ []) j ≡ some b → (get_elem? l j ≡ some b) ⊎ ((j ≡ length l) × (a ≡ b))
  at_more [] zero a b e = inr (refl, some-injective a b e)
  at_more [] (suc j) a b e = absurd (some-ne-none b (sym e))
  at_more (x ∷ xs) zero a b e = inl e
  at_more (x ∷ xs) (suc j) a b e =
      elim (at_more xs j a b e) [ inl t ↦ inl t | inr t ↦ inr (ap suc t.0, t.1) ]

  pub more_there : (l : List A) (j : ℕ) (a b : A) → get_elem? l j ≡ some b → get_elem? (l ++ a ∷ []) j ≡ some b
  more_there [] j a b e = absurd (some-ne-none b (sym e))
  more_there (x ∷ xs) zero a b e = e
  more_there (x ∷ xs) (suc j) a b e = more_there xs j a b e

  pub more_last : (l : List A) (a : A) → get_elem? (l ++ a ∷ []) (length l) ≡ some a
  more_last [] a = refl
  more_last (x ∷ xs) a = more_last xs a

-- what holds of every view, at its place
module _ {A : Type 0} (P : ℕ → A → Type 0) where
  pub each_set : (views : List A) (i : ℕ) (w : A) → ((j : ℕ) (u : A) → j ≢ i → get_elem? views j ≡ some u → P j u) → P i w
      → (j : ℕ) (u : A) → get_elem? (set views i w) j ≡ some u → P j u
  each_set views i w others here j u e =
      elim (at_set views i j w u e) [ inl t ↦ subst (λ (y : ℕ × A). P y.0 y.1) (λ k. (sym t.0 k, t.1 k)) here | inr t ↦ others j u t.0 t.1 ]

  pub each_more : (views : List A) (w : A) → ((j : ℕ) (u : A) → get_elem? views j ≡ some u → P j u) → P (length views) w
      → (j : ℕ) (u : A) → get_elem? (views ++ w ∷ []) j ≡ some u → P j u
  each_more views w others last j u e =
      elim (at_more views j w u e) [ inl t ↦ others j u t | inr t ↦ subst (λ (y : ℕ × A). P y.0 y.1) (λ k. (sym t.0 k, t.1 k)) last ]
