-- Operators of one precedence have one side exactly where each fits behind those before it.
use Rattle.std.proofs.Common.{◌≡◌, ℕ, nat_lt, Bool, true, false, ◌&&◌, if◌then◌else◌, List, [], ◌∷◌, ◌++◌, ◌⊎◌, inl, inr, refl, ap, sym, ◌∙◌, arith, append_assoc, subst}
use Rattle.std.specs.Prelude.{not, ◌||◌, ◌==◌}
use Rattle.std.proofs.lemmas.Bool.Decides.{nat_tests}
use Rattle.source_grammar.specs.Lexemes.{Id}
use Rattle.source_grammar.specs.Precedence.{precedence, is_right, agrees_with, are_of_one_side}
use Rattle.source_grammar.specs.Precedence as grammar
use Rattle.parse_patterns.specs.Operators.{same_side}
use Rattle.parse_patterns.proofs.Derived.{Operation, fits}

-- the operators in their order
abbrev pub operators_of : List Operation → List Id
operators_of [] = []
operators_of (o ∷ os) = operators_of os ++ o.operator ∷ []

abbrev level : Id → ℕ
level id = precedence id.name

-- two operators with none between them that binds less
abbrev agree : Id → Id → Bool
agree a b = not (level b == level a) || grammar.same_side a b

-- ---- tests

either : (x y z : Bool) → (x || (y && z)) ≡ true → (x ≡ true) ⊎ ((y ≡ true) × (z ≡ true))
either true y z e = inl refl
either false true true e = inr (refl, refl)
either false true false e = cc
either false false z e = cc

left-true : (x r : Bool) → x ≡ true → (x || r) ≡ true
left-true x r e = ap (λ b. b || r) e

right-true : (x y z : Bool) → y ≡ true → z ≡ true → (x || (y && z)) ≡ true
right-true true y z e f = refl
right-true false y z e f = ap (λ b. b && z) e ∙ f

both : (x y : Bool) → (x && y) ≡ true → (x ≡ true) × (y ≡ true)
both true true e = (refl, refl)
both true false e = cc
both false y e = cc

pub and-true : (x y : Bool) → x ≡ true → y ≡ true → (x && y) ≡ true
and-true x y e f = ap (λ b. b && y) e ∙ f

lower : (a b c : ℕ) → nat_lt a b ≡ true → nat_lt b c ≡ true → nat_lt a c ≡ true
lower a b c e f = grind (arith, nat_tests, e, f)

-- ---- one operator less

drop-higher : (a o id : Id) (xs rest : List Id) → nat_lt (level id) (level o) ≡ true → agrees_with a (xs ++ o ∷ id ∷ rest) ≡ true → agrees_with a (xs ++ id ∷ rest) ≡ true
drop-higher a o id [] rest h e = elim (either (nat_lt (level o) (level a)) (agree a o) (agrees_with a (id ∷ rest)) e) [
  | inl low ↦ left-true _ _ (lower (level id) (level o) (level a) h low)
  | inr f ↦ f.1
]
drop-higher a o id (b ∷ xs) rest h e = elim (either (nat_lt (level b) (level a)) (agree a b) (agrees_with a (xs ++ o ∷ id ∷ rest)) e) [
  | inl low ↦ left-true _ _ low
  | inr f ↦ right-true (nat_lt (level b) (level a)) (agree a b) _ f.0 (drop-higher a o id xs rest h f.1)
]

side-less : (o id : Id) (xs rest : List Id) → nat_lt (level id) (level o) ≡ true → are_of_one_side (xs ++ o ∷ id ∷ rest) ≡ true → are_of_one_side (xs ++ id ∷ rest) ≡ true
side-less o id [] rest h e = (both (agrees_with o (id ∷ rest)) (are_of_one_side (id ∷ rest)) e).1
side-less o id (a ∷ xs) rest h e =
    let f = both (agrees_with a (xs ++ o ∷ id ∷ rest)) (are_of_one_side (xs ++ o ∷ id ∷ rest)) e in
    and-true _ _ (drop-higher a o id xs rest h f.0) (side-less o id xs rest h f.1)

side-tail : (xs rest : List Id) → are_of_one_side (xs ++ rest) ≡ true → are_of_one_side rest ≡ true
side-tail [] rest e = e
side-tail (a ∷ xs) rest e = side-tail xs rest (both (agrees_with a (xs ++ rest)) (are_of_one_side (xs ++ rest)) e).1

agrees-front : (a : Id) (xs rest : List Id) → agrees_with a (xs ++ rest) ≡ true → agrees_with a xs ≡ true
agrees-front a [] rest e = refl
agrees-front a (b ∷ xs) rest e = elim (either (nat_lt (level b) (level a)) (agree a b) (agrees_with a (xs ++ rest)) e) [
  | inl low ↦ left-true _ _ low
  | inr f ↦ right-true (nat_lt (level b) (level a)) (agree a b) _ f.0 (agrees-front a xs rest f.1)
]

pub side-front : (xs rest : List Id) → are_of_one_side (xs ++ rest) ≡ true → are_of_one_side xs ≡ true
side-front [] rest e = refl
side-front (a ∷ xs) rest e =
    let f = both (agrees_with a (xs ++ rest)) (are_of_one_side (xs ++ rest)) e in
    and-true _ _ (agrees-front a xs rest f.0) (side-front xs rest f.1)

-- ---- what fits

abbrev fits_test : Bool → Bool → Bool → Bool
fits_test lt rest here = if lt then rest else here

-- of two neighbours
neighbours : (o id : Id) (rest : List Id) → agrees_with o (id ∷ rest) ≡ true → nat_lt (level id) (level o) ≡ false → agree o id ≡ true
neighbours o id rest e n = elim (either (nat_lt (level id) (level o)) (agree o id) (agrees_with o rest) e) [
  | inl low ↦ (let f : true ≡ false = sym low ∙ n in cc)
  | inr f ↦ f.0
]

same-sides : (a b : Id) → grammar.same_side a b ≡ same_side (is_right a.name) (is_right b.name)
same-sides a b = go (is_right a.name) where
  go : (r : Bool) → (if r then is_right b.name else not (is_right b.name)) ≡ same_side r (is_right b.name)
  go true = refl
  go false = refl

equal-sym : (m n : ℕ) → (m == n) ≡ (n == m)
equal-sym m n = go (m == n) (n == m) refl refl where
  go : (a b : Bool) → (m == n) ≡ a → (n == m) ≡ b → (m == n) ≡ (n == m)
  go true true e f = e ∙ sym f
  go true false e f = absurd (grind (arith, nat_tests, e, f))
  go false true e f = absurd (grind (arith, nat_tests, e, f))
  go false false e f = e ∙ sym f

here-same : (o id : Id) → agree o id ≡ (not (level o == level id) || same_side (is_right o.name) (is_right id.name))
here-same o id = ap (λ t. not t || grammar.same_side o id) (equal-sym (level id) (level o)) ∙ ap (λ t. not (level o == level id) || t) (same-sides o id)

-- each operator fits behind those before it
pub side-fits : (os : List Operation) (id : Id) (rest : List Id) → are_of_one_side (operators_of os ++ id ∷ rest) ≡ true → fits os id ≡ true
side-fits [] id rest e = refl
side-fits (o ∷ os) id rest e = go (nat_lt (level id) (level o.operator)) refl (side-fits os id rest) where
  all : are_of_one_side (operators_of os ++ o.operator ∷ id ∷ rest) ≡ true
  all = subst (λ xs. are_of_one_side xs ≡ true) (append_assoc (operators_of os) (o.operator ∷ []) (id ∷ rest)) e

  go : (b : Bool) → nat_lt (level id) (level o.operator) ≡ b → (are_of_one_side (operators_of os ++ id ∷ rest) ≡ true → fits os id ≡ true)
      → fits_test (nat_lt (level id) (level o.operator)) (fits os id) (not (level o.operator == level id) || same_side (is_right o.operator.name) (is_right id.name)) ≡ true
  go true l on = ap (λ b. fits_test b (fits os id) (not (level o.operator == level id) || same_side (is_right o.operator.name) (is_right id.name))) l ∙ on (side-less o.operator id (operators_of os) rest l all)
  go false l on =
      let last = both (agrees_with o.operator (id ∷ rest)) (are_of_one_side (id ∷ rest)) (side-tail (operators_of os) (o.operator ∷ id ∷ rest) all) in
      ap (λ b. fits_test b (fits os id) (not (level o.operator == level id) || same_side (is_right o.operator.name) (is_right id.name))) l ∙ sym (here-same o.operator id) ∙ neighbours o.operator id rest last.0 l

-- ---- what fits keeps one side

-- an operator goes on agreeing where it does with the last one
abbrev Carries : Id → Id → Type 0
Carries o id = (a : Id) → nat_lt (level o) (level a) ≡ false → agree a o ≡ true → agrees_with a (id ∷ []) ≡ true

agrees-more : (a o id : Id) (xs : List Id) → Carries o id → agrees_with a (xs ++ o ∷ []) ≡ true → agrees_with a (xs ++ o ∷ id ∷ []) ≡ true
agrees-more a o id [] k e = go (nat_lt (level o) (level a)) refl where
  go : (b : Bool) → nat_lt (level o) (level a) ≡ b → (nat_lt (level o) (level a) || (agree a o && agrees_with a (id ∷ []))) ≡ true
  go true l = left-true _ _ l
  go false l = elim (either (nat_lt (level o) (level a)) (agree a o) true e) [
    | inl low ↦ left-true _ _ low
    | inr f ↦ right-true (nat_lt (level o) (level a)) (agree a o) _ f.0 (k a l f.0)
  ]
agrees-more a o id (b ∷ xs) k e = elim (either (nat_lt (level b) (level a)) (agree a b) (agrees_with a (xs ++ o ∷ [])) e) [
  | inl low ↦ left-true _ _ low
  | inr f ↦ right-true (nat_lt (level b) (level a)) (agree a b) _ f.0 (agrees-more a o id xs k f.1)
]

side-more : (o id : Id) (xs : List Id) → Carries o id → agrees_with o (id ∷ []) ≡ true → are_of_one_side (xs ++ o ∷ []) ≡ true → are_of_one_side (xs ++ o ∷ id ∷ []) ≡ true
side-more o id [] k n e = and-true _ _ n refl
side-more o id (a ∷ xs) k n e =
    let f = both (agrees_with a (xs ++ o ∷ [])) (are_of_one_side (xs ++ o ∷ [])) e in
    and-true _ _ (agrees-more a o id xs k f.0) (side-more o id xs k n f.1)

-- one that binds less stands behind one that binds closer, as it would stand without that one
agrees-insert : (a o id : Id) (xs : List Id) → agrees_with a (xs ++ o ∷ []) ≡ true → agrees_with a (xs ++ id ∷ []) ≡ true → agrees_with a (xs ++ o ∷ id ∷ []) ≡ true
agrees-insert a o id [] e f = elim (either (nat_lt (level o) (level a)) (agree a o) true e) [
  | inl low ↦ left-true _ _ low
  | inr g ↦ right-true (nat_lt (level o) (level a)) (agree a o) _ g.0 f
]
agrees-insert a o id (b ∷ xs) e f = elim (either (nat_lt (level b) (level a)) (agree a b) (agrees_with a (xs ++ o ∷ [])) e) [
  | inl low ↦ left-true _ _ low
  | inr g ↦ elim (either (nat_lt (level b) (level a)) (agree a b) (agrees_with a (xs ++ id ∷ [])) f) [
    | inl low ↦ left-true _ _ low
    | inr h ↦ right-true (nat_lt (level b) (level a)) (agree a b) _ g.0 (agrees-insert a o id xs g.1 h.1)
  ]
]

side-insert : (o id : Id) (xs : List Id) → agrees_with o (id ∷ []) ≡ true → are_of_one_side (xs ++ o ∷ []) ≡ true → are_of_one_side (xs ++ id ∷ []) ≡ true
    → are_of_one_side (xs ++ o ∷ id ∷ []) ≡ true
side-insert o id [] n e f = and-true _ _ n refl
side-insert o id (a ∷ xs) n e f =
    let g = both (agrees_with a (xs ++ o ∷ [])) (are_of_one_side (xs ++ o ∷ [])) e in
    let h = both (agrees_with a (xs ++ id ∷ [])) (are_of_one_side (xs ++ id ∷ [])) f in
    and-true _ _ (agrees-insert a o id xs g.0 h.0) (side-insert o id xs n g.1 h.1)

differs : (m n : ℕ) → (m == n) ≡ false → (r : Bool) → (not (m == n) || r) ≡ true
differs m n e r = ap (λ b. not b || r) e

side-through : (r s t : Bool) → same_side r s ≡ true → same_side s t ≡ true → same_side r t ≡ true
side-through true true t e f = f
side-through true false t e f = cc
side-through false true t e f = cc
side-through false false t e f = f

-- what the last operator allows, the ones before it allow
carries : (o id : Id) → nat_lt (level id) (level o) ≡ false → agree o id ≡ true → Carries o id
carries o id n k a l g = by (level id == level a) refl where
  by : (b : Bool) → (level id == level a) ≡ b → agrees_with a (id ∷ []) ≡ true
  by false e = right-true _ _ true (differs (level id) (level a) e _) refl
  by true e = at_level (level id == level o) (level o == level a) refl refl where
    at_level : (c d : Bool) → (level id == level o) ≡ c → (level o == level a) ≡ d → agrees_with a (id ∷ []) ≡ true
    at_level true true x y =
        let first : grammar.same_side a o ≡ true = sym (ap (λ t. not t || grammar.same_side a o) y) ∙ g in
        let second : grammar.same_side o id ≡ true = sym (ap (λ t. not t || grammar.same_side o id) x) ∙ k in
        let third : grammar.same_side a id ≡ true =
        same-sides a id ∙ side-through (is_right a.name) (is_right o.name) (is_right id.name) (sym (same-sides a o) ∙ first) (sym (same-sides o id) ∙ second) in
        right-true _ _ true (ap (λ t. not t || grammar.same_side a id) e ∙ third) refl
    at_level true false x y = absurd (grind (arith, nat_tests, e, x, y))
    at_level false true x y = absurd (grind (arith, nat_tests, e, x, y))
    at_level false false x y = absurd (grind (arith, nat_tests, e, x, y, n, l))

pub fits-side : (os : List Operation) (id : Id) → are_of_one_side (operators_of os) ≡ true → fits os id ≡ true → are_of_one_side (operators_of os ++ id ∷ []) ≡ true
fits-side [] id e f = refl
fits-side (o ∷ os) id e f = subst (λ xs. are_of_one_side xs ≡ true) (sym (append_assoc (operators_of os) (o.operator ∷ []) (id ∷ [])))
    (go (nat_lt (level id) (level o.operator)) refl f (fits-side os id (side-front (operators_of os) (o.operator ∷ []) e)))
  where
    go : (b : Bool) → nat_lt (level id) (level o.operator) ≡ b
        → fits_test b (fits os id) (not (level o.operator == level id) || same_side (is_right o.operator.name) (is_right id.name)) ≡ true
        → (fits os id ≡ true → are_of_one_side (operators_of os ++ id ∷ []) ≡ true) → are_of_one_side (operators_of os ++ o.operator ∷ id ∷ []) ≡ true
    go true l g on = side-insert o.operator id (operators_of os) (left-true _ _ l) e (on g)
    go false l g on =
        let near : agree o.operator id ≡ true = here-same o.operator id ∙ g in
        side-more o.operator id (operators_of os) (carries o.operator id l near) (right-true _ _ true near refl) e
