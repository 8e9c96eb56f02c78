-- The order of classes in lists.
use Rattle.std.proofs.Common.{◌≡◌, Bool, true, false, not, cond, ◌&&◌, List, [], ◌∷◌, ◌++◌, refl, sym, ap, subst, ◌∙◌, true≢false, inl, inr}
use Rattle.std.specs.List.{filter}
use Rattle.pc_terms.specs.declared.symbols.SymPath.{SymPath}
use Rattle.type_substitution.specs.Substitution.{path_eq}
use Rattle.type_substitution.proofs.Exact.{path-exact}
use Rattle.class_parents.specs.Laws.{EachOnce}
use Rattle.class_parents.specs.Parents.{is_in}
use Rattle.class_parents.proofs.Lists.{Within, new_to, is_in-append, is_in-filter, or-either, or-left, or-right, path-refl}
use Rattle.parent_laws.specs.Order.{InOrder, stands_before}

pub both : (a b : Bool) → (a && b) ≡ true → (a ≡ true) × (b ≡ true)
both true b h = (refl, h)
both false b h = absurd (true≢false (sym h))

pub and-true : (a b : Bool) → a ≡ true → b ≡ true → (a && b) ≡ true
and-true a b h g = ap (λ c. c && b) h ∙ g

pub clash : {A : Type 0} (b : Bool) → b ≡ true → b ≡ false → A
clash b h g = absurd (true≢false (sym h ∙ g))

pub in-left : (y : SymPath) (xs ys : List SymPath) → is_in y xs ≡ true → is_in y (xs ++ ys) ≡ true
in-left y xs ys h = is_in-append y xs ys ∙ or-left (is_in y xs) (is_in y ys) h

pub in-right : (y : SymPath) (xs ys : List SymPath) → is_in y ys ≡ true → is_in y (xs ++ ys) ≡ true
in-right y xs ys h = is_in-append y xs ys ∙ or-right (is_in y xs) (is_in y ys) h

pub in-first : (x : SymPath) (xs : List SymPath) → is_in x (x ∷ xs) ≡ true
in-first x xs = or-left (path_eq x x) (is_in x xs) (path-refl x)

module _ (x y : SymPath) where
  -- ---- where the two are

  pub first-in : (xs : List SymPath) → stands_before x y xs ≡ true → is_in x xs ≡ true
  first-in [] h = h
  first-in (z ∷ xs) h = elim (or-either (path_eq x z && is_in y xs) (stands_before x y xs) h) [
    | inl here ↦ or-left (path_eq x z) (is_in x xs) (both (path_eq x z) (is_in y xs) here).0
    | inr later ↦ or-right (path_eq x z) (is_in x xs) (first-in xs later)
  ]

  pub second-in : (xs : List SymPath) → stands_before x y xs ≡ true → is_in y xs ≡ true
  second-in [] h = h
  second-in (z ∷ xs) h = elim (or-either (path_eq x z && is_in y xs) (stands_before x y xs) h) [
    | inl here ↦ or-right (path_eq y z) (is_in y xs) (both (path_eq x z) (is_in y xs) here).1
    | inr later ↦ or-right (path_eq y z) (is_in y xs) (second-in xs later)
  ]

  pub begins-before : (z : SymPath) (xs : List SymPath) → path_eq x z ≡ true → is_in y xs ≡ true → stands_before x y (z ∷ xs) ≡ true
  begins-before z xs h g = or-left (path_eq x z && is_in y xs) (stands_before x y xs) (and-true (path_eq x z) (is_in y xs) h g)

  pub later-before : (z : SymPath) (xs : List SymPath) → stands_before x y xs ≡ true → stands_before x y (z ∷ xs) ≡ true
  later-before z xs h = or-right (path_eq x z && is_in y xs) (stands_before x y xs) h

  -- ---- two lists

  pub before-right : (xs ys : List SymPath) → stands_before x y ys ≡ true → stands_before x y (xs ++ ys) ≡ true
  before-right [] ys h = h
  before-right (z ∷ xs) ys h = later-before z (xs ++ ys) (before-right xs ys h)

  pub before-left : (xs ys : List SymPath) → stands_before x y xs ≡ true → stands_before x y (xs ++ ys) ≡ true
  before-left [] ys h = absurd (true≢false (sym h))
  before-left (z ∷ xs) ys h = elim (or-either (path_eq x z && is_in y xs) (stands_before x y xs) h) [
    | inl here ↦ let parts = both (path_eq x z) (is_in y xs) here in begins-before z (xs ++ ys) parts.0 (in-left y xs ys parts.1)
    | inr later ↦ later-before z (xs ++ ys) (before-left xs ys later)
  ]

  pub before-across : (xs ys : List SymPath) → is_in x xs ≡ true → is_in y ys ≡ true → stands_before x y (xs ++ ys) ≡ true
  before-across [] ys h g = absurd (true≢false (sym h))
  before-across (z ∷ xs) ys h g = elim (or-either (path_eq x z) (is_in x xs) h) [
    | inl here ↦ begins-before z (xs ++ ys) here (in-right y xs ys g)
    | inr later ↦ later-before z (xs ++ ys) (before-across xs ys later g)
  ]

  -- ---- a part of a list

  in-new : (right xs : List SymPath) (c : SymPath) → is_in c right ≡ false → is_in c xs ≡ true → is_in c (filter (new_to right) xs) ≡ true
  in-new right xs c new h = is_in-filter c xs right ∙ and-true (new_to right c) (is_in c xs) (ap not new) h

  kept-before : (b : Bool) (z : SymPath) (kept : List SymPath) → stands_before x y kept ≡ true → stands_before x y (cond b (z ∷ kept) kept) ≡ true
  kept-before true z kept h = later-before z kept h
  kept-before false z kept h = h

  pub before-filter : (right xs : List SymPath) → is_in x right ≡ false → is_in y right ≡ false → stands_before x y xs ≡ true
      → stands_before x y (filter (new_to right) xs) ≡ true
  before-filter right [] new also h = h
  before-filter right (z ∷ xs) new also h = elim (or-either (path_eq x z && is_in y xs) (stands_before x y xs) h) [
    | inl here ↦
        let parts = both (path_eq x z) (is_in y xs) here in
        let keeps : new_to right z ≡ true = ap (new_to right) (sym ((path-exact x z).0 parts.0)) ∙ ap not new in
        ap (λ b. stands_before x y (cond b (z ∷ filter (new_to right) xs) (filter (new_to right) xs))) keeps
        ∙ begins-before z (filter (new_to right) xs) parts.0 (in-new right xs y also parts.1)
    | inr later ↦ kept-before (new_to right z) z (filter (new_to right) xs) (before-filter right xs new also later)
  ]

  -- what stands before in a list with each class once, stands so in each end of it that has the first
  pub before-end : (xs ys : List SymPath) → EachOnce (xs ++ ys) → is_in x ys ≡ true → stands_before x y (xs ++ ys) ≡ true → stands_before x y ys ≡ true
  before-end [] ys once h g = g
  before-end (z ∷ xs) ys once h g = elim (or-either (path_eq x z && is_in y (xs ++ ys)) (stands_before x y (xs ++ ys)) g) [
    | inl here ↦
        let same = (path-exact x z).0 (both (path_eq x z) (is_in y (xs ++ ys)) here).0 in
        clash (is_in z (xs ++ ys)) (ap (λ c. is_in c (xs ++ ys)) (sym same) ∙ in-right x xs ys h) once.0
    | inr later ↦ before-end xs ys once.1 h later
  ]

-- ---- subsequences

pub in-order-in : (few many : List SymPath) → InOrder few many → Within few many
in-order-in [] many order y h = absurd (true≢false (sym h))
in-order-in (x ∷ few) many order y h =
    ap (is_in y) order.2 ∙ in-right y order.0 (x ∷ order.1) (elim (or-either (path_eq y x) (is_in y few) h) [
      | inl same ↦ or-left (path_eq y x) (is_in y order.1) same
      | inr later ↦ or-right (path_eq y x) (is_in y order.1) (in-order-in few order.1 order.3 y later)
    ])

pub in-order-before : (few many : List SymPath) → InOrder few many → (x y : SymPath) → stands_before x y few ≡ true → stands_before x y many ≡ true
in-order-before [] many order x y h = absurd (true≢false (sym h))
in-order-before (z ∷ few) many order x y h =
    ap (stands_before x y) order.2 ∙ before-right x y order.0 (z ∷ order.1) (elim (or-either (path_eq x z && is_in y few) (stands_before x y few) h) [
      | inl here ↦
          let parts = both (path_eq x z) (is_in y few) here in
          begins-before x y z order.1 parts.0 (in-order-in few order.1 order.3 y parts.1)
      | inr later ↦ later-before x y z order.1 (in-order-before few order.1 order.3 x y later)
    ])

-- a list around one of its classes
cut : (x : SymPath) (many : List SymPath) → is_in x many ≡ true → (before : List SymPath) × (after : List SymPath) × (many ≡ before ++ x ∷ after)
cut x [] h = absurd (true≢false (sym h))
cut x (z ∷ many) h = elim (or-either (path_eq x z) (is_in x many) h) [
  | inl same ↦ ([], many, ap (λ c. c ∷ many) (sym ((path-exact x z).0 same)))
  | inr later ↦ let parts = cut x many later in (z ∷ parts.0, parts.1, ap (λ cs. z ∷ cs) parts.2)
]

once-end : (xs ys : List SymPath) → EachOnce (xs ++ ys) → EachOnce ys
once-end [] ys once = once
once-end (x ∷ xs) ys once = once-end xs ys once.1

abbrev KeepsOrder : List SymPath → List SymPath → Type 0
KeepsOrder few many = (x y : SymPath) → stands_before x y few ≡ true → stands_before x y many ≡ true

module _ (x : SymPath) (few before after : List SymPath) (once : EachOnce (before ++ x ∷ after)) (keeps : KeepsOrder (x ∷ few) (before ++ x ∷ after)) where
  behind-in : Within few after
  behind-in y h =
      elim (or-either (path_eq x x && is_in y after) (stands_before x y after)
      (before-end x y before (x ∷ after) once (in-first x after) (keeps x y (begins-before x y x few (path-refl x) h)))) [
        | inl here ↦ (both (path_eq x x) (is_in y after) here).1
        | inr later ↦ second-in x y after later
      ]

  behind-keeps : KeepsOrder few after
  behind-keeps y z h =
      let has = behind-in y (first-in y z few h) in
      before-end y z (x ∷ []) after (once-end before (x ∷ after) once) has
      (before-end y z before (x ∷ after) once (or-right (path_eq y x) (is_in y after) has) (keeps y z (later-before y z x few h)))

-- A list is a subsequence of another, each class once, that has all its classes, each two of them in the same order.
pub in-order : (few many : List SymPath) → EachOnce many → Within few many → KeepsOrder few many → InOrder few many
in-order [] many once within keeps = tt
in-order (x ∷ few) many once within keeps =
    let parts = cut x many (within x (in-first x few)) in
    let once' = subst EachOnce parts.2 once in
    let keeps' : KeepsOrder (x ∷ few) (parts.0 ++ x ∷ parts.1) = λ y z h. ap (stands_before y z) (sym parts.2) ∙ keeps y z h in (
      parts.0,
      parts.1,
      parts.2,
      in-order few parts.1 (once-end (x ∷ []) parts.1 (once-end parts.0 (x ∷ parts.1) once'))
          (behind-in x few parts.0 parts.1 once' keeps') (behind-keeps x few parts.0 parts.1 once' keeps'),
    )
