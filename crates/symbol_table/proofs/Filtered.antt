-- Filters and joined lists of which every element is known.
use Rattle.std.proofs.Common.{◌≡◌, Bool, true, false, not, cond, ◌||◌, List, [], ◌∷◌, ◌++◌, map, refl, ap, ◌∙◌}
use Rattle.std.specs.List.{All, filter, flat_map, list_any}
use Rattle.std.proofs.lemmas.List.Elements.{All-nil, All-cons, All-head, All-tail}

module _ {X : Type 0} (p : X → Bool) where
  pub filter_none : (xs : List X) → All (λ x. p x ≡ false) xs → filter p xs ≡ []
  filter_none [] all = refl
  filter_none (x ∷ xs) all =
      ap (λ b. cond b (x ∷ filter p xs) (filter p xs)) (All-head (λ y. p y ≡ false) x xs all) ∙ filter_none xs (All-tail (λ y. p y ≡ false) x xs all)

  pub filter_all : (xs : List X) → All (λ x. p x ≡ true) xs → filter p xs ≡ xs
  filter_all [] all = refl
  filter_all (x ∷ xs) all =
      ap (λ b. cond b (x ∷ filter p xs) (filter p xs)) (All-head (λ y. p y ≡ true) x xs all)
      ∙ ap (λ ys. x ∷ ys) (filter_all xs (All-tail (λ y. p y ≡ true) x xs all))

pub flat_map_none : {X A : Type 0} (f : X → List A) (xs : List X) → All (λ x. f x ≡ []) xs → flat_map f xs ≡ []
flat_map_none f [] all = refl
flat_map_none f (x ∷ xs) all =
    ap (λ ys. ys ++ flat_map f xs) (All-head (λ y. f y ≡ []) x xs all) ∙ flat_map_none f xs (All-tail (λ y. f y ≡ []) x xs all)

none_first : {X : Type 0} (b : Bool) (x : X) (kept : List X) → cond b (x ∷ kept) kept ≡ [] → (b ≡ false) × (kept ≡ [])
none_first true x kept h = cc
none_first false x kept h = (refl, h)

-- where a filter keeps nothing, nothing passes
pub none_pass : {X : Type 0} (p : X → Bool) (xs : List X) → filter p xs ≡ [] → All (λ x. p x ≡ false) xs
none_pass p [] h = All-nil (λ x. p x ≡ false)
none_pass p (x ∷ xs) h =
    let first = none_first (p x) x (filter p xs) h in
    All-cons (λ y. p y ≡ false) x xs first.0 (none_pass p xs first.1)

pub list_any-map : {X Y : Type 0} (p : Y → Bool) (f : X → Y) (xs : List X) → list_any p (map f xs) ≡ list_any (λ x. p (f x)) xs
list_any-map p f [] = refl
list_any-map p f (x ∷ xs) = ap (λ b. p (f x) || b) (list_any-map p f xs)

pub or_nothing : (a b : Bool) → b ≡ false → (a || b) ≡ a
or_nothing true b h = refl
or_nothing false b h = h

pub not_not : (b : Bool) → not (not b) ≡ b
not_not true = refl
not_not false = refl
