-- Lists of classes behind each other.
use Rattle.std.proofs.Common.{◌≡◌, Bool, true, false, not, cond, ◌&&◌, ◌||◌, List, [], ◌∷◌, ◌++◌, refl, sym, ap, ◌∙◌, ◌⊎◌, inl, inr}
use Rattle.std.specs.List.{filter, list_any}
use Rattle.std.proofs.lemmas.List.{append_assoc}
use Rattle.std.proofs.lemmas.List.Folds.{list_any-append}
use Rattle.std.proofs.lemmas.Map.Views.{any-filter_same}
use Rattle.std.proofs.lemmas.List.Elements.{filter-append}
use Rattle.pc_terms.specs.declared.symbols.SymPath.{SymPath}
use Rattle.type_substitution.specs.Substitution.{path_eq}
use Rattle.type_substitution.proofs.Exact.{path-exact}
use Rattle.class_parents.specs.Parents.{is_in}
use Rattle.class_parents.specs.Linearisation.{onto}

pub path-refl : (x : SymPath) → path_eq x x ≡ true
path-refl x = (path-exact x x).1 refl

pub is_in-append : (x : SymPath) (xs ys : List SymPath) → is_in x (xs ++ ys) ≡ (is_in x xs || is_in x ys)
is_in-append x xs ys = list_any-append (path_eq x) xs ys

pub or-left : (a b : Bool) → a ≡ true → (a || b) ≡ true
or-left a b h = ap (λ c. c || b) h

pub or-right : (a b : Bool) → b ≡ true → (a || b) ≡ true
or-right true b h = refl
or-right false b h = h

pub or-either : (a b : Bool) → (a || b) ≡ true → (a ≡ true) ⊎ (b ≡ true)
or-either true b h = inl refl
or-either false b h = inr h

-- each class of the first list is in the second
abbrev pub Within : List SymPath → List SymPath → Type 0
Within few many = (x : SymPath) → is_in x few ≡ true → is_in x many ≡ true

abbrev pub new_to : List SymPath → SymPath → Bool
new_to right class = not (is_in class right)

pub onto-within : (left right : List SymPath) → Within left right → onto left right ≡ right
onto-within [] right within = refl
onto-within (x ∷ xs) right within =
    ap (λ b. cond (not b) (x ∷ filter (new_to right) xs) (filter (new_to right) xs) ++ right) (within x (or-left (path_eq x x) (is_in x xs) (path-refl x)))
    ∙ onto-within xs right (λ y h. within y (or-right (path_eq y x) (is_in y xs) h))

pub onto-new : (x : SymPath) (xs right : List SymPath) → is_in x right ≡ false → onto (x ∷ xs) right ≡ x ∷ onto xs right
onto-new x xs right e = ap (λ b. cond (not b) (x ∷ filter (new_to right) xs) (filter (new_to right) xs) ++ right) e

pub is_in-filter : (y : SymPath) (left right : List SymPath) → is_in y (filter (new_to right) left) ≡ (new_to right y && is_in y left)
is_in-filter y left right =
    any-filter_same (path_eq y) (new_to right) (new_to right y) (λ k h. ap (new_to right) (sym ((path-exact y k).0 h))) left

pub is_in-onto : (y : SymPath) (left right : List SymPath) → is_in y (onto left right) ≡ ((new_to right y && is_in y left) || is_in y right)
is_in-onto y left right = is_in-append y (filter (new_to right) left) right ∙ ap (λ b. b || is_in y right) (is_in-filter y left right)

left-bool : (l r : Bool) → l ≡ true → ((not r && l) || r) ≡ true
left-bool l true h = or-right (not true && l) true refl
left-bool l false h = ap (λ b. b || false) h

-- what is in one of two lists is in both together
pub left-within : (left right : List SymPath) → Within left (onto left right)
left-within left right y h = is_in-onto y left right ∙ left-bool (is_in y left) (is_in y right) h

pub right-within : (left right : List SymPath) → Within right (onto left right)
right-within left right y h = is_in-onto y left right ∙ or-right (new_to right y && is_in y left) (is_in y right) h

filtered_once : {X : Type 0} (p : X → Bool) (x : X) (b : Bool) (kept done : List X) → filter p kept ≡ done
    → filter p (cond b (x ∷ kept) kept) ≡ cond (b && p x) (x ∷ done) done
filtered_once p x true kept done h = ap (λ ks. cond (p x) (x ∷ ks) ks) h
filtered_once p x false kept done h = h

filter-filter : {X : Type 0} (p q : X → Bool) (xs : List X) → filter p (filter q xs) ≡ filter (λ x. q x && p x) xs
filter-filter p q [] = refl
filter-filter p q (x ∷ xs) = filtered_once p x (q x) (filter q xs) (filter (λ y. q y && p y) xs) (filter-filter p q xs)

both-bool : (b r : Bool) → (not b && not r) ≡ not ((not r && b) || r)
both-bool true true = refl
both-bool true false = refl
both-bool false true = refl
both-bool false false = refl

new-to-both : (b r : List SymPath) (x : SymPath) → (new_to b x && new_to r x) ≡ new_to (onto b r) x
new-to-both b r x = both-bool (is_in x b) (is_in x r) ∙ ap not (sym (is_in-onto x b r))

-- lists behind each other may be put together in either order
pub onto-assoc : (a b r : List SymPath) → onto (onto a b) r ≡ onto a (onto b r)
onto-assoc a b r =
    ap (λ ks. ks ++ r) (filter-append (new_to r) (filter (new_to b) a) b)
    ∙ append_assoc (filter (new_to r) (filter (new_to b) a)) (filter (new_to r) b) r
    ∙ ap (λ ks. ks ++ (filter (new_to r) b ++ r)) (filter-filter (new_to r) (new_to b) a ∙ (λ i. filter (λ x. new-to-both b r x i) a))
