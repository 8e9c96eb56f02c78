-- How the calls on a memo change what is known, and what is locked.
use Rattle.std.proofs.Common.{◌≡◌, ℕ, ◌<◌, ◌+◌, ◌-◌, Bool, true, false, ◌||◌, List, [], ◌∷◌, ◌++◌, length, slice_get, Option, None, Some, if◌then◌else◌, refl, sym, ap, ◌∙◌, true≢false, arith, ◌⊎◌, inl, inr, Result, Ok, Err, IfOk, OnErr, ◌≤◌, get_or, length-append}
use Rattle.std.proofs.lemmas.Option.{slice_get_cases, slice_get_read}
use Rattle.std.proofs.Math.Seq.{get_or-append_seam}
use Rattle.indexmap.specs.IndexSet.{insert_key}
use Rattle.indexmap.proofs.MapLemmas.{split_last}
use Rattle.item_questions.proofs.Answers.{none≢some, some-injective}
use Rattle.std.specs.List.{list_any}
use Rattle.std.proofs.lemmas.List.Folds.{list_any-append}
use Rattle.pc_terms.specs.declared.items.Item.{Item}
use Rattle.pc_terms.specs.declared.items.ItemValue.{ItemValue}
use Rattle.pc_terms.specs.declared.items.ItemValue.TheVariants as given
use Rattle.lazy_completion.specs.declared.memo.Memo.{Memo}
use Rattle.lazy_completion.specs.Fitting.{item_eq}
use Rattle.lazy_completion.specs.Memo.{value, is_locked, Settles}
use Rattle.item_questions.specs.Rounds.{IsExact}
use Rattle.lazy_completion.proofs.Exact.{item-exact}

-- an exact test answers the same either way round
pub exact-sym : {K : Type 0} (eq : K → K → Bool) → IsExact eq → (x y : K) → eq x y ≡ eq y x
exact-sym eq exact x y = by (eq x y) refl (eq y x) refl
  where
    by : (a : Bool) → eq x y ≡ a → (b : Bool) → eq y x ≡ b → eq x y ≡ eq y x
    by true p b q = p ∙ sym ((exact y x).1 (sym ((exact x y).0 p)))
    by false p true q = (exact x y).1 (sym ((exact y x).0 q)) ∙ sym q
    by false p false q = p ∙ sym q

pub exact-refl : {K : Type 0} (eq : K → K → Bool) → IsExact eq → (x : K) → eq x x ≡ true
exact-refl eq exact x = (exact x x).1 refl

one_more : {X : Type 0} (a e : Bool) (c v : X) → (if a then c else (if e then c else v)) ≡ (if a || (e || false) then c else v)
one_more true e c v = refl
one_more false true c v = refl
one_more false false c v = refl

-- which items are locked beside the last
pub locked_beside : (old new : Memo) (given : ItemValue) → (s : Settles old new given) → (k : Item)
    → is_locked old k ≡ (is_locked new k || (item_eq s.last k || false))
locked_beside old new given s k =
    ap (list_any (item_eq k)) s.was ∙ list_any-append (item_eq k) s.others (s.last ∷ [])
    ∙ (λ i. list_any (item_eq k) (sym s.now i) || (exact-sym item_eq item-exact k s.last i || false))

pub settles_one : (old new : Memo) → Settles old new given.Cyclic → (k : Item)
    → (if is_locked new k then Some given.Cyclic else value new k) ≡ (if is_locked old k then Some given.Cyclic else value old k)
settles_one old new s k =
    ap (λ o. if is_locked new k then Some given.Cyclic else o) (s.values k)
    ∙ one_more (is_locked new k) (item_eq s.last k) (Some given.Cyclic) (value old k)
    ∙ ap (λ b. if b then Some given.Cyclic else value old k) (sym (locked_beside old new given.Cyclic s k))

pub or_absent : {A E P Q : Type 0} (r : Result A E) → IfOk r (λ _. P) → OnErr r Q → P ⊎ Q
or_absent (Ok x) p q = inl p
or_absent (Err e) p q = inr q

inserted : (was : List Item) (j k : Item) → list_any (item_eq k) (insert_key item_eq was j) ≡ true → (list_any (item_eq k) was ≡ true) ⊎ (k ≡ j)
inserted was j k h = by (list_any (item_eq j) was) refl
  where
    either : (a b : Bool) → (a || (b || false)) ≡ true → (a ≡ true) ⊎ (b ≡ true)
    either true b h = inl refl
    either false true h = inr refl
    either false false h = absurd (true≢false (sym h))

    by : (b : Bool) → list_any (item_eq j) was ≡ b → (list_any (item_eq k) was ≡ true) ⊎ (k ≡ j)
    by true e = inl (sym (ap (λ b. list_any (item_eq k) (if b then was else was ++ j ∷ [])) e) ∙ h)
    by false e =
        elim (either (list_any (item_eq k) was) (item_eq k j)
        (sym (list_any-append (item_eq k) was (j ∷ [])) ∙ sym (ap (λ b. list_any (item_eq k) (if b then was else was ++ j ∷ [])) e) ∙ h)) [
          | inl old ↦ inl old
          | inr new ↦ inr ((item-exact k j).0 new)
        ]

-- a locked item still has no value, once one more without a value may be locked
pub lock_apart : (was now : List Item) (known : Item → Option ItemValue) (j : Item) → known j ≡ None
    → ((k : Item) → list_any (item_eq k) was ≡ true → known k ≡ None) → (now ≡ insert_key item_eq was j) ⊎ (now ≡ was)
    → (k : Item) → list_any (item_eq k) now ≡ true → known k ≡ None
lock_apart was now known j none apart changed k there =
    elim changed [
      | inl more ↦ elim (inserted was j k (sym (ap (list_any (item_eq k)) more) ∙ there)) [ inl old ↦ apart k old | inr same ↦ ap known same ∙ none ]
      | inr same ↦ apart k (sym (ap (list_any (item_eq k)) same) ∙ there)
    ]

-- the last of a list that is not empty
pub last_splits : {X : Type 0} (xs : List X) (x : X) → slice_get xs (length xs - 1) ≡ Some x → 0 < length xs → (others : List X) × (xs ≡ others ++ x ∷ [])
last_splits xs x h some = (_, split_last xs x h some)

pub last_there : (xs : List Item) (x : Item) → slice_get xs (length xs - 1) ≡ Some x → 0 < length xs → list_any (item_eq x) xs ≡ true
last_there xs x h some =
    let s = last_splits xs x h some in
    ap (list_any (item_eq x)) s.1 ∙ list_any-append (item_eq x) s.0 (x ∷ []) ∙ ap (λ b. list_any (item_eq x) s.0 || (b || false)) (exact-refl item_eq item-exact x)
    ∙ or_true (list_any (item_eq x) s.0)
  where
    or_true : (a : Bool) → (a || true) ≡ true
    or_true true = refl
    or_true false = refl

pub no_last : {X : Type 0} (xs : List X) → 0 < length xs → slice_get xs (length xs - 1) ≡ None → ⊥
no_last xs some none =
    elim (slice_get_cases xs (length xs - 1)).1 [
      | inl there ↦ none≢some there.0 (sym none ∙ there.2)
      | inr past ↦ let p = past.0 in too_far (length xs) some p
    ]
  where
    too_far : (n : ℕ) → 0 < n → n ≤ n - 1 → ⊥
    too_far n h k = omega (arith, h, k)

pub last_at : {X : Type 0} (xs others : List X) (last : X) → xs ≡ others ++ last ∷ [] → slice_get xs (length xs - 1) ≡ Some last
last_at xs others last split =
    let n : length xs ≡ length others + 1 = ap length split ∙ length-append others (last ∷ []) in
    let i : length xs - 1 ≡ length others = omega (arith, n) in
    let at : get_or xs (length others) last ≡ last = ap (λ l. get_or l (length others) last) split ∙ get_or-append_seam others last [] last in
    let lt : length others < length xs = omega (arith, n) in
    ap (slice_get xs) i ∙ slice_get_read xs (length xs) (length others) last refl lt (sym at)

pub last_is : {X : Type 0} (xs others : List X) (x last : X) → slice_get xs (length xs - 1) ≡ Some x → xs ≡ others ++ last ∷ [] → x ≡ last
last_is xs others x last h split = some-injective x last (sym h ∙ last_at xs others last split)

pub same-last : {X : Type 0} (xs others front : List X) (x y : X) → xs ≡ others ++ x ∷ [] → xs ≡ front ++ y ∷ [] → x ≡ y
same-last xs others front x y p q = last_is xs front x y (last_at xs others x p) q

-- a list that is not empty has a last element
pub splits : {X : Type 0} (xs : List X) → 0 < length xs → (others : List X) × (last : X) × (xs ≡ others ++ last ∷ [])
splits xs some =
    elim (slice_get_cases xs (length xs - 1)).1 [
      | inl there ↦ let s = last_splits xs there.0 there.2 some in (s.0, there.0, s.1)
      | inr past ↦ absurd (no_last xs some past.1)
    ]

pub if_ok : {A E : Type 0} {P Q : A → Type 0} (r : Result A E) → ((x : A) → P x → Q x) → IfOk r P → IfOk r Q
if_ok (Ok x) f h = f x h
if_ok (Err e) f h = h
