-- A class of a linearisation stands before all others to which it leads.
use Rattle.std.proofs.Common.{◌≡◌, ℕ, zero, suc, ◌+◌, Bool, true, false, not, ◌&&◌, List, [], ◌∷◌, refl, sym, ap, ◌∙◌, true≢false, inl, inr, arith}
use Rattle.std.specs.List.{filter}
use Rattle.item_questions.specs.Questions.{Known, Infos}
use Rattle.item_questions.proofs.Answers.{known-injective}
use Rattle.pc_terms.specs.declared.items.Item.{Item}
use Rattle.pc_terms.specs.declared.items.ItemValue.{ItemValue}
use Rattle.pc_terms.specs.declared.symbols.SymPath.{SymPath}
use Rattle.type_substitution.specs.Substitution.{path_eq}
use Rattle.type_substitution.proofs.Exact.{path-exact}
use Rattle.class_parents.specs.Linearisation.{behind_each_other, onto}
use Rattle.class_parents.specs.Parents.{classes_of, is_in}
use Rattle.class_parents.proofs.Lines.{line, lines, line-at, line-is-known, lines-first, endless-line}
use Rattle.class_parents.proofs.Lists.{new_to, is_in-append, is_in-filter, or-either}
use Rattle.parent_laws.specs.Order.{stands_before}
use Rattle.parent_laws.proofs.Lists.{both, clash, begins-before, later-before, before-right, before-left, before-across, before-filter, first-in}

-- where one of two lists puts one class before another, and the right one has both or neither, the two together put it so
pub left-before : (x y : SymPath) (left right : List SymPath) → is_in x right ≡ false → stands_before x y left ≡ true → stands_before x y (onto left right) ≡ true
left-before x y left right new h = by (is_in y right) refl
  where
    kept : is_in x (filter (new_to right) left) ≡ true
    kept = is_in-filter x left right ∙ ap (λ b. not b && is_in x left) new ∙ first-in x y left h

    by : (b : Bool) → is_in y right ≡ b → stands_before x y (onto left right) ≡ true
    by true e = before-across x y (filter (new_to right) left) right kept e
    by false e = before-left x y (filter (new_to right) left) right (before-filter x y right left new e h)

module _ (known : Infos Item ItemValue) where
  pub same-line : (m n : ℕ) (class : SymPath) (l k : List SymPath) → line known m class ≡ Known l → line known n class ≡ Known k → l ≡ k
  same-line m n class l k h g =
      known-injective l k (sym (line-at known m (m + n) class l (omega arith) h) ∙ line-at known n (m + n) class k (omega arith) g)

  module _ (x y : SymPath) (m : ℕ) (l : List SymPath) (is_line : line known m x ≡ Known l) (has : is_in y l ≡ true) (other : path_eq x y ≡ false) where
    abbrev Refines : ℕ → Type 0
    Refines n = (class : SymPath) (classes : List SymPath) → line known n class ≡ Known classes → is_in x classes ≡ true → stands_before x y classes ≡ true

    refines-onto : (first : List SymPath) (others : List SymPath) → (is_in x first ≡ true → stands_before x y first ≡ true)
        → (is_in x others ≡ true → stands_before x y others ≡ true) → is_in x (onto others first) ≡ true → stands_before x y (onto others first) ≡ true
    refines-onto first others one rest h = by (is_in x first) refl
      where
        by : (b : Bool) → is_in x first ≡ b → stands_before x y (onto others first) ≡ true
        by true e = before-right x y (filter (new_to first) others) first (one e)
        by false e = elim (or-either (is_in x (filter (new_to first) others)) (is_in x first) (sym (is_in-append x (filter (new_to first) others) first) ∙ h)) [
          | inl there ↦ left-before x y others first e (rest (both (new_to first x) (is_in x others) (sym (is_in-filter x others first) ∙ there)).1)
          | inr here ↦ clash (is_in x first) here e
        ]

    refines-lines : (n : ℕ) → Refines n → (classes : List SymPath) (lists : List (List SymPath)) → lines known n classes ≡ Known lists
        → is_in x (behind_each_other lists) ≡ true → stands_before x y (behind_each_other lists) ≡ true
    refines-lines n each [] lists h g = absurd (true≢false (sym g ∙ ap (λ ls. is_in x (behind_each_other ls)) (sym (known-injective [] lists h))))
    refines-lines n each (class ∷ classes) lists h g =
        let parts = lines-first known n class classes lists h in
        ap (λ ls. stands_before x y (behind_each_other ls)) (sym parts.4)
        ∙ refines-onto parts.0 (behind_each_other parts.1) (each class parts.0 parts.2) (refines-lines n each classes parts.1 parts.3)
        (ap (λ ls. is_in x (behind_each_other ls)) parts.4 ∙ g)

    not-itself : path_eq y x ≡ true → path_eq x y ≡ true
    not-itself h = (path-exact x y).1 (sym ((path-exact y x).0 h))

    refines-own : (n : ℕ) (class : SymPath) (classes others : List SymPath) → line known n class ≡ Known classes → classes ≡ class ∷ others
        → path_eq x class ≡ true → stands_before x y (class ∷ others) ≡ true
    refines-own n class classes others h is same =
        let equal = (path-exact x class).0 same in
        let all : l ≡ class ∷ others = same-line m n x l classes is_line (ap (line known n) equal ∙ h) ∙ is in
        elim (or-either (path_eq y class) (is_in y others) (ap (is_in y) (sym all) ∙ has)) [
          | inl itself ↦ clash (path_eq x y) (not-itself (ap (path_eq y) equal ∙ itself)) other
          | inr behind ↦ begins-before x y class others same behind
        ]

    pub refines : (n : ℕ) → Refines n
    refines zero class classes h g = absurd (endless-line known class classes h)
    refines (suc n) class classes h g =
        let parts = line-is-known known n class classes h in
        ap (stands_before x y) parts.4
        ∙ (elim (or-either (path_eq x class) (is_in x (behind_each_other parts.1)) (ap (is_in x) (sym parts.4) ∙ g)) [
          | inl same ↦ refines-own (suc n) class classes (behind_each_other parts.1) h parts.4 same
          | inr there ↦ later-before x y class (behind_each_other parts.1) (refines-lines n (refines n) (classes_of parts.0) parts.1 parts.3 there)
        ])
