-- A linearisation begins with its class, has each class once, and ends with that of the first parent.
use Rattle.std.proofs.Common.{◌≡◌, ℕ, zero, suc, ◌≤◌, Bool, true, false, not, cond, ◌&&◌, ◌||◌, List, [], ◌∷◌, ◌++◌, Some, refl, sym, ap, subst, ◌∙◌, true≢false, inl, inr, arith}
use Rattle.std.specs.Prelude.{⊤}
use Rattle.std.specs.List.{filter}
use Rattle.item_questions.specs.Questions.{Known, Infos}
use Rattle.item_questions.proofs.Answers.{known-injective}
use Rattle.pc_terms.specs.declared.items.Item.{Item}
use Rattle.pc_terms.specs.declared.items.ItemValue.{ItemValue}
use Rattle.pc_terms.specs.declared.symbols.SymPath.{SymPath}
use Rattle.pc_terms.specs.declared.types.Ty.{Ty}
use Rattle.type_substitution.specs.Substitution.{path_eq}
use Rattle.type_substitution.proofs.Exact.{path-exact}
use Rattle.class_parents.specs.Laws.{EachOnce}
use Rattle.class_parents.specs.Linearisation.{behind_each_other, onto}
use Rattle.class_parents.specs.Parents.{class_of, classes_of, listed, is_in}
use Rattle.class_parents.proofs.Lines.{parents_at, line, lines, line-at, lines-at, line-is-known, lines-first, endless-line}
use Rattle.class_parents.proofs.Lists.{new_to, is_in-append, is_in-filter, is_in-onto, or-either, or-left, path-refl}

-- ---- lists of classes

both-false : (a b : Bool) → a ≡ false → b ≡ false → (a || b) ≡ false
both-false a b h g = ap (λ c. c || b) h ∙ g

nothing-more : (b : Bool) → (b && false) ≡ false
nothing-more true = refl
nothing-more false = refl

later : (a b : Bool) → b ≡ true → (a || b) ≡ true
later true b g = refl
later false b g = g

kept-once : (b : Bool) (x : SymPath) (kept : List SymPath) → is_in x kept ≡ false → EachOnce kept → EachOnce (cond b (x ∷ kept) kept)
kept-once true x kept new once = (new, once)
kept-once false x kept new once = once

once-filter : (right left : List SymPath) → EachOnce left → EachOnce (filter (new_to right) left)
once-filter right [] once = tt
once-filter right (x ∷ xs) once =
    kept-once (new_to right x) x (filter (new_to right) xs)
    (is_in-filter x xs right ∙ ap (λ b. new_to right x && b) once.0 ∙ nothing-more (new_to right x)) (once-filter right xs once.1)

once-append : (left right : List SymPath) → EachOnce left → EachOnce right → ((x : SymPath) → is_in x left ≡ true → is_in x right ≡ false)
    → EachOnce (left ++ right)
once-append [] right once other apart = other
once-append (x ∷ xs) right once other apart = (
  is_in-append x xs right ∙ both-false (is_in x xs) (is_in x right) once.0 (apart x (or-left (path_eq x x) (is_in x xs) (path-refl x))),
  once-append xs right once.1 other (λ y h. apart y (later (path_eq y x) (is_in y xs) h)),
)

new-only : (r l : Bool) → (not r && l) ≡ true → r ≡ false
new-only true l h = absurd (true≢false (sym h))
new-only false l h = refl

once-onto : (left right : List SymPath) → EachOnce left → EachOnce right → EachOnce (onto left right)
once-onto left right once other =
    once-append (filter (new_to right) left) right (once-filter right left once) other
    (λ x h. new-only (is_in x right) (is_in x left) (sym (is_in-filter x left right) ∙ h))

second : (a b : Bool) → (a && b) ≡ true → b ≡ true
second true b h = h
second false b h = absurd (true≢false (sym h))

none-in : (b : Bool) → (b ≡ true → ⊥) → b ≡ false
none-in true never = absurd (never refl)
none-in false never = refl

abbrev AllOnce : List (List SymPath) → Type 0
AllOnce [] = ⊤
AllOnce (l ∷ lists) = EachOnce l × AllOnce lists

module _ (known : Infos Item ItemValue) where
  -- ---- where a class of a linearisation comes from

  -- a class whose linearisation has this one
  record Leads (n : ℕ) (x : SymPath) : Type 0 where
    class : SymPath
    classes : List SymPath
    is_line : line known n class ≡ Known classes
    has : is_in x classes ≡ true

  in-either : (n : ℕ) (class x : SymPath) (first : List SymPath) (others : List (List SymPath)) → line known n class ≡ Known first
      → (is_in x (behind_each_other others) ≡ true → Leads n x) → is_in x (onto (behind_each_other others) first) ≡ true → Leads n x
  in-either n class x first others is_line below h =
      elim (or-either (new_to first x && is_in x (behind_each_other others)) (is_in x first) (sym (is_in-onto x (behind_each_other others) first) ∙ h)) [
        | inl there ↦ below (second (new_to first x) (is_in x (behind_each_other others)) there)
        | inr here ↦ record { class = class; classes = first; is_line = is_line; has = here }
      ]

  found-in : (n : ℕ) (classes : List SymPath) (lists : List (List SymPath)) → lines known n classes ≡ Known lists
      → (x : SymPath) → is_in x (behind_each_other lists) ≡ true → Leads n x
  found-in n [] lists h x g = absurd (true≢false (sym g ∙ ap (λ ls. is_in x (behind_each_other ls)) (sym (known-injective [] lists h))))
  found-in n (class ∷ classes) lists h x g =
      let parts = lines-first known n class classes lists h in
      in-either n class x parts.0 parts.1 parts.2 (found-in n classes parts.1 parts.3 x)
      (ap (λ ls. is_in x (behind_each_other ls)) parts.4 ∙ g)

  record Below (n : ℕ) (x : SymPath) : Type 0 where
    room : ℕ
    fewer : room ≤ n
    classes : List SymPath
    is_line : line known room x ≡ Known classes

  -- a class of a linearisation has a linearisation, with no more room
  has-line : (n : ℕ) (class : SymPath) (classes : List SymPath) → line known n class ≡ Known classes → (x : SymPath) → is_in x classes ≡ true → Below n x
  has-line zero class classes h x g = absurd (endless-line known class classes h)
  has-line (suc n) class classes h x g =
      let parts = line-is-known known n class classes h in
      elim (or-either (path_eq x class) (is_in x (behind_each_other parts.1)) (ap (is_in x) (sym parts.4) ∙ g)) [
        | inl same ↦ record {
          room = suc n;
          fewer = omega arith;
          classes = classes;
          is_line = ap (line known (suc n)) ((path-exact x class).0 same) ∙ h;
        }
        | inr there ↦
            let leads = found-in n (classes_of parts.0) parts.1 parts.3 x there in
            let below = has-line n leads.class leads.classes leads.is_line x leads.has in
            record { room = below.room; fewer = omega (arith, below.fewer); classes = below.classes; is_line = below.is_line }
      ]

  -- so a class is in no linearisation of a parent
  abbrev NotBelow : ℕ → Type 0
  NotBelow n = (class : SymPath) (types : List Ty) (lists : List (List SymPath)) → parents_at known class ≡ Known types
      → lines known n (classes_of types) ≡ Known lists → is_in class (behind_each_other lists) ≡ true → ⊥

  at-room : (n : ℕ) → ((m : ℕ) → suc m ≤ n → NotBelow m) → (class : SymPath) (types : List Ty) (lists : List (List SymPath))
      → parents_at known class ≡ Known types → lines known n (classes_of types) ≡ Known lists → is_in class (behind_each_other lists) ≡ true
      → (room : ℕ) → room ≤ n → (l : List SymPath) → line known room class ≡ Known l → ⊥
  at-room n again class types lists h g has zero le l is_line = endless-line known class l is_line
  at-room n again class types lists h g has (suc m) le l is_line =
      let parts = line-is-known known m class l is_line in
      let same : parts.0 ≡ types = known-injective parts.0 types (sym parts.2 ∙ h) in
      let here : lines known m (classes_of types) ≡ Known parts.1 = ap (λ ts. lines known m (classes_of ts)) (sym same) ∙ parts.3 in
      let equal : parts.1 ≡ lists = known-injective parts.1 lists (sym (lines-at known m n (classes_of types) parts.1 (omega (arith, le)) here) ∙ g) in
      again m le class types parts.1 h here (ap (λ ls. is_in class (behind_each_other ls)) equal ∙ has)

  not-below-at : (n : ℕ) → ((m : ℕ) → suc m ≤ n → NotBelow m) → NotBelow n
  not-below-at n again class types lists h g has =
      let leads = found-in n (classes_of types) lists g class has in
      let below = has-line n leads.class leads.classes leads.is_line class leads.has in
      at-room n again class types lists h g has below.room below.fewer below.classes below.is_line

  not-below : (bound n : ℕ) → n ≤ bound → NotBelow n
  not-below zero n le = not-below-at n (λ m q. absurd (omega (arith, q, le)))
  not-below (suc bound) n le = not-below-at n (λ m q. not-below bound m (omega (arith, q, le)))

  -- ---- the laws

  once-behind : (lists : List (List SymPath)) → AllOnce lists → EachOnce (behind_each_other lists)
  once-behind [] all = tt
  once-behind (l ∷ lists) all = once-onto (behind_each_other lists) l (once-behind lists all.1) all.0

  lines-once : (n : ℕ) → ((class : SymPath) (l : List SymPath) → line known n class ≡ Known l → EachOnce l)
      → (classes : List SymPath) (lists : List (List SymPath)) → lines known n classes ≡ Known lists → AllOnce lists
  lines-once n each [] lists h = subst AllOnce (known-injective [] lists h) tt
  lines-once n each (class ∷ classes) lists h =
      let parts = lines-first known n class classes lists h in
      subst AllOnce parts.4 (each class parts.0 parts.2, lines-once n each classes parts.1 parts.3)

  pub line-once : (n : ℕ) (class : SymPath) (l : List SymPath) → line known n class ≡ Known l → EachOnce l
  line-once zero class l h = absurd (endless-line known class l h)
  line-once (suc n) class l h =
      let parts = line-is-known known n class l h in
      subst EachOnce (sym parts.4) (
        none-in (is_in class (behind_each_other parts.1)) (not-below n n (omega arith) class parts.0 parts.1 parts.2 parts.3),
        once-behind parts.1 (lines-once n (line-once n) (classes_of parts.0) parts.1 parts.3),
      )

module _ (known : Infos Item ItemValue) (class : SymPath) (classes : List SymPath) where
  -- the room of a linearisation, but for that of the class itself
  abbrev room : ℕ
  room = 4294967294

  pub begins : line known (suc room) class ≡ Known classes → (others : List SymPath) × (classes ≡ class ∷ others)
  begins h = let parts = line-is-known known room class classes h in (behind_each_other parts.1, parts.4)

  first-line : (parent : SymPath) (first : Ty) (others : List Ty) (lists : List (List SymPath)) → class_of first ≡ Some parent
      → lines known room (classes_of (first ∷ others)) ≡ Known lists → classes ≡ class ∷ behind_each_other lists
      → (l : List SymPath) × (before : List SymPath) × (line known (suc room) parent ≡ Known l) × (classes ≡ before ++ l)
  first-line parent first others lists e h is =
      let parts = lines-first known room parent (classes_of others) lists (ap (λ o. lines known room (listed o ++ classes_of others)) (sym e) ∙ h) in (
        parts.0,
        class ∷ filter (new_to parts.0) (behind_each_other parts.1),
        line-at known room (suc room) parent parts.0 (omega arith) parts.2,
        is ∙ ap (λ ls. class ∷ behind_each_other ls) (sym parts.4),
      )

  pub ends : (parent : SymPath) (first : Ty) (others : List Ty) → parents_at known class ≡ Known (first ∷ others) → class_of first ≡ Some parent
      → line known (suc room) class ≡ Known classes
      → (l : List SymPath) × (before : List SymPath) × (line known (suc room) parent ≡ Known l) × (classes ≡ before ++ l)
  ends parent first others p e h =
      let parts = line-is-known known room class classes h in
      first-line parent first others parts.1 e
      (ap (λ ts. lines known room (classes_of ts)) (known-injective (first ∷ others) parts.0 (sym p ∙ parts.2)) ∙ parts.3) parts.4
