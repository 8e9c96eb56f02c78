-- The companions that case classes have, as the definitions say them.
use Rattle.std.proofs.Common.{◌≡◌, ℕ, suc, zero, ◌<◌, Bool, true, false, not, cond, ◌&&◌, ◌||◌, if◌then◌else◌, List, [], ◌∷◌, ◌++◌, map, length, take, get_or, Option, Some, None, is_some, refl, sym, ap, subst, ◌∙◌, arith}
use Rattle.std.specs.List.{All, filter, flat_map, list_any, slice_get}
use Rattle.std.specs.Option.{option_map, option_and_then}
use Rattle.std.specs.Str.{bytes_eq}
use Rattle.std.proofs.lemmas.Bool.{false≢true, and_parts, and_from, or_right, false_from_ne_true}
use Rattle.std.proofs.lemmas.List.{take-map, get_or-take, length-take-le}
use Rattle.std.proofs.lemmas.List.Elements.{All-nil, All-head, All-tail, All-append, All-weaker, All-map}
use Rattle.std.proofs.lemmas.Option.{slice_get_within, get_or_from_slice_get}
use Rattle.pc_terms.specs.Show.{last_step}
use Rattle.pc_terms.specs.declared.symbols.SymKind.{SymKind}
use Rattle.pc_terms.specs.declared.symbols.SymKind.TheVariants as symbol
use Rattle.pc_terms.specs.declared.symbols.SymStep.{SymStep}
use Rattle.symbol_table.specs.declared.companions.CaseClass.{CaseClass}
use Rattle.symbol_table.specs.declared.definitions.Found.{Found}
use Rattle.symbol_table.specs.declared.name_spaces.NameSpace.{NameSpace}
use Rattle.symbol_table.specs.declared.name_spaces.NameSpace.TheVariants as space
use Rattle.symbol_table.specs.Companions.{is_seen, has_term, class_by, case_step_by, case_class_of, case_class_at}
use Rattle.symbol_table.specs.Definitions.{Definition, is_case_class, names_term, is_term_of, is_empty}
use Rattle.symbol_table.specs.Found.{IsOwner, AreNext, ArePathsApart, owner_steps, is_owned, has_name, is_named, all_named, kind_of, kinds_named, seen_of, own_step}
use Rattle.symbol_table.specs.Owners.{is_same_path, may_follow}
use Rattle.symbol_table.specs.Sources.{definition_in, definitions_in}
use Rattle.symbol_table.specs.Symbols.{is_def, is_class, space_of, is_same_space}
use Rattle.symbol_table.proofs.Filtered.{none_pass, not_not}
use Rattle.symbol_table.proofs.Numbered.{IsAmong, among, own-push, owner-among, last-among, owned-below}
use Rattle.symbol_table.proofs.PathsApart.{steps_at}

-- ---- tests of lists

empty_if : {X : Type 0} (b a : Bool) (x : X) (kept : List X) → is_empty kept ≡ not a → is_empty (cond b (x ∷ kept) kept) ≡ not (b || a)
empty_if true a x kept e = refl
empty_if false a x kept e = e

pub empty-any : {X : Type 0} (p : X → Bool) (xs : List X) → is_empty (filter p xs) ≡ not (list_any p xs)
empty-any p [] = refl
empty-any p (x ∷ xs) = empty_if (p x) (list_any p xs) x (filter p xs) (empty-any p xs)

seen-some : (ds : List Found) → is_some (seen_of ds) ≡ not (is_empty ds)
seen-some [] = refl
seen-some (d ∷ ds) = refl

pub seen-any : (found : List Found) (owner : Option ℕ) (space : NameSpace) (name : List ℕ) → is_seen found owner space name ≡ list_any (is_named owner space name) found
seen-any found owner space name =
    seen-some (all_named found owner space name) ∙ ap not (empty-any (is_named owner space name) found) ∙ not_not (list_any (is_named owner space name) found)

pub any-agree : {X Y : Type 0} (p : X → Bool) (q : Y → Bool) (f : X → Y) (xs : List X) → All (λ x. p x ≡ q (f x)) xs → list_any p xs ≡ list_any q (map f xs)
any-agree p q f [] all = refl
any-agree p q f (x ∷ xs) all = λ i. All-head (λ y. p y ≡ q (f y)) x xs all i || any-agree p q f xs (All-tail (λ y. p y ≡ q (f y)) x xs all) i

or_shuffle : (a b c d : Bool) → ((a || b) || (c || d)) ≡ ((a || c) || (b || d))
or_shuffle true b c d = refl
or_shuffle false b true d = or_right b true refl
or_shuffle false b false d = refl

any-or : {X : Type 0} (p q : X → Bool) (xs : List X) → (list_any p xs || list_any q xs) ≡ list_any (λ x. p x || q x) xs
any-or p q [] = refl
any-or p q (x ∷ xs) = or_shuffle (p x) (list_any p xs) (q x) (list_any q xs) ∙ ap (λ b. (p x || q x) || b) (any-or p q xs)

any-never : {X : Type 0} (xs : List X) → list_any (λ (x : X). false) xs ≡ false
any-never [] = refl
any-never (x ∷ xs) = any-never xs

any-and : {X : Type 0} (t : Bool) (p : X → Bool) (xs : List X) → (t && list_any p xs) ≡ list_any (λ x. t && p x) xs
any-and true p xs = refl
any-and false p xs = sym (any-never xs)

pub all_flat : {X Y : Type 0} (P : Y → Type 0) (f : X → List Y) (xs : List X) → All (λ x. All P (f x)) xs → All P (flat_map f xs)
all_flat P f [] all = All-nil P
all_flat P f (x ∷ xs) all = All-append P (f x) (flat_map f xs) (All-head (λ y. All P (f y)) x xs all) (all_flat P f xs (All-tail (λ y. All P (f y)) x xs all))

pub at_some : {X : Type 0} (xs : List X) (n : ℕ) → n < length xs → (x : X) × (slice_get xs n ≡ Some x)
at_some [] n h = absurd (omega arith)
at_some (x ∷ xs) zero h = (x, refl)
at_some (x ∷ xs) (suc n) h = at_some xs n (omega arith)

-- ---- terms by number and by path

pub some_steps : List SymStep → Bool
some_steps [] = false
some_steps (step ∷ steps) = true

pub names_term-is : (steps : List SymStep) (s : NameSpace) → names_term steps s ≡ (is_same_space s space.Terms || (some_steps steps && is_same_space s space.Packages))
unfolding some_steps
names_term-is [] space.Terms = refl
names_term-is [] space.Types = refl
names_term-is [] space.Packages = refl
names_term-is (step ∷ steps) space.Terms = refl
names_term-is (step ∷ steps) space.Types = refl
names_term-is (step ∷ steps) space.Packages = refl

pub some-push : (steps : List SymStep) (own : SymStep) → some_steps (steps ++ own ∷ []) ≡ true
unfolding some_steps
some-push [] own = refl
some-push (step ∷ steps) own = refl

some-owner : (found : List Found) → AreNext found → (owner : Option ℕ) → IsOwner found owner → some_steps (owner_steps found owner) ≡ is_some owner
unfolding some_steps
some-owner found nexts None owned = refl
some-owner found nexts (Some n) owned =
    let one = at_some found n owned in
    let is : IsAmong found (get_or found n one.0) = among found nexts n one.0 owned in
    ap some_steps (steps_at found n one.0 owned ∙ is.steps) ∙ some-push (owner_steps found (get_or found n one.0).owner) is.own

term_parts : (o b t p u : Bool) → ((o && (b && t)) || (u && (o && (b && p)))) ≡ ((o && b) && (t || (u && p)))
term_parts true true t p u = refl
term_parts true false t p true = refl
term_parts true false t p false = refl
term_parts false b t p true = refl
term_parts false b t p false = refl

module _ (found : List Found) (nexts : AreNext found) (apart : ArePathsApart found) (owner : Option ℕ) (owned : IsOwner found owner) (name : List ℕ) where
  term_at : (d : Found) → IsAmong found d
      → (is_named owner space.Terms name d || (is_some owner && is_named owner space.Packages name d)) ≡ is_term_of (owner_steps found owner) name (definition_in d.decl)
  term_at d is =
      (λ i. (owned-below found d is apart owner owned i && has_name space.Terms name (last-among found d is i))
      || (is_some owner && (owned-below found d is apart owner owned i && has_name space.Packages name (last-among found d is i))))
      ∙ term_parts (is_same_path (definition_in d.decl).owner (owner_steps found owner)) (bytes_eq (definition_in d.decl).own.name name)
      (is_same_space (space_of (definition_in d.decl).own.kind) space.Terms) (is_same_space (space_of (definition_in d.decl).own.kind) space.Packages) (is_some owner)
      ∙ ap (λ u. (is_same_path (definition_in d.decl).owner (owner_steps found owner) && bytes_eq (definition_in d.decl).own.name name)
      && (is_same_space (space_of (definition_in d.decl).own.kind) space.Terms || (u && is_same_space (space_of (definition_in d.decl).own.kind) space.Packages)))
      (sym (some-owner found nexts owner owned))
      ∙ ap (λ t. (is_same_path (definition_in d.decl).owner (owner_steps found owner) && bytes_eq (definition_in d.decl).own.name name) && t)
      (sym (names_term-is (owner_steps found owner) (space_of (definition_in d.decl).own.kind)))

  pub term-by_path : has_term found owner name ≡ list_any (is_term_of (owner_steps found owner) name) (definitions_in found)
  term-by_path =
      (λ i. seen-any found owner space.Terms name i || (is_some owner && seen-any found owner space.Packages name i))
      ∙ ap (λ b. list_any (is_named owner space.Terms name) found || b) (any-and (is_some owner) (is_named owner space.Packages name) found)
      ∙ any-or (is_named owner space.Terms name) (λ d. is_some owner && is_named owner space.Packages name d) found
      ∙ any-agree (λ d. is_named owner space.Terms name d || (is_some owner && is_named owner space.Packages name d)) (is_term_of (owner_steps found owner) name)
      (λ d. definition_in d.decl) found
      (All-weaker (IsAmong found)
      (λ d. (is_named owner space.Terms name d || (is_some owner && is_named owner space.Packages name d)) ≡ is_term_of (owner_steps found owner) name (definition_in d.decl))
      term_at found (among found nexts))

-- ---- what is no method is the first of its name

follow_nothing : (kinds : List SymKind) (own : SymKind) → is_def own ≡ false → may_follow kinds own ≡ true → kinds ≡ []
follow_nothing [] own plain h = refl
follow_nothing (first ∷ kinds) own plain h = absurd (false≢true (sym plain ∙ (and_parts _ _ h).1))

none_mapped : {X Y : Type 0} (f : X → Y) (xs : List X) → map f xs ≡ [] → xs ≡ []
none_mapped f [] e = refl
none_mapped f (x ∷ xs) e = cc

pub alone : (found : List Found) → AreNext found → (at : ℕ) (d : Found) → at < length found → is_def (definition_in (get_or found at d).decl).own.kind ≡ false
    → All (λ x. is_named (get_or found at d).owner (space_of (definition_in (get_or found at d).decl).own.kind) (definition_in (get_or found at d).decl).own.name x ≡ false) (take at found)
alone found nexts at d h plain =
    let next = nexts.each at d h in
    let own : (definition_in (get_or found at d).decl).own ≡ own_step (take at found) next.owner next.kind next.name =
    ap (λ f. (definition_in f.decl).own) next.is ∙ own-push (owner_steps (take at found) next.owner) (own_step (take at found) next.owner next.kind next.name) in
    let none : All (λ x. is_named next.owner (space_of next.kind) next.name x ≡ false) (take at found) =
    none_pass (is_named next.owner (space_of next.kind) next.name) (take at found)
    (none_mapped kind_of _ (follow_nothing (kinds_named (take at found) next.owner next.kind next.name) next.kind (ap (λ s. is_def s.kind) (sym own) ∙ plain) next.admitted)) in
    subst (λ (z : Option ℕ × SymStep). All (λ x. is_named z.0 (space_of z.1.kind) z.1.name x ≡ false) (take at found))
    (λ i. (sym (ap (λ f. f.owner) next.is) i, sym own i)) none

-- ---- two classes of one owner have two names

class_kind : (own : SymKind) → is_class own ≡ true → own ≡ symbol.Class
class_kind symbol.Class h = refl
class_kind _ h = absurd (false≢true h)

abbrev pub is_same_class : Definition → Definition → Bool
is_same_class e c = is_same_path c.owner e.owner && bytes_eq c.own.name e.own.name

module _ (found : List Found) (nexts : AreNext found) (apart : ArePathsApart found) (at : ℕ) (d : Found) (h : at < length found) where
  abbrev here : Found
  here = get_or found at d

  abbrev this : Definition
  this = definition_in here.decl

  is_here : IsAmong found here
  is_here = among found nexts at d h

  differs : is_class this.own.kind ≡ true → (j : ℕ) (o : Found) → j < length (take at found) → is_class (definition_in (get_or (take at found) j o).decl).own.kind ≡ true
      → is_same_class this (definition_in (get_or (take at found) j o).decl) ≡ false
  differs class j o below other =
      let f : Found = get_or (take at found) j o in
      let c : Definition = definition_in f.decl in
      let lower : j < at = omega (arith, length-take-le at found (omega (arith, h)), below) in
      let same : f ≡ get_or found j o = get_or-take at found j o lower in
      let is : IsAmong found f = subst (IsAmong found) (sym same) (among found nexts j o (omega (arith, lower, h))) in
      let kind : this.own.kind ≡ symbol.Class = class_kind this.own.kind class in
      let none = alone found nexts at d h (ap is_def kind) j o below in
      false_from_ne_true _ (λ both.
      let parts = and_parts _ _ both in
      let owned : is_owned here.owner f ≡ true = owned-below found f is apart here.owner is_here.owned ∙ ap (λ s. is_same_path c.owner s) (sym (owner-among found here is_here)) ∙ parts.0 in
      let named : has_name (space_of this.own.kind) this.own.name (last_step f.decl.path.steps) ≡ true =
      ap (has_name (space_of this.own.kind) this.own.name) (last-among found f is)
      ∙ and_from _ _ parts.1 ((λ i. is_same_space (space_of (class_kind c.own.kind other i)) (space_of (kind i)))) in
      false≢true (sym none ∙ and_from _ _ owned named))

  -- no case class before this class has its name and owner
  pub classes_apart : is_class this.own.kind ≡ true → All (λ c. is_case_class c ≡ true → is_same_class this c ≡ false) (take at (definitions_in found))
  classes_apart class =
      subst (All (λ c. is_case_class c ≡ true → is_same_class this c ≡ false)) (sym (take-map (λ f. definition_in f.decl) at found))
      (All-map (λ c. is_case_class c ≡ true → is_same_class this c ≡ false) (λ f. definition_in f.decl) (take at found)
      (λ j o below other. differs class j o below (and_parts _ _ other).0))

-- ---- one class

pub class-of : (found : List Found) (d : Found) → IsAmong found d
    → case_class_of d ≡ (if is_case_class (definition_in d.decl) then Some (class_by d (definition_in d.decl).own) else None)
class-of found d is =
    ap (λ o. option_map (class_by d) (case_step_by d.decl.flags.case_ o)) (last-among found d is)
    ∙ map_if (is_case_class (definition_in d.decl)) (class_by d) (definition_in d.decl).own
  where
    map_if : {X Y : Type 0} (b : Bool) (f : X → Y) (x : X) → option_map f (if b then Some x else None) ≡ (if b then Some (f x) else None)
    map_if true f x = refl
    map_if false f x = refl

pub class_owned : (found : List Found) → AreNext found → (number : ℕ) (class : CaseClass) → case_class_at found number ≡ Some class → IsOwner found class.owner
class_owned found nexts number class e = by (slice_get found number) refl
  where
    of : (d : Found) → IsAmong found d → (b : Bool) → (if b then Some (class_by d (definition_in d.decl).own) else None) ≡ Some class → IsOwner found class.owner
    of d is true h = let same : class_by d (definition_in d.decl).own ≡ class = cc in subst (λ c. IsOwner found c.owner) same is.owned
    of d is false h = cc

    by : (o : Option Found) → slice_get found number ≡ o → IsOwner found class.owner
    by None h = absurd (false≢true (ap is_some (sym (ap (option_and_then case_class_of) h) ∙ e)))
    by (Some d) h =
        let inside = slice_get_within found number d h in
        let is : IsAmong found d = subst (IsAmong found) (get_or_from_slice_get found number d d h) (among found nexts number d inside) in
        of d is (is_case_class (definition_in d.decl)) (sym (class-of found d is) ∙ sym (ap (option_and_then case_class_of) h) ∙ e)
