-- All definitions that are found are those that the sources define.
use Rattle.std.proofs.Common.{◌≡◌, ℕ, ◌+◌, ◌<◌, ◌==◌, Bool, true, false, not, cond, ◌&&◌, if◌then◌else◌, List, [], ◌∷◌, ◌++◌, map, length, take, get_or, refl, sym, ap, subst, ◌∙◌, arith}
use Rattle.std.specs.List.{All, count_by, filter, flat_map}
use Rattle.std.specs.List.Sorted.{IsPermutation}
use Rattle.std.proofs.lemmas.Bool.{false≢true, and_left, not-false, cond-true, cond-false}
use Rattle.std.proofs.lemmas.List.{take_all, take_at, length-map, map_push}
use Rattle.std.proofs.lemmas.List.Concat.{flat_map-append}
use Rattle.std.proofs.lemmas.List.Elements.{All-nil, All-cons, All-head, All-tail, All-append, All-weaker, filter-append, filter_passes}
use Rattle.std.proofs.lemmas.List.Sorted.{IsPermutation-append_left, IsPermutation-filter_both, list_any-IsPermutation}
use Rattle.pc_terms.specs.declared.problems.Problem.{Problem}
use Rattle.pc_terms.specs.declared.symbols.SymKind.TheVariants as symbol
use Rattle.pc_terms.specs.declared.symbols.SymStep.{SymStep}
use Rattle.positioned_trees.specs.declared.details.Name.{Name}
use Rattle.positioned_trees.specs.declared.trees.Tree.{Tree}
use Rattle.symbol_table.specs.declared.definitions.Found.{Found}
use Rattle.symbol_table.specs.Companions.{PackagesStandWell, StandsInPackages, HasCompanions, HasApplies}
use Rattle.symbol_table.specs.Definitions.{Definition, Opening, path_to, is_case_class, is_term_of, is_empty, namesakes, synthetic_companion, is_companion, companion_steps, apply_name, other_applies, adds_apply, admits_apply, synthetic_apply, added_companion, added_apply, opened_in, opened_behind, packages, written, packages_and_written, with_companions, definitions}
use Rattle.symbol_table.specs.Items.{items_of, items_by}
use Rattle.symbol_table.specs.Owners.{package_step, may_follow}
use Rattle.symbol_table.specs.Problems.{apply_problems, double}
use Rattle.symbol_table.specs.Sources.{definition_in, definitions_in, names_package, is_no_package}
use Rattle.symbol_table.specs.Symbols.{is_class, is_def}
use Rattle.symbol_table.proofs.Applies.{outside}
use Rattle.symbol_table.proofs.CaseClasses.{empty-any, all_flat}
use Rattle.symbol_table.proofs.Companioned.{one_or_none}
use Rattle.symbol_table.proofs.Filtered.{filter_none, flat_map_none}
use Rattle.symbol_table.proofs.Numbered.{definitions_in-append}
use Rattle.symbol_table.proofs.SourceEntered.{new_kept, package-is}
use Rattle.symbol_table.proofs.Sourcewise.{flat_map_agree}

-- ---- filters

-- what gives nothing may be left out
left_out : {X A : Type 0} (f : X → List A) (q r : X → Bool) (x : X) (xs ys : List X) (b c : Bool) → r x ≡ c → (b ≡ false → f x ≡ []) → flat_map f xs ≡ flat_map f (filter r ys)
    → flat_map f (cond c (x ∷ xs) xs) ≡ flat_map f (filter r (cond b (x ∷ ys) ys))
left_out f q r x xs ys true true e none rest = ap (λ zs. f x ++ zs) rest ∙ sym (ap (flat_map f) (cond-true (r x) (x ∷ filter r ys) (filter r ys) e))
left_out f q r x xs ys true false e none rest = rest ∙ sym (ap (flat_map f) (cond-false (r x) (x ∷ filter r ys) (filter r ys) e))
left_out f q r x xs ys false true e none rest = ap (λ zs. zs ++ flat_map f xs) (none refl) ∙ rest
left_out f q r x xs ys false false e none rest = rest

pub flat-filter : {X A : Type 0} (f : X → List A) (q r : X → Bool) (xs : List X) → ((x : X) → q x ≡ false → f x ≡ [])
    → flat_map f (filter r xs) ≡ flat_map f (filter r (filter q xs))
flat-filter f q r [] none = refl
flat-filter f q r (x ∷ xs) none = left_out f q r x (filter r xs) (filter q xs) (q x) (r x) refl (none x) (flat-filter f q r xs none)

filter_true : {X : Type 0} (xs : List X) → filter (λ (x : X). true) xs ≡ xs
filter_true [] = refl
filter_true (x ∷ xs) = ap (λ ys. x ∷ ys) (filter_true xs)

pub flat-only : {X A : Type 0} (f : X → List A) (q : X → Bool) (xs : List X) → ((x : X) → q x ≡ false → f x ≡ []) → flat_map f xs ≡ flat_map f (filter q xs)
flat-only f q xs none =
    ap (flat_map f) (sym (filter_true xs)) ∙ flat-filter f q (λ _. true) xs none ∙ ap (flat_map f) (filter_true (filter q xs))

only_if : {X : Type 0} (p : X → Bool) (x : X) (xs ys : List X) (b c : Bool) → p x ≡ c → (c ≡ true → b ≡ true) → xs ≡ filter p ys → cond c (x ∷ xs) xs ≡ filter p (cond b (x ∷ ys) ys)
only_if p x xs ys true true e h rest = ap (λ zs. x ∷ zs) rest ∙ sym (cond-true (p x) (x ∷ filter p ys) (filter p ys) e)
only_if p x xs ys true false e h rest = rest ∙ sym (cond-false (p x) (x ∷ filter p ys) (filter p ys) e)
only_if p x xs ys false true e h rest = absurd (false≢true (h refl))
only_if p x xs ys false false e h rest = rest

filter-only : {X : Type 0} (p q : X → Bool) (xs : List X) → All (λ x. p x ≡ true → q x ≡ true) xs → filter p xs ≡ filter p (filter q xs)
filter-only p q [] all = refl
filter-only p q (x ∷ xs) all =
    only_if p x (filter p xs) (filter q xs) (q x) (p x) refl (All-head (λ y. p y ≡ true → q y ≡ true) x xs all)
    (filter-only p q xs (All-tail (λ y. p y ≡ true → q y ≡ true) x xs all))

passing : {X : Type 0} (P : X → Type 0) (x : X) (xs kept : List X) (b : Bool) → All P (cond b (x ∷ kept) kept) → (b ≡ true → P x) × All P kept
passing P x xs kept true all = (λ _. All-head P x kept all, All-tail P x kept all)
passing P x xs kept false all = (λ h. absurd (false≢true h), all)

all_passing : {X : Type 0} (P : X → Type 0) (q : X → Bool) (xs : List X) → All P (filter q xs) → All (λ x. q x ≡ true → P x) xs
all_passing P q [] all = All-nil (λ x. q x ≡ true → P x)
all_passing P q (x ∷ xs) all =
    let parts = passing P x xs (filter q xs) (q x) all in
    All-cons (λ y. q y ≡ true → P y) x xs parts.0 (all_passing P q xs parts.1)

-- ---- packages stand in packages

opened_well : (file : ℕ) (owner : List SymStep) (names : List Name) (os : List Opening) → owner ≡ map package_step names → All StandsInPackages (opened_in file owner os)
opened_well file owner names [] e = All-nil StandsInPackages
opened_well file owner names (o ∷ os) e =
    All-cons StandsInPackages _ _ (record { names = names; owner = e })
    (opened_well file (owner ++ package_step o.name ∷ []) (names ++ o.name ∷ []) os
    (ap (λ s. s ++ package_step o.name ∷ []) e ∙ sym (map_push package_step names o.name)))

behind_well : (file : ℕ) (roots : List Tree) → All StandsInPackages (opened_behind file roots)
behind_well file [] = All-nil StandsInPackages
behind_well file (root ∷ roots) = All-append StandsInPackages _ _ (opened_well file [] [] _ refl) (behind_well (file + 1) roots)

packages_well : (roots : List Tree) → All StandsInPackages (packages roots)
packages_well roots = new_kept StandsInPackages [] (opened_behind 0 roots) (behind_well 0 roots)

-- ---- packages add nothing

package_no_class : (d : Definition) → is_no_package d ≡ false → is_case_class d ≡ false
package_no_class d h = and_left _ _ (ap is_class (package-is d.own.kind (not-false (names_package d) h)))

package_no_items : (d : Definition) → is_no_package d ≡ false → items_of d ≡ []
package_no_items d h = ap (λ kind. items_by kind (path_to d)) (package-is d.own.kind (not-false (names_package d) h))

no_companion_of : (all : List Definition) (d : Definition) → is_no_package d ≡ false → added_companion all d ≡ []
no_companion_of all d h = ap (λ b. if b && is_empty (namesakes all d) then synthetic_companion d ∷ [] else []) (package_no_class d h)

no_adds : (all : List Definition) (d : Definition) → is_no_package d ≡ false → adds_apply all d ≡ false
no_adds all d h = and_left _ _ (package_no_class d h)

no_apply_of : (all : List Definition) (d : Definition) → is_no_package d ≡ false → added_apply all d ≡ []
no_apply_of all d h = ap (λ b. if b then synthetic_apply all d ∷ [] else []) (and_left _ _ (no_adds all d h))

no_problem_of : (all : List Definition) (d : Definition) → is_no_package d ≡ false → apply_problems all d ≡ []
no_problem_of all d h = ap (λ b. if b then double d.label_span apply_name ∷ [] else []) (and_left _ _ (no_adds all d h))

-- ---- the whole

module _ (roots : List Tree) (old middle now : List Found) (told telling : List (List Problem))
    (opened : filter names_package (definitions_in old) ≡ packages roots) (wrote : filter is_no_package (definitions_in old) ≡ written roots)
    (companions : HasCompanions old middle (length old)) (applies : PackagesStandWell (definitions_in middle) → HasApplies middle now told telling (length old)) where
  abbrev first_found : List Definition
  first_found = definitions_in old

  abbrev middle_found : List Definition
  middle_found = definitions_in middle

  abbrev without_objects : List Definition
  without_objects = packages_and_written roots

  abbrev with_objects : List Definition
  with_objects = with_companions roots

  abbrev objects : List Definition
  objects = flat_map (added_companion without_objects) (written roots)

  mixed : IsPermutation first_found without_objects
  mixed = subst (IsPermutation first_found) (λ i. opened i ++ wrote i) (IsPermutation-filter_both names_package is_no_package (λ _. refl) first_found)

  same_companion : (d : Definition) → added_companion first_found d ≡ added_companion without_objects d
  same_companion d = ap (λ b. if is_case_class d && b then synthetic_companion d ∷ [] else [])
      (empty-any (is_term_of d.owner d.own.name) first_found ∙ ap not (list_any-IsPermutation (is_term_of d.owner d.own.name) first_found without_objects mixed)
      ∙ sym (empty-any (is_term_of d.owner d.own.name) without_objects))

  added_companions : definitions_in companions.more ≡ objects
  added_companions =
      companions.added
      ∙ ap (flat_map (added_companion first_found)) (take_all (length old) first_found (omega (arith, length-map old (λ f. definition_in f.decl))))
      ∙ flat_map_agree (added_companion first_found) (added_companion without_objects) first_found (λ k d lt. same_companion (get_or first_found k d))
      ∙ flat-only (added_companion without_objects) is_no_package first_found (no_companion_of without_objects)
      ∙ ap (flat_map (added_companion without_objects)) wrote

  pub grown_once : middle_found ≡ first_found ++ objects
  grown_once = ap definitions_in companions.found ∙ definitions_in-append old companions.more ∙ ap (λ ds. first_found ++ ds) added_companions

  mixed_once : IsPermutation middle_found with_objects
  mixed_once = subst (λ ds. IsPermutation ds with_objects) (sym grown_once) (IsPermutation-append_left objects first_found without_objects mixed)

  old_well : PackagesStandWell first_found
  old_well = all_passing StandsInPackages names_package first_found (subst (All StandsInPackages) (sym opened) (packages_well roots))

  well : PackagesStandWell middle_found
  well = subst PackagesStandWell (sym grown_once)
      (All-append (λ d. names_package d ≡ true → StandsInPackages d) first_found objects old_well
      (all_flat (λ d. names_package d ≡ true → StandsInPackages d) (added_companion without_objects) (written roots)
      (λ k d lt. one_or_none (λ d. names_package d ≡ true → StandsInPackages d)
      (is_case_class (get_or (written roots) k d) && is_empty (namesakes without_objects (get_or (written roots) k d))) (synthetic_companion (get_or (written roots) k d))
      (λ _ h. absurd (false≢true h)))))

  pub so : HasApplies middle now told telling (length old)
  so = applies well

  -- the other methods are listed alike
  same_methods : (d : Definition) → filter (is_term_of (companion_steps d) apply_name) middle_found ≡ filter (is_term_of (companion_steps d) apply_name) with_objects
  same_methods d =
      let p : Definition → Bool = is_term_of (companion_steps d) apply_name in
      let only : filter p first_found ≡ filter p (written roots) =
      filter-only p is_no_package first_found (All-weaker (λ x. names_package x ≡ true → StandsInPackages x) (λ x. p x ≡ true → is_no_package x ≡ true)
      (λ x stands h. no_package_passes d x stands h) first_found old_well)
      ∙ ap (filter p) wrote in
      let none : filter p (packages roots) ≡ [] =
      filter_none p (packages roots) (All-weaker StandsInPackages (λ x. p x ≡ false) (λ x stands. and_left _ _ (and_left _ _ (outside d x stands))) (packages roots) (packages_well roots)) in
      ap (filter p) grown_once ∙ filter-append p first_found objects
      ∙ ap (λ ds. ds ++ filter p objects) (only ∙ ap (λ ds. ds ++ filter p (written roots)) (sym none) ∙ sym (filter-append p (packages roots) (written roots)))
      ∙ sym (filter-append p without_objects objects)
    where
      no_package_passes : (d x : Definition) → (names_package x ≡ true → StandsInPackages x) → is_term_of (companion_steps d) apply_name x ≡ true → is_no_package x ≡ true
      no_package_passes d x stands h = by (names_package x) refl
        where
          by : (b : Bool) → names_package x ≡ b → not b ≡ true
          by true e = absurd (false≢true (sym (and_left _ _ (and_left _ _ (outside d x (stands e)))) ∙ h))
          by false e = refl

  same_others : (d : Definition) → other_applies middle_found d ≡ other_applies with_objects d
  same_others d = ap (map (λ x. x.own.kind)) (same_methods d)

  same_adds : (d : Definition) → adds_apply middle_found d ≡ adds_apply with_objects d
  same_adds d = ap (λ b. is_case_class d && b) (list_any-IsPermutation (is_companion d) middle_found with_objects mixed_once)

  same_admits : (d : Definition) → admits_apply middle_found d ≡ admits_apply with_objects d
  same_admits d = ap (λ kinds. may_follow kinds symbol.Def) (same_others d)

  same_apply : (d : Definition) → added_apply middle_found d ≡ added_apply with_objects d
  same_apply d =
      (λ i. if same_adds d i && same_admits d i then record (synthetic_apply with_objects d) {
        own = record { kind = symbol.Def; name = apply_name; ordinal = count_by is_def (same_others d i) };
      } ∷ [] else [])

  same_problem : (d : Definition) → apply_problems middle_found d ≡ apply_problems with_objects d
  same_problem d = λ i. if same_adds d i && not (same_admits d i) then double d.label_span apply_name ∷ [] else []

  classes : take (length old) middle_found ≡ first_found
  classes = ap (take (length old)) grown_once ∙ take_at first_found objects (length old) (length-map old (λ f. definition_in f.decl))

  abbrev methods : List Definition
  methods = flat_map (added_apply with_objects) (written roots)

  added_applies : definitions_in so.more ≡ methods
  added_applies =
      so.added ∙ ap (flat_map (added_apply middle_found)) classes
      ∙ flat_map_agree (added_apply middle_found) (added_apply with_objects) first_found (λ k d lt. same_apply (get_or first_found k d))
      ∙ flat-only (added_apply with_objects) is_no_package first_found (no_apply_of with_objects)
      ∙ ap (flat_map (added_apply with_objects)) wrote

  pub grown_twice : definitions_in now ≡ middle_found ++ methods
  grown_twice = ap definitions_in so.found ∙ definitions_in-append middle so.more ∙ ap (λ ds. middle_found ++ ds) added_applies

  pub all_defined : IsPermutation (definitions_in now) (definitions roots)
  all_defined = subst (λ ds. IsPermutation ds (definitions roots)) (sym grown_twice) (IsPermutation-append_left methods middle_found with_objects mixed_once)

  flat_items : flat_map items_of first_found ≡ flat_map items_of without_objects
  flat_items =
      flat-only items_of is_no_package first_found package_no_items ∙ ap (flat_map items_of) wrote
      ∙ sym (flat_map-append items_of (packages roots) (written roots)
      ∙ ap (λ more. more ++ flat_map items_of (written roots))
      (ap (flat_map items_of) (sym opened)
      ∙ flat_map_none items_of (filter names_package first_found) (All-weaker (λ d. names_package d ≡ true) (λ d. items_of d ≡ [])
      (λ d h. package_no_items d (ap not h)) (filter names_package first_found) (filter_passes names_package first_found))))

  pub all_items : flat_map items_of (definitions_in now) ≡ flat_map items_of (definitions roots)
  all_items =
      ap (flat_map items_of) (grown_twice ∙ ap (λ ds. ds ++ methods) grown_once)
      ∙ flat_map-append items_of (first_found ++ objects) methods ∙ ap (λ more. more ++ flat_map items_of methods) (flat_map-append items_of first_found objects
      ∙ ap (λ more. more ++ flat_map items_of objects) flat_items ∙ sym (flat_map-append items_of without_objects objects))
      ∙ sym (flat_map-append items_of with_objects methods)

  pub all_told : (file : ℕ) (d : List Problem) → file < length told
      → get_or telling file d ≡ get_or told file d ++ flat_map (apply_problems with_objects) (filter (λ class. class.file == file) (written roots))
  all_told file d within =
      let of_file : Definition → Bool = λ class. class.file == file in
      so.problems file d within
      ∙ ap (λ more. get_or told file d ++ more)
      (ap (λ ds. flat_map (apply_problems middle_found) (filter of_file ds)) classes
      ∙ flat_map_agree (apply_problems middle_found) (apply_problems with_objects) (filter of_file first_found) (λ k d lt. same_problem (get_or (filter of_file first_found) k d))
      ∙ flat-filter (apply_problems with_objects) is_no_package of_file first_found (no_problem_of with_objects)
      ∙ ap (λ ds. flat_map (apply_problems with_objects) (filter of_file ds)) wrote)
