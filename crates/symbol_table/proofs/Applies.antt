-- One method `apply` more.
use Rattle.std.proofs.Common.{◌≡◌, ℕ, suc, ◌+◌, ◌<◌, ◌==◌, Bool, true, false, cond, ◌&&◌, ⊎_elim, if◌then◌else◌, List, [], ◌∷◌, ◌++◌, map, length, take, drop, get_or, Option, Some, None, refl, sym, ap, subst, ◌∙◌, append-nil, append_assoc, arith}
use Rattle.std.specs.List.{All, count_by, filter, flat_map, list_any, slice_get}
use Rattle.std.specs.Option.{option_and_then}
use Rattle.std.specs.Str.{bytes_eq}
use Rattle.std.proofs.lemmas.Bool.{false≢true, and_parts, and_left, and_right, and_from, cases_Bool, eqb-true, eq-eqb, eqb-false, false_from_ne_true, not_from_true, not_from_false}
use Rattle.std.proofs.lemmas.List.{get_or-map, get_or-set_same, get_or-set_other, get_or_default, length-map, length-set, length-take-le, same_from_push, map-id}
use Rattle.std.proofs.lemmas.List.Concat.{flat_map-append}
use Rattle.std.proofs.lemmas.List.Elements.{All-head, All-weaker, All-filter, filter-append, filter_passes}
use Rattle.std.proofs.lemmas.List.Folds.{list_any-append, list_any_none, list_any_at, Any-from_list_any}
use Rattle.std.proofs.lemmas.Option.{slice_get-get_or}
use Rattle.std.proofs.lemmas.Slice.Eq.{bytes_eq-Decides}
use Rattle.pc_terms.specs.declared.problems.Problem.{Problem}
use Rattle.pc_terms.specs.declared.symbols.SymKind.{SymKind}
use Rattle.pc_terms.specs.declared.symbols.SymKind.TheVariants as symbol
use Rattle.pc_terms.specs.declared.symbols.SymStep.{SymStep}
use Rattle.type_substitution.proofs.Exact.{path-exact}
use Rattle.symbol_table.specs.declared.companions.CaseClass.{CaseClass}
use Rattle.symbol_table.specs.declared.definitions.Found.{Found}
use Rattle.symbol_table.specs.declared.name_spaces.NameSpace.TheVariants as space
use Rattle.symbol_table.specs.Companions.{class_by, standing_of_class, case_class_of, case_class_at, is_in_file, number_seen, companion_number, with_apply, with_apply_of, apply_problem, apply_problem_of, apply_added, told_more, told_once, told_by, PackagesStandWell, StandsInPackages, HasApplies}
use Rattle.symbol_table.specs.Definitions.{Definition, decl_of, is_case_class, is_term_of, synthetic_companion, is_companion, has_companion, companion_steps, apply_name, other_applies, synthetic_apply, adds_apply, admits_apply, added_apply}
use Rattle.symbol_table.specs.Found.{AreNext, ArePathsApart, owner_steps, has_name, is_named, all_named, kind_of, kinds_named, seen_of, is_admitted, own_step, next_found}
use Rattle.symbol_table.specs.Owners.{path_of, is_same_path, may_follow, ordinal_after}
use Rattle.symbol_table.specs.Problems.{double, apply_problems}
use Rattle.symbol_table.specs.Sources.{definition_in, definitions_in, names_package, is_named_below, kinds_below}
use Rattle.symbol_table.specs.Symbols.{is_def, is_class, is_object, is_package, space_of, is_same_space}
use Rattle.symbol_table.proofs.CaseClasses.{all_flat, alone, is_same_class, class-of, names_term-is, some_steps}
use Rattle.symbol_table.proofs.Companioned.{still_here, among_now, grown_by, apart_now, one_or_none, flat-more, taken}
use Rattle.symbol_table.proofs.Filtered.{filter_none, or_nothing}
use Rattle.symbol_table.proofs.Following.{number-at}
use Rattle.symbol_table.proofs.Numbered.{IsAmong, among, own-push, owner-among, last-among, kind-among, path-among, owned-below, definition-of, definitions_in-append}
use Rattle.symbol_table.proofs.PathsApart.{split_at, steps_at}
use Rattle.symbol_table.proofs.SourceEntered.{kinds_below-more, through, kinds-by_path}
use Rattle.symbol_table.proofs.Sourcewise.{only_packages}

-- ---- objects

object_kind : (own : SymKind) → is_object own ≡ true → own ≡ symbol.Object
object_kind symbol.Object h = refl
object_kind _ h = absurd (false≢true h)

object_ordinal : (kinds : List SymKind) (own : SymKind) → own ≡ symbol.Object → ordinal_after kinds own ≡ 0
object_ordinal kinds own e = ap (ordinal_after kinds) e

bytes_same : (a b : List ℕ) → bytes_eq a b ≡ true → a ≡ b
bytes_same a b h = (bytes_eq-Decides a b).0 h

paths_same : (a b : List SymStep) → is_same_path a b ≡ true → a ≡ b
paths_same a b h = ap (λ p. p.steps) ((path-exact (path_of a) (path_of b)).0 h)

-- ---- the companion of a class, by number

module _ (now : List Found) (nexts : AreNext now) (apart : ArePathsApart now) (d : Found) (is_d : IsAmong now d) where
  abbrev e : Definition
  e = definition_in d.decl

  abbrev class : CaseClass
  class = class_by d e.own

  abbrev named : Found → Bool
  named x = is_named d.owner space.Terms e.own.name x

  owner_is : owner_steps now d.owner ≡ e.owner
  owner_is = sym (owner-among now d is_d)

  -- an object of its name that is in its file is one
  abbrev Shows : Found → Type 0
  Shows x = named x ≡ true → is_object (kind_of x) ≡ true → is_in_file e.file (slice_get now x.number) ≡ true
      → list_any (is_companion e) (definitions_in now) ≡ true

  is_there : All Shows now
  is_there at o h name object file =
      let x : Found = get_or now at o in
      let is : IsAmong now x = among now nexts at o h in
      let place : x.number ≡ at = number-at now nexts at o h ∙ length-take-le at now (omega (arith, h)) in
      let parts = and_parts _ _ name in
      let read : slice_get now x.number ≡ Some x = ap (slice_get now) place ∙ slice_get-get_or now at o h in
      let text = and_parts _ _ (sym (ap (has_name space.Terms e.own.name) (last-among now x is)) ∙ parts.1) in
      list_any_at (is_companion e) (definitions_in now) at e (omega (arith, h, length-map now (λ f. definition_in f.decl)))
      (ap (is_companion e) (get_or-map (λ f. definition_in f.decl) now at o e h)
      ∙ and_from _ _ (and_from _ _ (and_from _ _
      (ap is_object (sym (kind-among now x is)) ∙ object)
      (ap (is_same_path (definition_in x.decl).owner) (sym owner_is) ∙ sym (owned-below now x is apart d.owner is_d.owned) ∙ parts.0))
      text.0)
      (sym (ap (is_in_file e.file) read) ∙ file))

  unseen : (ds : List Found) → All Shows ds → All (λ x. named x ≡ true) ds → list_any (is_companion e) (definitions_in now) ≡ false
      → number_seen now e.file (seen_of ds) ≡ None
  unseen [] each pass none = refl
  unseen (x ∷ ds) each pass none =
      ap (λ b. if b then Some x.number else None) (false_from_ne_true (is_object (kind_of x) && is_in_file e.file (slice_get now x.number))
      (λ both. let parts = and_parts _ _ both in
      false≢true (sym none ∙ All-head Shows x ds each (All-head (λ x. named x ≡ true) x ds pass) parts.0 parts.1)))

  -- where there is none
  pub no_companion : list_any (is_companion e) (definitions_in now) ≡ false → companion_number now class ≡ None
  no_companion none = unseen (all_named now d.owner space.Terms e.own.name) (All-filter named Shows now is_there) (filter_passes named now) none

  -- and where there is one
  pub record IsFound : Type 0 where
    pub number : ℕ
    pub is : companion_number now class ≡ Some number
    pub inside : number < length now
    pub steps : owner_steps now (Some number) ≡ companion_steps e

  first_named : (xs ys : List Found) (x : Found) → All (λ y. named y ≡ false) xs → named x ≡ true → filter named (xs ++ x ∷ ys) ≡ x ∷ filter named ys
  first_named xs ys x none h = filter-append named xs (x ∷ ys) ∙ (λ i. filter_none named xs none i ++ cond (h i) (x ∷ filter named ys) (filter named ys))

  pub the_companion : list_any (is_companion e) (definitions_in now) ≡ true → IsFound
  the_companion h =
      let any = Any-from_list_any (is_companion e) (definitions_in now) h in
      let at : ℕ = any.0 in
      let within : at < length now = omega (arith, any.2, length-map now (λ f. definition_in f.decl)) in
      let x : Found = get_or now at d in
      let c : Definition = definition_in x.decl in
      let is : IsAmong now x = among now nexts at d within in
      let here : is_companion e c ≡ true =
      ap (is_companion e) (sym (sym any.3 ∙ get_or-map (λ f. definition_in f.decl) now at d any.1 within)) ∙ any.4 in
      let file = and_parts _ _ here in
      let name = and_parts _ _ file.0 in
      let path = and_parts _ _ name.0 in
      let object : c.own.kind ≡ symbol.Object = object_kind c.own.kind path.0 in
      let same_name : c.own.name ≡ e.own.name = bytes_same c.own.name e.own.name name.1 in
      let same_path : c.owner ≡ e.owner = paths_same c.owner e.owner path.1 in
      let same_owner : x.owner ≡ d.owner = apart.each x.owner d.owner is.owned is_d.owned (sym (owner-among now x is) ∙ same_path ∙ sym owner_is) in
      let place : x.number ≡ at = number-at now nexts at d within ∙ length-take-le at now (omega (arith, within)) in
      let read : slice_get now x.number ≡ Some x = ap (slice_get now) place ∙ slice_get-get_or now at d within in
      let before : All (λ y. named y ≡ false) (take at now) =
      subst (λ (z : Option ℕ × (SymKind × List ℕ)). All (λ y. is_named z.0 (space_of z.1.0) z.1.1 y ≡ false) (take at now))
      (λ i. (same_owner i, (object i, same_name i))) (alone now nexts at d within (ap is_def object)) in
      let this : named x ≡ true =
      and_from _ _ (owned-below now x is apart d.owner is_d.owned ∙ ap (is_same_path c.owner) owner_is ∙ path.1)
      (ap (has_name space.Terms e.own.name) (last-among now x is) ∙ and_from _ _ name.1 (ap (λ k. is_same_space (space_of k) space.Terms) object)) in
      let seen : all_named now d.owner space.Terms e.own.name ≡ x ∷ filter named (drop (suc at) now) =
      ap (filter named) (split_at now at d within) ∙ first_named (take at now) (drop (suc at) now) x before this in
      let next = nexts.each at d within in
      let own : c.own ≡ own_step (take at now) next.owner next.kind next.name =
      ap (λ f. (definition_in f.decl).own) next.is ∙ own-push (owner_steps (take at now) next.owner) (own_step (take at now) next.owner next.kind next.name) in
      let ordinal : c.own.ordinal ≡ 0 =
      ap (λ s. s.ordinal) own ∙ object_ordinal (kinds_named (take at now) next.owner next.kind next.name) next.kind (sym (ap (λ s. s.kind) own) ∙ object) in record {
        number = x.number;
        is = ap (λ ds. number_seen now e.file (seen_of ds)) seen
            ∙ ap (λ b. if b then Some x.number else None)
            (and_from (is_object (kind_of x)) (is_in_file e.file (slice_get now x.number)) (ap is_object (kind-among now x is ∙ object)) (ap (is_in_file e.file) read ∙ file.1));
        inside = omega (arith, place, within);
        steps = ap (λ n. owner_steps now (Some n)) place ∙ steps_at now at d within ∙ sym (ap (λ p. p.steps) (path-among now x is))
            ∙ (λ i. same_path i ++ record { kind = object i; name = same_name i; ordinal = ordinal i } ∷ []);
      }

-- ---- the methods of a companion

and_assoc : (a b c : Bool) → (a && (b && c)) ≡ ((a && b) && c)
and_assoc true b c = refl
and_assoc false b c = refl

no_package : (own : SymKind) → is_package own ≡ false → is_same_space (space_of own) space.Packages ≡ false
no_package symbol.Package h = absurd (false≢true (sym h))
no_package symbol.Class h = refl
no_package symbol.Trait h = refl
no_package symbol.Alias h = refl
no_package symbol.TypeParam h = refl
no_package _ h = refl

module _ (e : Definition) where
  abbrev object_steps : List SymStep
  object_steps = companion_steps e

  abbrev is_apply : Definition → Bool
  is_apply = is_term_of object_steps apply_name

  -- no package stands in an object
  pub outside : (d : Definition) → StandsInPackages d → is_same_path d.owner object_steps ≡ false
  outside d stands = false_from_ne_true _ (λ h.
      false≢true (only_packages stands.names e.owner (synthetic_companion e).own (sym stands.owner ∙ paths_same d.owner object_steps h)))

  applies_alike : (d : Definition) → (names_package d ≡ true → StandsInPackages d) → is_named_below object_steps symbol.Def apply_name d ≡ is_apply d
  applies_alike d stands = ⊎_elim
      (λ (h : names_package d ≡ true). let apart = outside d (stands h) in
      and_left _ _ apart ∙ sym (and_left _ _ (and_left _ _ apart)))
      (λ (h : names_package d ≡ false).
      and_assoc (is_same_path d.owner object_steps) (bytes_eq d.own.name apply_name) (is_same_space (space_of d.own.kind) space.Terms)
      ∙ ap (λ b. (is_same_path d.owner object_steps && bytes_eq d.own.name apply_name) && b)
      (sym (names_term-is object_steps (space_of d.own.kind)
      ∙ or_nothing _ _ (and_right (some_steps object_steps) _ (no_package d.own.kind h)))))
      (cases_Bool (names_package d))

  pub applies-below : (ds : List Definition) → PackagesStandWell ds → kinds_below ds object_steps symbol.Def apply_name ≡ other_applies ds e
  applies-below ds well =
      through (λ x. x) (is_named_below object_steps symbol.Def apply_name) is_apply (λ d. d.own.kind) (λ d. d.own.kind) ds
      (All-weaker (λ d. names_package d ≡ true → StandsInPackages d) (λ d. (is_named_below object_steps symbol.Def apply_name d ≡ is_apply d) × (d.own.kind ≡ d.own.kind))
      (λ d stands. (applies_alike d stands, refl)) ds well)
      ∙ ap (λ xs. map (λ d. d.own.kind) (filter is_apply xs)) (map-id ds)

  -- the methods of other companions are none of its
  other_steps : (c : Definition) → is_same_class e c ≡ false → is_same_path (companion_steps c) object_steps ≡ false
  other_steps c h = false_from_ne_true _ (λ same.
      let parts = same_from_push c.owner e.owner (synthetic_companion c).own (synthetic_companion e).own (paths_same (companion_steps c) object_steps same) in
      false≢true (sym h ∙ and_from _ _ ((path-exact _ _).1 (ap path_of parts.0)) ((bytes_eq-Decides _ _).1 (ap (λ s. s.name) parts.1))))

-- ---- problems

flat_if : {X A : Type 0} (f : X → List A) (b : Bool) (x : X) → flat_map f (cond b (x ∷ []) []) ≡ (if b then f x else [])
flat_if f true x = append-nil (f x)
flat_if f false x = refl

if_none : {A : Type 0} (b : Bool) (xs : List A) → xs ≡ [] → (if b then xs else []) ≡ []
if_none true xs e = e
if_none false xs e = refl

told_at : (telling : List (List Problem)) (at file : ℕ) (p : Problem) (d : List Problem) → file < length telling
    → get_or (told_more telling at p) file d ≡ get_or telling file d ++ (if at == file then p ∷ [] else [])
told_at telling at file p d within = ⊎_elim
    (λ (h : (at == file) ≡ true). let same : at ≡ file = eqb-true at file h in
    subst (λ n. get_or (told_more telling n p) file d ≡ get_or telling file d ++ (if n == file then p ∷ [] else [])) (sym same)
    (get_or-set_same telling file (get_or telling file [] ++ p ∷ []) d within
    ∙ ap (λ xs. xs ++ p ∷ []) (get_or_default telling file [] d within)
    ∙ ap (λ b. get_or telling file d ++ (if b then p ∷ [] else [])) (sym (eq-eqb file file refl))))
    (λ (h : (at == file) ≡ false).
    get_or-set_other telling at file (get_or telling at [] ++ p ∷ []) d (λ e. eqb-false at file h (sym e))
    ∙ sym (append-nil (get_or telling file d)) ∙ ap (λ b. get_or telling file d ++ (if b then p ∷ [] else [])) (sym h))
    (cases_Bool (at == file))

-- ---- the step

module _ (old now : List Found) (told telling : List (List Problem)) (count : ℕ) (d : Found) (is : slice_get old count ≡ Some d) (nexts : AreNext now) (apart : ArePathsApart now)
    (well : PackagesStandWell (definitions_in old)) (so : HasApplies old now told telling count) where
  abbrev olds : List Definition
  olds = definitions_in old

  abbrev this : Definition
  this = definition_in d.decl

  abbrev case : CaseClass
  case = class_by d this.own

  here : slice_get now count ≡ Some d
  here = still_here old so.more now so.found count d is nexts apart

  is_this : IsAmong now d
  is_this = among_now old so.more now so.found count d is nexts apart

  grown : definitions_in now ≡ olds ++ definitions_in so.more
  grown = grown_by old so.more now so.found count d is nexts apart

  -- what comes to one class
  made : (more : List Found) (new : List Found) (next : List (List Problem)) → new ≡ now ++ more → definitions_in more ≡ added_apply olds this → length next ≡ length telling
      → ((file : ℕ) (p : List Problem) → file < length told → get_or next file p ≡ get_or telling file p ++ (if this.file == file then apply_problems olds this else []))
      → HasApplies old new told next (count + 1)
  made more new next same one long tells = record {
    more = so.more ++ more;
    found = same ∙ ap (λ f. f ++ more) so.found ∙ append_assoc old so.more more;
    added = definitions_in-append so.more more ∙ (λ i. so.added i ++ one i) ∙ sym (flat-more old count d is (added_apply olds));
    as_many = long ∙ so.as_many;
    problems = λ file p within.
        let of_file : Definition → Bool = λ c. c.file == file in
        tells file p within
        ∙ (λ i. so.problems file p within i ++ sym (flat_if (apply_problems olds) (of_file this) this) i)
        ∙ append_assoc (get_or told file p) (flat_map (apply_problems olds) (filter of_file (take count olds))) (flat_map (apply_problems olds) (filter of_file (this ∷ [])))
        ∙ ap (λ more. get_or told file p ++ more)
        (sym (ap (λ ds. flat_map (apply_problems olds) (filter of_file ds)) (taken old count d is)
        ∙ ap (flat_map (apply_problems olds)) (filter-append of_file (take count olds) (this ∷ []))
        ∙ flat_map-append (apply_problems olds) (filter of_file (take count olds)) (filter of_file (this ∷ []))));
  }

  quiet : (more : List Found) (new : List Found) (next : List (List Problem)) → new ≡ now ++ more → definitions_in more ≡ added_apply olds this → next ≡ telling
      → apply_problems olds this ≡ [] → HasApplies old new told next (count + 1)
  quiet more new next same one silent none =
      made more new next same one (ap length silent)
      (λ file p within. ap (λ ps. get_or ps file p) silent ∙ sym (append-nil (get_or telling file p))
      ∙ ap (λ ps. get_or telling file p ++ ps) (sym (if_none (this.file == file) (apply_problems olds this) none)))

  fits : is_class this.own.kind ≡ true → All (λ c. is_case_class c ≡ true → is_same_class this c ≡ false) (take count olds)
  fits = apart_now old so.more now so.found count d is nexts apart

  -- the methods so far are no objects
  no_objects : list_any (is_companion this) (definitions_in so.more) ≡ false
  no_objects =
      ap (list_any (is_companion this)) so.added
      ∙ list_any_none (is_companion this) (flat_map (added_apply olds) (take count olds))
      (all_flat (λ s. is_companion this s ≡ false) (added_apply olds) (take count olds)
      (λ k c lt. one_or_none (λ s. is_companion this s ≡ false) (adds_apply olds (get_or (take count olds) k c) && admits_apply olds (get_or (take count olds) k c))
      (synthetic_apply olds (get_or (take count olds) k c)) (λ _. refl)))

  has_is : list_any (is_companion this) (definitions_in now) ≡ has_companion olds this
  has_is =
      ap (list_any (is_companion this)) grown ∙ list_any-append (is_companion this) olds (definitions_in so.more)
      ∙ or_nothing (has_companion olds this) _ no_objects

  -- and are owned by other companions
  others : is_class this.own.kind ≡ true → All (λ x. is_named_below (companion_steps this) symbol.Def apply_name x ≡ false) (definitions_in so.more)
  others class =
      subst (All (λ x. is_named_below (companion_steps this) symbol.Def apply_name x ≡ false)) (sym so.added)
      (all_flat (λ x. is_named_below (companion_steps this) symbol.Def apply_name x ≡ false) (added_apply olds) (take count olds)
      (All-weaker (λ c. is_case_class c ≡ true → is_same_class this c ≡ false)
      (λ c. All (λ x. is_named_below (companion_steps this) symbol.Def apply_name x ≡ false) (added_apply olds c))
      (λ c h. one_or_none (λ x. is_named_below (companion_steps this) symbol.Def apply_name x ≡ false) (adds_apply olds c && admits_apply olds c) (synthetic_apply olds c)
      (λ both. and_left _ _ (other_steps this c (h (and_parts _ _ (and_parts _ _ both).0).0))))
      (take count olds) (fits class)))

  module _ (case_ : is_case_class this ≡ true) (has : has_companion olds this ≡ true) (object : IsFound now nexts apart d is_this) where
    kinds_is : kinds_named now (Some object.number) symbol.Def apply_name ≡ other_applies olds this
    kinds_is =
        kinds-by_path now nexts apart (Some object.number) object.inside symbol.Def apply_name
        ∙ (λ i. kinds_below (grown i) (object.steps i) symbol.Def apply_name)
        ∙ kinds_below-more olds (definitions_in so.more) (companion_steps this) symbol.Def apply_name (others (and_parts _ _ case_).0)
        ∙ applies-below this olds well

    admits_is : is_admitted now (Some object.number) symbol.Def apply_name ≡ admits_apply olds this
    admits_is = ap (λ kinds. may_follow kinds symbol.Def) kinds_is

    abbrev last : Found
    last = next_found now (Some object.number) symbol.Def apply_name (standing_of_class d)

    last_is : definition_in last.decl ≡ synthetic_apply olds this
    last_is =
        (λ i. definition_in (decl_of (record (synthetic_apply olds this) {
          owner = object.steps i;
          own = record { kind = symbol.Def; name = apply_name; ordinal = count_by is_def (kinds_is i) };
        })))
        ∙ definition-of (synthetic_apply olds this)

    adds_is : adds_apply olds this ≡ true
    adds_is = and_from _ _ case_ has

    by_admits : (b : Bool) → admits_apply olds this ≡ b → (new : List Found) (next : List (List Problem)) → new ≡ with_apply_of now case (Some object.number)
        → next ≡ told_once telling this.file (apply_problem_of now case (Some object.number)) → HasApplies old new told next (count + 1)
    by_admits true h new next same tells =
        quiet (last ∷ []) new next (same ∙ ap (λ t. if t then now ++ last ∷ [] else now) (admits_is ∙ h))
        ((λ i. last_is i ∷ []) ∙ sym (ap (λ b. if b then synthetic_apply olds this ∷ [] else []) (and_from _ _ adds_is h)))
        (tells ∙ ap (λ t. told_once telling this.file (if t then None else Some (double this.label_span apply_name))) (admits_is ∙ h))
        (ap (λ b. if b then double this.label_span apply_name ∷ [] else []) (and_right (adds_apply olds this) _ (not_from_true _ h)))
    by_admits false h new next same tells =
        let problem : Problem = double this.label_span apply_name in
        let one : apply_problems olds this ≡ problem ∷ [] =
        ap (λ b. if b then problem ∷ [] else []) (and_from (adds_apply olds this) _ adds_is (not_from_false _ h)) in
        let more : next ≡ told_more telling this.file problem =
        tells ∙ ap (λ t. told_once telling this.file (if t then None else Some problem)) (admits_is ∙ h) in
        made [] new next (same ∙ ap (λ t. if t then now ++ last ∷ [] else now) (admits_is ∙ h) ∙ sym (append-nil now))
        (sym (ap (λ b. if b then synthetic_apply olds this ∷ [] else []) (and_right (adds_apply olds this) _ h)))
        (ap length more ∙ length-set telling this.file (get_or telling this.file [] ++ problem ∷ []))
        (λ file p within. ap (λ ps. get_or ps file p) more ∙ told_at telling this.file file problem p (omega (arith, within, so.as_many))
        ∙ ap (λ ps. get_or telling file p ++ (if this.file == file then ps else [])) (sym one))

  by_has : is_case_class this ≡ true → (b : Bool) → has_companion olds this ≡ b → (new : List Found) (next : List (List Problem)) → new ≡ with_apply now case
      → next ≡ told_once telling this.file (apply_problem now case) → HasApplies old new told next (count + 1)
  by_has case_ true h new next same tells =
      let object = the_companion now nexts apart d is_this (has_is ∙ h) in
      by_admits case_ h object (admits_apply olds this) refl new next (same ∙ ap (with_apply_of now case) object.is)
      (tells ∙ ap (λ o. told_once telling this.file (apply_problem_of now case o)) object.is)
  by_has case_ false h new next same tells =
      let none = no_companion now nexts apart d is_this (has_is ∙ h) in
      let nothing : adds_apply olds this ≡ false = and_right _ _ h in
      quiet [] new next (same ∙ ap (with_apply_of now case) none ∙ sym (append-nil now))
      (sym (ap (λ b. if b then synthetic_apply olds this ∷ [] else []) (and_left _ _ nothing)))
      (tells ∙ ap (λ o. told_once telling this.file (apply_problem_of now case o)) none)
      (ap (λ b. if b then double this.label_span apply_name ∷ [] else []) (and_left _ _ nothing))

  by_case : (b : Bool) → is_case_class this ≡ b → (new : List Found) (next : List (List Problem)) → new ≡ apply_added now (if b then Some case else None)
      → next ≡ told_by now telling (if b then Some case else None) → HasApplies old new told next (count + 1)
  by_case true h new next same tells = by_has h (has_companion olds this) refl new next same tells
  by_case false h new next same tells =
      let nothing : adds_apply olds this ≡ false = and_left _ _ h in
      quiet [] new next (same ∙ sym (append-nil now))
      (sym (ap (λ b. if b then synthetic_apply olds this ∷ [] else []) (and_left _ _ nothing)))
      tells
      (ap (λ b. if b then double this.label_span apply_name ∷ [] else []) (and_left _ _ nothing))

  pub apply_step : (new : List Found) (next : List (List Problem)) → new ≡ apply_added now (case_class_at now count) → next ≡ told_by now telling (case_class_at now count)
      → HasApplies old new told next (count + 1)
  apply_step new next same tells =
      let seen : case_class_at now count ≡ (if is_case_class this then Some case else None) =
      ap (λ o. option_and_then case_class_of o) here ∙ class-of now d is_this in
      by_case (is_case_class this) refl new next (same ∙ ap (apply_added now) seen) (tells ∙ ap (told_by now telling) seen)

pub no_applies : (old : List Found) (told : List (List Problem)) → HasApplies old old told told 0
no_applies old told = record {
  more = [];
  found = sym (append-nil old);
  added = refl;
  as_many = refl;
  problems = λ file d within. sym (append-nil (get_or told file d));
}
