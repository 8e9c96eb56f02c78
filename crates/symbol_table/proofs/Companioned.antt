-- One companion more.
use Rattle.std.proofs.Common.{◌≡◌, ℕ, ◌+◌, ◌<◌, Bool, true, false, not, ◌&&◌, ◌||◌, if◌then◌else◌, List, [], ◌∷◌, ◌++◌, map, length, length-append, take, get_or, Option, Some, None, is_some, refl, sym, ap, subst, ◌∙◌, append-nil, append_assoc, arith}
use Rattle.std.specs.List.{All, flat_map, list_any, slice_get}
use Rattle.std.specs.Option.{option_and_then}
use Rattle.std.proofs.lemmas.Bool.{false≢true, and_parts, and_left, or_parts, not-true, not-false}
use Rattle.std.proofs.lemmas.List.{get_or-map, take_more, take-append-le, get_or_append_left, length-map}
use Rattle.std.proofs.lemmas.List.Concat.{flat_map-append}
use Rattle.std.proofs.lemmas.List.Elements.{All-nil, All-cons, All-weaker}
use Rattle.std.proofs.lemmas.List.Folds.{list_any-append, list_any_none}
use Rattle.std.proofs.lemmas.Option.{slice_get_within, slice_get-get_or, get_or_from_slice_get}
use Rattle.pc_terms.specs.declared.symbols.SymKind.TheVariants as symbol
use Rattle.pc_terms.specs.declared.symbols.SymStep.{SymStep}
use Rattle.symbol_table.specs.declared.companions.CaseClass.{CaseClass}
use Rattle.symbol_table.specs.declared.definitions.Found.{Found}
use Rattle.symbol_table.specs.declared.name_spaces.NameSpace.TheVariants as space
use Rattle.symbol_table.specs.Companions.{has_term, class_by, standing_of_class, case_class_of, case_class_at, with_companion, companion_added, HasCompanions}
use Rattle.symbol_table.specs.Definitions.{Definition, decl_of, is_case_class, is_term_of, is_empty, namesakes, synthetic_companion, added_companion}
use Rattle.symbol_table.specs.Found.{AreNext, ArePathsApart, all_named, kind_of, seen_of, is_admitted, next_found, defined}
use Rattle.symbol_table.specs.Owners.{may_follow}
use Rattle.symbol_table.specs.Sources.{definition_in, definitions_in}
use Rattle.symbol_table.specs.Symbols.{is_class}
use Rattle.symbol_table.proofs.CaseClasses.{empty-any, all_flat, term-by_path, is_same_class, classes_apart, class-of}
use Rattle.symbol_table.proofs.Filtered.{or_nothing, not_not}
use Rattle.symbol_table.proofs.Numbered.{IsAmong, among, owner-among, definition-of, definitions_in-append}

-- ---- lists that grow

pub slice_get-grown : {X : Type 0} (xs more : List X) (n : ℕ) (x : X) → slice_get xs n ≡ Some x → slice_get (xs ++ more) n ≡ Some x
slice_get-grown xs more n x h =
    let inside = slice_get_within xs n x h in
    slice_get-get_or (xs ++ more) n x (omega (arith, inside, length-append xs more)) ∙ ap Some (get_or_append_left xs more x n inside ∙ get_or_from_slice_get xs n x x h)

module _ (old : List Found) (count : ℕ) (d : Found) (is : slice_get old count ≡ Some d) where
  abbrev pub all : List Definition
  all = definitions_in old

  abbrev pub this : Definition
  this = definition_in d.decl

  pub inside : count < length old
  inside = slice_get_within old count d is

  pub taken : take (count + 1) all ≡ take count all ++ this ∷ []
  taken =
      take_more all count this (omega (arith, inside, length-map old (λ f. definition_in f.decl)))
      ∙ ap (λ c. take count all ++ c ∷ []) (get_or-map (λ f. definition_in f.decl) old count d this inside
      ∙ ap (λ f. definition_in f.decl) (get_or_from_slice_get old count d d is))

  -- what the definitions add, one by one
  pub flat-more : {A : Type 0} (f : Definition → List A) → flat_map f (take (count + 1) all) ≡ flat_map f (take count all) ++ f this
  flat-more f = ap (flat_map f) taken ∙ flat_map-append f (take count all) (this ∷ []) ∙ ap (λ more. flat_map f (take count all) ++ more) (append-nil (f this))

-- ---- what companions are not

none_seen : (ds : List Found) → is_some (seen_of ds) ≡ false → ds ≡ []
none_seen [] e = refl
none_seen (d ∷ ds) e = absurd (false≢true (sym e))

pub admitted_first : (found : List Found) (owner : Option ℕ) (name : List ℕ) → is_some (seen_of (all_named found owner space.Terms name)) ≡ false
    → is_admitted found owner symbol.Object name ≡ true
admitted_first found owner name e = ap (λ ds. may_follow (map kind_of ds) symbol.Object) (none_seen (all_named found owner space.Terms name) e)

no_term : (c e : Definition) → is_same_class e c ≡ false → is_term_of e.owner e.own.name (synthetic_companion c) ≡ false
no_term c e h = and_left _ _ h

pub one_or_none : (P : Definition → Type 0) (b : Bool) (x : Definition) → (b ≡ true → P x) → All P (if b then x ∷ [] else [])
one_or_none P true x h = All-cons P x [] (h refl) (All-nil P)
one_or_none P false x h = All-nil P

-- ---- more definitions

module _ (old more now : List Found) (found : now ≡ old ++ more) (count : ℕ) (d : Found) (is : slice_get old count ≡ Some d) (nexts : AreNext now) (apart : ArePathsApart now) where
  pub still_here : slice_get now count ≡ Some d
  still_here = ap (λ f. slice_get f count) found ∙ slice_get-grown old more count d is

  pub among_now : IsAmong now d
  among_now =
      let within = slice_get_within now count d still_here in
      subst (IsAmong now) (get_or_from_slice_get now count d d still_here) (among now nexts count d within)

  pub grown_by : definitions_in now ≡ definitions_in old ++ definitions_in more
  grown_by = ap definitions_in found ∙ definitions_in-append old more

  prefix : take count (definitions_in now) ≡ take count (definitions_in old)
  prefix = ap (take count) grown_by ∙ take-append-le count (definitions_in old) (definitions_in more)
      (omega (arith, slice_get_within old count d is, length-map old (λ f. definition_in f.decl)))

  -- no case class before it has its name and owner
  pub apart_now : is_class (definition_in d.decl).own.kind ≡ true
      → All (λ c. is_case_class c ≡ true → is_same_class (definition_in d.decl) c ≡ false) (take count (definitions_in old))
  apart_now class =
      let within = slice_get_within now count d still_here in
      let read = get_or_from_slice_get now count d d still_here in
      subst (λ (f : Found). All (λ c. is_case_class c ≡ true → is_same_class (definition_in f.decl) c ≡ false) (take count (definitions_in old))) read
      (subst (λ ds. All (λ c. is_case_class c ≡ true → is_same_class (definition_in (get_or now count d).decl) c ≡ false) ds) prefix
      (classes_apart now nexts apart count d within (ap (λ (f : Found). is_class (definition_in f.decl).own.kind) read ∙ class)))

-- ---- the step

module _ (old now : List Found) (count : ℕ) (d : Found) (is : slice_get old count ≡ Some d) (nexts : AreNext now) (apart : ArePathsApart now) (so : HasCompanions old now count) where
  abbrev olds : List Definition
  olds = definitions_in old

  abbrev e : Definition
  e = definition_in d.decl

  here : slice_get now count ≡ Some d
  here = still_here old so.more now so.found count d is nexts apart

  is_d : IsAmong now d
  is_d = among_now old so.more now so.found count d is nexts apart

  grown : definitions_in now ≡ olds ++ definitions_in so.more
  grown = grown_by old so.more now so.found count d is nexts apart

  all_apart : is_class e.own.kind ≡ true → All (λ c. is_case_class c ≡ true → is_same_class e c ≡ false) (take count olds)
  all_apart = apart_now old so.more now so.found count d is nexts apart

  abbrev class : CaseClass
  class = class_by d e.own

  -- the companions so far have other names
  others : is_class e.own.kind ≡ true → list_any (is_term_of e.owner e.own.name) (definitions_in so.more) ≡ false
  others class =
      ap (list_any (is_term_of e.owner e.own.name)) so.added
      ∙ list_any_none (is_term_of e.owner e.own.name) (flat_map (added_companion olds) (take count olds))
      (all_flat (λ s. is_term_of e.owner e.own.name s ≡ false) (added_companion olds) (take count olds)
      (All-weaker (λ c. is_case_class c ≡ true → is_same_class e c ≡ false) (λ c. All (λ s. is_term_of e.owner e.own.name s ≡ false) (added_companion olds c))
      (λ c h. one_or_none (λ s. is_term_of e.owner e.own.name s ≡ false) (is_case_class c && is_empty (namesakes olds c)) (synthetic_companion c)
      (λ b. no_term c e (h (and_parts _ _ b).0)))
      (take count olds) (all_apart class)))

  term_is : is_class e.own.kind ≡ true → has_term now d.owner e.own.name ≡ not (is_empty (namesakes olds e))
  term_is class =
      term-by_path now nexts apart d.owner is_d.owned e.own.name
      ∙ ap (λ s. list_any (is_term_of s e.own.name) (definitions_in now)) (sym (owner-among now d is_d))
      ∙ ap (list_any (is_term_of e.owner e.own.name)) grown
      ∙ list_any-append (is_term_of e.owner e.own.name) olds (definitions_in so.more)
      ∙ ap (λ b. list_any (is_term_of e.owner e.own.name) olds || b) (others class)
      ∙ or_nothing (list_any (is_term_of e.owner e.own.name) olds) false refl
      ∙ sym (ap not (empty-any (is_term_of e.owner e.own.name) olds) ∙ not_not (list_any (is_term_of e.owner e.own.name) olds))

  nothing_added : (new : List Found) → new ≡ now → added_companion olds e ≡ [] → HasCompanions old new (count + 1)
  nothing_added new same none = record {
    more = so.more;
    found = same ∙ so.found;
    added = so.added ∙ sym (flat-more old count d is (added_companion olds) ∙ ap (λ more. flat_map (added_companion olds) (take count olds) ++ more) none
        ∙ append-nil (flat_map (added_companion olds) (take count olds)));
  }

  abbrev last : Found
  last = next_found now d.owner symbol.Object e.own.name (standing_of_class d)

  last_is : definition_in last.decl ≡ synthetic_companion e
  last_is =
      ap {A = List SymStep} (λ owner. definition_in (decl_of (record (synthetic_companion e) { owner = owner }))) (sym (owner-among now d is_d))
      ∙ definition-of (synthetic_companion e)

  one_added : (new : List Found) → new ≡ now ++ last ∷ [] → added_companion olds e ≡ synthetic_companion e ∷ [] → HasCompanions old new (count + 1)
  one_added new same one = record {
    more = so.more ++ last ∷ [];
    found = same ∙ ap (λ f. f ++ last ∷ []) so.found ∙ append_assoc old so.more (last ∷ []);
    added = definitions_in-append so.more (last ∷ []) ∙ (λ i. so.added i ++ last_is i ∷ [])
        ∙ sym (flat-more old count d is (added_companion olds) ∙ ap (λ more. flat_map (added_companion olds) (take count olds) ++ more) one);
  }

  by_term : is_case_class e ≡ true → (t : Bool) → has_term now d.owner e.own.name ≡ t → (new : List Found) → new ≡ with_companion now class → HasCompanions old new (count + 1)
  by_term case true h new same =
      nothing_added new (same ∙ ap (λ t. if t then now else defined now d.owner symbol.Object e.own.name (standing_of_class d)) h)
      (ap (λ b. if b && is_empty (namesakes olds e) then synthetic_companion e ∷ [] else []) case
      ∙ ap (λ b. if b then synthetic_companion e ∷ [] else []) (not-true (is_empty (namesakes olds e)) (sym (term_is (and_parts _ _ case).0) ∙ h)))
  by_term case false h new same =
      let unseen = (or_parts _ _ h).0 in
      one_added new
      (same ∙ ap (λ t. if t then now else defined now d.owner symbol.Object e.own.name (standing_of_class d)) h
      ∙ ap (λ t. if t then now ++ last ∷ [] else now) (admitted_first now d.owner e.own.name unseen))
      (ap (λ b. if b && is_empty (namesakes olds e) then synthetic_companion e ∷ [] else []) case
      ∙ ap (λ b. if b then synthetic_companion e ∷ [] else []) (not-false (is_empty (namesakes olds e)) (sym (term_is (and_parts _ _ case).0) ∙ h)))

  by_class : (b : Bool) → is_case_class e ≡ b → (new : List Found) → new ≡ companion_added now (if b then Some class else None) → HasCompanions old new (count + 1)
  by_class true h new same = by_term h (has_term now d.owner e.own.name) refl new same
  by_class false h new same = nothing_added new same (ap (λ b. if b && is_empty (namesakes olds e) then synthetic_companion e ∷ [] else []) h)

  pub companion_step : (new : List Found) → new ≡ companion_added now (case_class_at now count) → HasCompanions old new (count + 1)
  companion_step new same =
      by_class (is_case_class e) refl new
      (same ∙ ap (λ o. companion_added now (option_and_then case_class_of o)) here ∙ ap (companion_added now) (class-of now d is_d))

pub no_companions : (old : List Found) → HasCompanions old old 0
no_companions old = record { more = []; found = sym (append-nil old); added = refl }
