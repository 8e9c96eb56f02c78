-- One package that is opened: it is among the definitions so far, or it is added.
use Rattle.std.proofs.Common.{◌≡◌, ℕ, ◌<◌, Bool, true, false, true≢false, if◌then◌else◌, List, [], ◌∷◌, ◌++◌, map, length, take, drop, get_or, Option, Some, None, Result, Ok, Err, IfOk, ⊎_elim, refl, sym, ap, ◌∙◌, subst, append-nil, arith}
use Rattle.std.specs.List.{All, list_any}
use Rattle.std.proofs.lemmas.Bool.{and_parts, and_from, cases_Bool, eq-eqb, eqb-true}
use Rattle.std.proofs.lemmas.List.{length-take, take-append-drop, length_push}
use Rattle.std.proofs.lemmas.List.Elements.{All-head, All-filter, filter_passes}
use Rattle.std.proofs.lemmas.List.Folds.{list_any_at, list_any_none}
use Rattle.std.proofs.lemmas.Slice.Eq.{bytes_eq-Decides}
use Rattle.pc_terms.specs.Show.{last_step}
use Rattle.pc_terms.specs.declared.symbols.SymKind.{SymKind}
use Rattle.pc_terms.specs.declared.symbols.SymKind.TheVariants as symbol
use Rattle.pc_terms.specs.declared.symbols.SymPath.{SymPath}
use Rattle.pc_terms.specs.declared.symbols.SymStep.{SymStep}
use Rattle.positioned_trees.specs.declared.details.Name.{Name}
use Rattle.type_substitution.specs.Substitution.{path_eq}
use Rattle.type_substitution.proofs.Exact.{path-exact}
use Rattle.symbol_table.specs.declared.definitions.Found.{Found}
use Rattle.symbol_table.specs.declared.definitions.Standing.{Standing}
use Rattle.symbol_table.specs.declared.name_spaces.NameSpace.TheVariants as space
use Rattle.symbol_table.specs.declared.owned_names.Seen.{Seen}
use Rattle.symbol_table.specs.Definitions.{decl_of, is_prelude}
use Rattle.symbol_table.specs.Found.{IsOwner, AreNext, ArePathsApart, owner_steps, steps_of, owner_rank, path_below, has_name, is_named, all_named, kind_of, own_step, next_found, is_admitted, number_for, defined, seen_of}
use Rattle.symbol_table.specs.Opened.{Opens, paths_of, opening}
use Rattle.symbol_table.specs.Owners.{package_step, may_follow}
use Rattle.symbol_table.specs.Symbols.{space_of, plain_flags}
use Rattle.symbol_table.proofs.Filtered.{none_pass, list_any-map}
use Rattle.symbol_table.proofs.Following.{number-at}
use Rattle.symbol_table.proofs.Indexed.{owner_from_rank}
use Rattle.symbol_table.proofs.Kids.{owner_steps-more}
use Rattle.symbol_table.proofs.Known.{space_from}
use Rattle.symbol_table.proofs.Opening.{opened_by}
use Rattle.symbol_table.proofs.PathsApart.{steps_at, earlier_owner, fronts}
use Rattle.symbol_table.proofs.Places.{slice_get-last, last_step-push}

package_from_space : (kind : SymKind) → space_of kind ≡ space.Packages → kind ≡ symbol.Package
package_from_space symbol.Package h = refl
package_from_space symbol.Class h = cc
package_from_space symbol.Trait h = cc
package_from_space symbol.Alias h = cc
package_from_space symbol.TypeParam h = cc
package_from_space _ h = cc

module _ (found : List Found) (outer : Option ℕ) (file node : ℕ) (name : Name) (owned : IsOwner found outer) (nexts : AreNext found) (apart : ArePathsApart found) where
  abbrev own : SymStep
  own = package_step name

  abbrev path : SymPath
  path = path_below found outer own

  abbrev named : Found → Bool
  named d = is_named outer space.Packages name.text d

  -- the owner of an earlier definition has the same path among all
  same_above : (at : ℕ) (d : Found) (h : at < length found) → owner_steps (take at found) (nexts.each at d h).owner ≡ owner_steps found (nexts.each at d h).owner
  same_above at d h =
      let next = nexts.each at d h in
      sym (ap (λ f. owner_steps f next.owner) (sym (take-append-drop at found)) ∙ owner_steps-more (take at found) (drop at found) next.owner next.owned)

  -- a definition that is the package of this path
  record IsHere (d : Found) : Type 0 where
    here : d.decl.path ≡ path
    steps : owner_steps found (Some d.number) ≡ d.decl.path.steps
    inside : d.number < length found
    known : list_any (path_eq path) (paths_of found) ≡ true

  path_of_named : (at : ℕ) (d : Found) (h : at < length found) → named (get_or found at d) ≡ true → (get_or found at d).decl.path ≡ path
  path_of_named at d h is =
      let next = nexts.each at d h in
      let parts = and_parts _ _ is in
      let same_owner : next.owner ≡ outer = owner_from_rank next.owner outer (ap (λ f. owner_rank f.owner) (sym next.is) ∙ eqb-true _ _ parts.0) in
      let step : last_step (get_or found at d).decl.path.steps ≡ Some (own_step (take at found) next.owner next.kind next.name) =
      ap (λ f. last_step f.decl.path.steps) next.is ∙ last_step-push (owner_steps (take at found) next.owner) (own_step (take at found) next.owner next.kind next.name) in
      let text = and_parts _ _ (ap (has_name space.Packages name.text) (sym step) ∙ parts.1) in
      let same_name : next.name ≡ name.text = (bytes_eq-Decides next.name name.text).0 text.0 in
      let same_kind : next.kind ≡ symbol.Package = package_from_space next.kind (space_from _ _ text.1) in
      let whole : own_step (take at found) next.owner next.kind next.name ≡ own = λ i. own_step (take at found) next.owner (same_kind i) (same_name i) in
      let above : owner_steps (take at found) next.owner ≡ owner_steps found outer = same_above at d h ∙ ap (owner_steps found) same_owner in
      ap (λ f. f.decl.path) next.is ∙ (λ i. record { steps = above i ++ whole i ∷ [] })

  all_here : All (λ d. named d ≡ true → IsHere d) found
  all_here at d h is =
      let f : Found = get_or found at d in
      let there : f.decl.path ≡ path = path_of_named at d h is in
      let place : f.number ≡ at = number-at found nexts at d h ∙ omega (arith, length-take at found) in record {
        here = there;
        steps = ap (λ n. owner_steps found (Some n)) place ∙ steps_at found at d h;
        inside = omega arith;
        known = list_any-map (path_eq path) (λ e. e.decl.path) found
            ∙ list_any_at (λ e. path_eq path e.decl.path) found at d h ((path-exact path f.decl.path).1 (sym there));
      }

  seen_here : (seen : Seen) (ds : List Found) → seen_of ds ≡ Some seen → All (λ d. named d ≡ true → IsHere d) ds → All (λ d. named d ≡ true) ds
      → Opens file (owner_steps found outer) (opening node name ∷ []) found found (Some seen.number)
  seen_here seen [] e each pass = cc
  seen_here seen (first ∷ ds) e each pass =
      let same : first.number ≡ seen.number = cc in
      let one : IsHere first = All-head (λ d. named d ≡ true → IsHere d) first ds each (All-head (λ d. named d ≡ true) first ds pass) in record {
        more = [];
        found = sym (append-nil found);
        decls = ap (λ b. map decl_of (if b then [] else opened_by file (owner_steps found outer) (opening node name) ∷ [])) (sym one.known);
        owner = subst (λ n. n < length found) same one.inside;
        path = ap (λ n. owner_steps found (Some n)) (sym same) ∙ one.steps ∙ ap (λ p. p.steps) one.here;
      }

  -- where a package of the name is seen, it is the one that is opened
  pub Opens-seen : (seen : Seen) → seen_of (all_named found outer space.Packages name.text) ≡ Some seen
      → Opens file (owner_steps found outer) (opening node name ∷ []) found found (Some seen.number)
  Opens-seen seen is =
      seen_here seen (all_named found outer space.Packages name.text) is
      (All-filter named (λ d. named d ≡ true → IsHere d) found all_here) (filter_passes named found)

  named_of_path : (at : ℕ) (d : Found) (h : at < length found) → path ≡ (get_or found at d).decl.path → named (get_or found at d) ≡ true
  named_of_path at d h same =
      let next = nexts.each at d h in
      let one : SymStep = own_step (take at found) next.owner next.kind next.name in
      let steps : owner_steps found outer ++ own ∷ [] ≡ owner_steps (take at found) next.owner ++ one ∷ [] = ap (λ p. p.steps) (same ∙ ap (λ f. f.decl.path) next.is) in
      let owner : outer ≡ next.owner = apart.each outer next.owner owned (earlier_owner found at next.owner next.owned)
      (fronts (owner_steps found outer) (owner_steps (take at found) next.owner) own one steps ∙ same_above at d h) in
      and_from _ _
      (eq-eqb _ _ (ap (λ f. owner_rank f.owner) next.is ∙ ap owner_rank (sym owner)))
      (ap (λ p. has_name space.Packages name.text (last_step p.steps)) (sym same)
      ∙ ap (has_name space.Packages name.text) (last_step-push (owner_steps found outer) own)
      ∙ and_from _ _ ((bytes_eq-Decides name.text name.text).1 refl) refl)

  abbrev standing : Standing
  standing = record { file = file; node = node; label_span = name.span; flags = plain_flags (is_prelude file) }

  abbrev last : Found
  last = next_found found outer symbol.Package name.text standing

  none_named : (ds : List Found) → seen_of ds ≡ None → ds ≡ []
  none_named [] e = refl
  none_named (d ∷ ds) e = cc

  -- where none is seen, it is added
  pub Opens-new : seen_of (all_named found outer space.Packages name.text) ≡ None
      → Opens file (owner_steps found outer) (opening node name ∷ []) found (found ++ last ∷ []) (Some (length found))
  Opens-new is =
      let unnamed : All (λ d. named d ≡ false) found = none_pass named found (none_named _ is) in
      let unknown : list_any (path_eq path) (paths_of found) ≡ false =
      list_any-map (path_eq path) (λ e. e.decl.path) found
      ∙ list_any_none (λ e. path_eq path e.decl.path) found (λ at d h. ⊎_elim
      (λ (e : path_eq path (get_or found at d).decl.path ≡ true).
      absurd (true≢false (sym (named_of_path at d h ((path-exact path (get_or found at d).decl.path).0 e)) ∙ unnamed at d h)))
      (λ (e : path_eq path (get_or found at d).decl.path ≡ false). e)
      (cases_Bool (path_eq path (get_or found at d).decl.path))) in record {
        more = last ∷ [];
        found = refl;
        decls = ap (λ b. map decl_of (if b then [] else opened_by file (owner_steps found outer) (opening node name) ∷ [])) (sym unknown);
        owner = omega (arith, length_push found last);
        path = ap steps_of (slice_get-last found last);
      }

  -- the same of what a definition of the package comes to
  pub Opens-defined : {E : Type 0} (r : Result (Option ℕ) E) (new : List Found) → seen_of (all_named found outer space.Packages name.text) ≡ None
      → IfOk r (λ number. number ≡ number_for found outer symbol.Package name.text)
      → IfOk r (λ _. new ≡ defined found outer symbol.Package name.text standing)
      → IfOk r (Opens file (owner_steps found outer) (opening node name ∷ []) found new)
  Opens-defined (Err e) new is number grown = tt
  Opens-defined (Ok one) new is number grown =
      let first : is_admitted found outer symbol.Package name.text ≡ true = ap (λ ds. may_follow (map kind_of ds) symbol.Package) (none_named _ is) in
      let added : new ≡ found ++ last ∷ [] = grown ∙ ap (λ b. if b then found ++ last ∷ [] else found) first in
      let last_one : one ≡ Some (length found) = number ∙ ap (λ b. if b then Some (length found) else None) first in
      subst (λ n. Opens file (owner_steps found outer) (opening node name ∷ []) found new n) (sym last_one)
      (subst (λ f. Opens file (owner_steps found outer) (opening node name ∷ []) found f (Some (length found))) (sym added) (Opens-new is))
