-- One source more is entered.
use Rattle.std.proofs.Common.{◌≡◌, ℕ, ◌+◌, Bool, true, false, cond, ◌&&◌, ◌||◌, ⊎_elim, if◌then◌else◌, List, [], ◌∷◌, ◌++◌, map, take, length-append, Option, Some, refl, sym, ap, subst, ◌∙◌, append-nil, arith}
use Rattle.std.specs.List.{All, filter, flat_map, list_any, slice_get}
use Rattle.std.proofs.lemmas.Bool.{false≢true, and_left, and_right, cases_Bool, not_from_true, not_from_false}
use Rattle.std.proofs.lemmas.List.{same_from_push}
use Rattle.std.proofs.lemmas.List.Concat.{flat_map-append}
use Rattle.std.proofs.lemmas.List.Elements.{All-nil, All-cons, All-head, All-tail, All-weaker, filter-append}
use Rattle.std.proofs.lemmas.List.Folds.{list_any-append}
use Rattle.pc_terms.specs.declared.symbols.SymKind.{SymKind}
use Rattle.pc_terms.specs.declared.symbols.SymKind.TheVariants as symbol
use Rattle.pc_terms.specs.declared.symbols.SymPath.{SymPath}
use Rattle.pc_terms.specs.declared.symbols.SymStep.{SymStep}
use Rattle.pc_terms.specs.declared.tree_kinds.TreeKind.TheVariants as kind
use Rattle.positioned_trees.specs.declared.trees.Tree.{Tree}
use Rattle.positioned_trees.specs.declared.trees.Tree.TheViews.{out-Tree}
use Rattle.type_substitution.specs.Substitution.{path_eq}
use Rattle.type_substitution.proofs.Exact.{path-exact}
use Rattle.symbol_table.specs.declared.definitions.Found.{Found}
use Rattle.symbol_table.specs.declared.walking.Entering.{Entering}
use Rattle.symbol_table.specs.Definitions.{Definition, Opening, path_to, opened_in, opened_behind, openings_of, is_known, new_among}
use Rattle.symbol_table.specs.Entering.{IsAt, Knows, Enters, EntersKids, admitted, kinds_of, new_definitions}
use Rattle.symbol_table.specs.Found.{IsOwner, AreNext, ArePathsApart, IsKept, owner_steps, has_name, is_named, kind_of, kinds_named}
use Rattle.symbol_table.specs.Items.{Source, roots_of, qualifiers_at, is_live_site}
use Rattle.symbol_table.specs.Opened.{Opens, paths_of}
use Rattle.symbol_table.specs.Owners.{is_same_path, package_step, package_of, of_package_before}
use Rattle.symbol_table.specs.Problems.{site_problems}
use Rattle.symbol_table.specs.Sites.{Kid, kid_after, sites_of}
use Rattle.symbol_table.specs.Sources.{definition_in, definitions_in, names_package, is_no_package, sites_before, packages_before, qualifiers_before, told_in, is_named_below, kinds_below, KnowsBelow, HasEntered}
use Rattle.symbol_table.specs.Symbols.{is_package, is_same_space, space_of}
use Rattle.symbol_table.proofs.Entered.{new-append}
use Rattle.symbol_table.proofs.Filtered.{filter_none, filter_all, list_any-map}
use Rattle.symbol_table.proofs.KidTurns.{owner_grown}
use Rattle.symbol_table.proofs.Kids.{owner_steps-more}
use Rattle.symbol_table.proofs.Numbered.{IsAmong, among, found-as, definitions_in-append, last-among, kind-among, path-among, owned-below}
use Rattle.symbol_table.proofs.Opening.{new_among-append, openings-package}
use Rattle.symbol_table.proofs.Sourcewise.{taken_more, sites_before-more, opened-more, sites-in_source, root-here, qualifiers-named, new-outside, new-written}

-- ---- packages

pub all_packages : (file : ℕ) (owner : List SymStep) (os : List Opening) → All (λ d. names_package d ≡ true) (opened_in file owner os)
all_packages file owner [] = All-nil (λ d. names_package d ≡ true)
all_packages file owner (o ∷ os) = All-cons (λ d. names_package d ≡ true) _ _ refl (all_packages file (owner ++ package_step o.name ∷ []) os)

module _ (P : Definition → Type 0) where
  one_kept : (d : Definition) (b : Bool) (xs ys : List Definition) → P d → All P xs → All P ys → All P (cond b xs (d ∷ ys))
  one_kept d true xs ys p q r = q
  one_kept d false xs ys p q r = All-cons P d ys p r

  pub new_kept : (known : List SymPath) (ds : List Definition) → All P ds → All P (new_among known ds)
  new_kept known [] all = All-nil P
  new_kept known (d ∷ ds) all =
      one_kept d (is_known known d) (new_among known ds) (new_among (known ++ path_to d ∷ []) ds) (All-head P d ds all)
      (new_kept known ds (All-tail P d ds all)) (new_kept (known ++ path_to d ∷ []) ds (All-tail P d ds all))

-- which of them are known depends on packages alone
abbrev KnowAlike : List SymPath → List SymPath → Type 0
KnowAlike a b = (d : Definition) → names_package d ≡ true → is_known a d ≡ is_known b d

alike-push : (a b : List SymPath) (p : SymPath) → KnowAlike a b → KnowAlike (a ++ p ∷ []) (b ++ p ∷ [])
alike-push a b p alike d h =
    list_any-append (path_eq (path_to d)) a (p ∷ []) ∙ ap (λ t. t || list_any (path_eq (path_to d)) (p ∷ [])) (alike d h)
    ∙ sym (list_any-append (path_eq (path_to d)) b (p ∷ []))

new-alike : (a b : List SymPath) (ds : List Definition) → All (λ d. names_package d ≡ true) ds → KnowAlike a b → new_among a ds ≡ new_among b ds
new-alike a b [] all alike = refl
new-alike a b (d ∷ ds) all alike =
    let rest = All-tail (λ e. names_package e ≡ true) d ds all in
    λ i. cond (alike d (All-head (λ e. names_package e ≡ true) d ds all) i) (new-alike a b ds rest alike i)
    (d ∷ new-alike (a ++ path_to d ∷ []) (b ++ path_to d ∷ []) ds rest (alike-push a b (path_to d) alike) i)

any_step : (x rest : Bool) (b : Bool) (more : Bool) → (x ≡ true → b ≡ true) → rest ≡ more → (x || rest) ≡ (if b then x || more else more)
any_step true rest true more h e = refl
any_step true rest false more h e = absurd (false≢true (h refl))
any_step false rest true more h e = e
any_step false rest false more h e = e

any_if : {X : Type 0} (p : X → Bool) (b : Bool) (x : X) (xs : List X) → list_any p (cond b (x ∷ xs) xs) ≡ (if b then p x || list_any p xs else list_any p xs)
any_if p true x xs = refl
any_if p false x xs = refl

-- where what passes is kept, the kept ones tell the same
pub list_any-filter : {X : Type 0} (p q : X → Bool) (xs : List X) → ((x : X) → p x ≡ true → q x ≡ true) → list_any p xs ≡ list_any p (filter q xs)
list_any-filter p q [] h = refl
list_any-filter p q (x ∷ xs) h =
    any_step (p x) (list_any p xs) (q x) (list_any p (filter q xs)) (h x) (list_any-filter p q xs h) ∙ sym (any_if p (q x) x (filter q xs))

same_own : (d x : Definition) → path_eq (path_to d) (path_to x) ≡ true → d.own ≡ x.own
same_own d x h = (same_from_push d.owner x.owner d.own x.own (ap (λ p. p.steps) ((path-exact (path_to d) (path_to x)).0 h))).1

packages_alike : (ds : List Definition) → KnowAlike (map path_to ds) (map path_to (filter names_package ds))
packages_alike ds d h =
    list_any-map (path_eq (path_to d)) path_to ds
    ∙ list_any-filter (λ x. path_eq (path_to d) (path_to x)) names_package ds (λ x e. sym (ap (λ s. is_package s.kind) (same_own d x e)) ∙ h)
    ∙ sym (list_any-map (path_eq (path_to d)) path_to (filter names_package ds))

pub paths_to : (found some : List Found) → All (IsAmong found) some → paths_of some ≡ map path_to (definitions_in some)
paths_to found [] all = refl
paths_to found (d ∷ some) all = λ i. sym (path-among found d (All-head (IsAmong found) d some all)) i ∷ paths_to found some (All-tail (IsAmong found) d some all) i

-- ---- names

pub package-is : (kind : SymKind) → is_package kind ≡ true → kind ≡ symbol.Package
package-is symbol.Package h = refl
package-is _ h = absurd (false≢true h)

no_package_space : (kind : SymKind) → is_package kind ≡ false → is_same_space (space_of symbol.Package) (space_of kind) ≡ false
no_package_space symbol.Package h = absurd (false≢true (sym h))
no_package_space symbol.Class h = refl
no_package_space symbol.Trait h = refl
no_package_space symbol.Alias h = refl
no_package_space symbol.TypeParam h = refl
no_package_space _ h = refl

-- definitions of which none is named so
pub kinds_below-more : (ds more : List Definition) (owner : List SymStep) (kind : SymKind) (name : List ℕ) → All (λ d. is_named_below owner kind name d ≡ false) more
    → kinds_below (ds ++ more) owner kind name ≡ kinds_below ds owner kind name
kinds_below-more ds more owner kind name none =
    ap (map (λ d. d.own.kind)) (filter-append (is_named_below owner kind name) ds more
    ∙ ap (λ xs. filter (is_named_below owner kind name) ds ++ xs) (filter_none (is_named_below owner kind name) more none)
    ∙ append-nil (filter (is_named_below owner kind name) ds))

-- packages tell nothing of other names
Known-packages : (ds more : List Definition) (owner : List SymStep) (around : List Kid) (trees : List Tree) → All (λ d. names_package d ≡ true) more
    → KnowsBelow ds owner around trees → KnowsBelow (ds ++ more) owner around trees
Known-packages ds more owner around trees packages knows = record {
  each = λ kind name outside.
      kinds_below-more ds more owner kind name
      (All-weaker (λ d. names_package d ≡ true) (λ d. is_named_below owner kind name d ≡ false)
      (λ d h. and_right _ _ (and_right _ _ (ap (λ k. is_same_space (space_of k) (space_of kind)) (package-is d.own.kind h) ∙ no_package_space kind outside))) more packages)
      ∙ knows.each kind name outside;
}

-- nor do definitions of other owners
Known-outside : (ds more : List Definition) (owner : List SymStep) (around : List Kid) (trees : List Tree) → All (λ d. is_same_path d.owner owner ≡ false) more
    → KnowsBelow ds owner around trees → KnowsBelow (ds ++ more) owner around trees
Known-outside ds more owner around trees others knows = record {
  each = λ kind name outside.
      kinds_below-more ds more owner kind name
      (All-weaker (λ d. is_same_path d.owner owner ≡ false) (λ d. is_named_below owner kind name d ≡ false) (λ d h. and_left _ _ h) more others)
      ∙ knows.each kind name outside;
}

-- one element seen through two tests that agree
pass_alike : {X Y Z : Type 0} (f : X → Y) (g : X → Z) (h : Y → Z) (x : X) (b : Bool) (xs : List X) (ys : List Y) → g x ≡ h (f x) → map g xs ≡ map h ys
    → map g (cond b (x ∷ xs) xs) ≡ map h (cond b (f x ∷ ys) ys)
pass_alike f g h x true xs ys e rest = λ i. e i ∷ rest i
pass_alike f g h x false xs ys e rest = rest

pub through : {X Y Z : Type 0} (f : X → Y) (p : X → Bool) (q : Y → Bool) (g : X → Z) (h : Y → Z) (xs : List X)
    → All (λ x. (p x ≡ q (f x)) × (g x ≡ h (f x))) xs → map g (filter p xs) ≡ map h (filter q (map f xs))
through f p q g h [] all = refl
through f p q g h (x ∷ xs) all =
    let one = All-head (λ z. (p z ≡ q (f z)) × (g z ≡ h (f z))) x xs all in
    ap (λ b. map g (cond b (x ∷ filter p xs) (filter p xs))) one.0
    ∙ pass_alike f g h x (q (f x)) (filter p xs) (filter q (map f xs)) one.1 (through f p q g h xs (All-tail (λ z. (p z ≡ q (f z)) × (g z ≡ h (f z))) x xs all))

-- what is known by number is known by path
pub kinds-by_path : (found : List Found) → AreNext found → ArePathsApart found → (owner : Option ℕ) → IsOwner found owner → (kind : SymKind) (name : List ℕ)
    → kinds_named found owner kind name ≡ kinds_below (definitions_in found) (owner_steps found owner) kind name
kinds-by_path found nexts apart owner owned kind name =
    through (λ d. definition_in d.decl) (is_named owner (space_of kind) name) (is_named_below (owner_steps found owner) kind name) kind_of (λ d. d.own.kind) found
    (All-weaker (IsAmong found)
    (λ d. (is_named owner (space_of kind) name d ≡ is_named_below (owner_steps found owner) kind name (definition_in d.decl)) × (kind_of d ≡ (definition_in d.decl).own.kind))
    (λ d is. (λ i. owned-below found d is apart owner owned i && has_name (space_of kind) name (last-among found d is i), kind-among found d is))
    found (among found nexts))

-- ---- one source

abbrev kids_if : Bool → Tree → List Tree
kids_if same root = if same then (out-Tree root).kids else []

earlier-more : (roots : List Tree) (file : ℕ) (root other : Tree) → slice_get roots file ≡ Some root
    → of_package_before roots (file + 1) other ≡ of_package_before roots file other ++ kids_if (is_same_path (package_of root) (package_of other)) root
earlier-more roots file root other here =
    let kids : Tree → List Tree = λ one. kids_if (is_same_path (package_of one) (package_of other)) one in
    ap (flat_map kids) (taken_more roots file root here)
    ∙ flat_map-append kids (take file roots) (root ∷ [])
    ∙ ap (λ more. of_package_before roots file other ++ more) (append-nil (kids root))

module _ (sources : List Source) (file : ℕ) (source : Source) (here : slice_get sources file ≡ Some source) (old mid new : Entering) (innermost : Option ℕ)
    (opened : Opens file [] (openings_of source.root) old.definitions.found.items mid.definitions.found.items innermost)
    (before : HasEntered sources file old.definitions.found.items old.qualifiers)
    (first : IsKept old.definitions) (second : IsKept mid.definitions) (third : IsKept new.definitions)
    (entered : EntersKids file source.name innermost kind.Unit source.root mid new) where
  abbrev roots : List Tree
  roots = roots_of sources

  abbrev root : Tree
  root = source.root

  abbrev first_found : List Definition
  first_found = definitions_in old.definitions.found.items

  abbrev middle_found : List Definition
  middle_found = definitions_in mid.definitions.found.items

  abbrev last_found : List Definition
  last_found = definitions_in new.definitions.found.items

  abbrev own : List Definition
  own = opened_in file [] (openings_of root)

  abbrev fresh : List Definition
  fresh = new_among (paths_of old.definitions.found.items) own

  abbrev more : List Definition
  more = new_definitions roots (sites_of file root)

  root_here : slice_get roots file ≡ Some root
  root_here = root-here sources file source here

  grown_once : middle_found ≡ first_found ++ fresh
  grown_once = ap definitions_in opened.found ∙ definitions_in-append old.definitions.found.items opened.more
      ∙ ap (λ ds. first_found ++ ds) (found-as opened.more fresh opened.decls)

  fresh_packages : All (λ d. names_package d ≡ true) fresh
  fresh_packages = new_kept (λ d. names_package d ≡ true) (paths_of old.definitions.found.items) own (all_packages file [] (openings_of root))

  fresh_known : fresh ≡ new_among (map path_to (packages_before roots file)) own
  fresh_known =
      ap (λ known. new_among known own) (paths_to old.definitions.found.items old.definitions.found.items (among old.definitions.found.items first.next))
      ∙ new-alike (map path_to first_found) (map path_to (filter names_package first_found)) own (all_packages file [] (openings_of root)) (packages_alike first_found)
      ∙ ap (λ ds. new_among (map path_to ds) own) before.packages

  packages-once : filter names_package middle_found ≡ packages_before roots (file + 1)
  packages-once =
      ap (filter names_package) grown_once ∙ filter-append names_package first_found fresh
      ∙ (λ i. before.packages i ++ (filter_all names_package fresh fresh_packages ∙ fresh_known) i)
      ∙ sym (ap (new_among []) (opened-more roots file root root_here) ∙ new_among-append [] (opened_behind 0 (take file roots)) own)

  written-once : filter is_no_package middle_found ≡ new_definitions roots (sites_before roots file)
  written-once =
      ap (filter is_no_package) grown_once ∙ filter-append is_no_package first_found fresh
      ∙ (λ i. before.written i ++ filter_none is_no_package fresh
      (All-weaker (λ d. names_package d ≡ true) (λ d. is_no_package d ≡ false) (λ d h. not_from_true (names_package d) h) fresh fresh_packages) i)
      ∙ append-nil (new_definitions roots (sites_before roots file))

  known-once : (other : Tree) → KnowsBelow middle_found (package_of other) (kid_after other [] ∷ []) (of_package_before roots file other)
  known-once other = subst (λ ds. KnowsBelow ds (package_of other) (kid_after other [] ∷ []) (of_package_before roots file other)) (sym grown_once)
      (Known-packages first_found fresh (package_of other) (kid_after other [] ∷ []) (of_package_before roots file other) fresh_packages (before.known other))

  path_here : owner_steps mid.definitions.found.items innermost ≡ package_of root
  path_here = opened.path ∙ openings-package root

  stands : IsAt roots file innermost kind.Unit (out-Tree root).detail (kid_after root [] ∷ []) mid.definitions.found.items
  stands = record { path = path_here; symbols = λ _. refl; wrong = λ _. refl; detail = refl; owned = refl; live = refl }

  knows : Knows mid.definitions.found.items innermost (kid_after root [] ∷ []) (of_package_before roots file root)
  knows = record {
    each = λ kind name outside.
        kinds-by_path mid.definitions.found.items second.next second.apart innermost opened.owner kind name
        ∙ ap (λ steps. kinds_below middle_found steps kind name) path_here
        ∙ (known-once root).each kind name outside;
  }

  abbrev turn : Enters roots source.name innermost mid new (sites_of file root)
      × Knows new.definitions.found.items innermost (kid_after root [] ∷ []) (of_package_before roots file root ++ (out-Tree root).kids)
  turn = entered roots [] [] stands knows

  grown_twice : last_found ≡ middle_found ++ more
  grown_twice = ap definitions_in turn.0.found ∙ definitions_in-append mid.definitions.found.items turn.0.more
      ∙ ap (λ ds. middle_found ++ ds) (found-as turn.0.more more turn.0.decls)

  packages-twice : filter names_package last_found ≡ packages_before roots (file + 1)
  packages-twice =
      ap (filter names_package) grown_twice ∙ filter-append names_package middle_found more
      ∙ (λ i. packages-once i ++ filter_none names_package more (new-written roots (sites_of file root)) i)
      ∙ append-nil (packages_before roots (file + 1))

  written-twice : filter is_no_package last_found ≡ new_definitions roots (sites_before roots (file + 1))
  written-twice =
      ap (filter is_no_package) grown_twice ∙ filter-append is_no_package middle_found more
      ∙ (λ i. written-once i ++ filter_all is_no_package more
      (All-weaker (λ d. names_package d ≡ false) (λ d. is_no_package d ≡ true) (λ d h. not_from_false (names_package d) h) more (new-written roots (sites_of file root))) i)
      ∙ sym (ap (new_definitions roots) (sites_before-more roots file root root_here) ∙ new-append roots (sites_before roots file) (sites_of file root))

  still_owner : IsOwner new.definitions.found.items innermost
  still_owner = subst (λ f. IsOwner f innermost) (sym turn.0.found) (owner_grown mid.definitions.found.items (mid.definitions.found.items ++ turn.0.more) innermost opened.owner (omega (arith, length-append mid.definitions.found.items turn.0.more)))

  path_still : owner_steps new.definitions.found.items innermost ≡ package_of root
  path_still = ap (λ f. owner_steps f innermost) turn.0.found ∙ owner_steps-more mid.definitions.found.items turn.0.more innermost opened.owner ∙ path_here

  known_here : (other : Tree) → is_same_path (package_of root) (package_of other) ≡ true
      → KnowsBelow last_found (package_of other) (kid_after other [] ∷ []) (of_package_before roots (file + 1) other)
  known_here other same =
      let steps : package_of root ≡ package_of other = ap (λ p. p.steps) ((path-exact _ _).0 same) in
      let trees : of_package_before roots (file + 1) other ≡ of_package_before roots file root ++ (out-Tree root).kids =
      earlier-more roots file root other root_here
      ∙ (λ i. flat_map (λ one. kids_if (is_same_path (package_of one) (sym steps i)) one) (take file roots) ++ kids_if (same i) root) in record {
        each = λ kind name outside.
            ap (λ s. kinds_below last_found s kind name) (sym (path_still ∙ steps))
            ∙ sym (kinds-by_path new.definitions.found.items third.next third.apart innermost still_owner kind name)
            ∙ turn.1.each kind name outside
            ∙ ap (λ ts. admitted (kinds_of (kid_after root [] ∷ []) kind name ts)) (sym trees);
      }

  known_else : (other : Tree) → is_same_path (package_of root) (package_of other) ≡ false
      → KnowsBelow last_found (package_of other) (kid_after other [] ∷ []) (of_package_before roots (file + 1) other)
  known_else other apart =
      let trees : of_package_before roots (file + 1) other ≡ of_package_before roots file other =
      earlier-more roots file root other root_here ∙ ap (λ b. of_package_before roots file other ++ kids_if b root) apart
      ∙ append-nil (of_package_before roots file other) in
      let steady : KnowsBelow (middle_found ++ more) (package_of other) (kid_after other [] ∷ []) (of_package_before roots file other) =
      Known-outside middle_found more (package_of other) (kid_after other [] ∷ []) (of_package_before roots file other)
      (new-outside roots file root other apart) (known-once other) in
      subst (λ ds. KnowsBelow ds (package_of other) (kid_after other [] ∷ []) (of_package_before roots (file + 1) other)) (sym grown_twice)
      (subst (λ ts. KnowsBelow (middle_found ++ more) (package_of other) (kid_after other [] ∷ []) ts) (sym trees) steady)

  qualifiers-twice : mid.qualifiers ≡ old.qualifiers → new.qualifiers ≡ qualifiers_before sources (file + 1)
  qualifiers-twice same =
      turn.0.qualifiers
      ∙ (λ i. (same ∙ before.imports) i ++ qualifiers-named sources file source (is_live_site roots) here i)
      ∙ sym (ap (λ sites. flat_map (qualifiers_at sources) (filter (is_live_site roots) sites)) (sites_before-more roots file root root_here)
      ∙ ap (flat_map (qualifiers_at sources)) (filter-append (is_live_site roots) (sites_before roots file) (sites_of file root))
      ∙ flat_map-append (qualifiers_at sources) (filter (is_live_site roots) (sites_before roots file)) (filter (is_live_site roots) (sites_of file root)))

  pub source_entered : mid.qualifiers ≡ old.qualifiers → HasEntered sources (file + 1) new.definitions.found.items new.qualifiers
  source_entered same = record {
    packages = packages-twice;
    written = written-twice;
    imports = qualifiers-twice same;
    known = λ other. ⊎_elim (known_here other) (known_else other) (cases_Bool (is_same_path (package_of root) (package_of other)));
  }

  pub source_told : mid.told ≡ [] → new.told ≡ told_in roots file
  source_told none =
      turn.0.told ∙ ap (λ told. told ++ flat_map (site_problems roots) (sites_of file root)) none
      ∙ sym (ap (flat_map (site_problems roots)) (sites-in_source roots file root root_here))
