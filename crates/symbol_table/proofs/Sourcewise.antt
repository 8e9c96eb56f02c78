-- Trees by the source in which they stand.
use Rattle.std.proofs.Common.{◌≡◌, ℕ, suc, zero, ◌+◌, ◌<◌, ◌==◌, Bool, true, false, ◌⊎◌, inl, inr, ⊎_elim, List, [], ◌∷◌, ◌++◌, map, length, take, drop, get_or, Some, refl, sym, ap, subst, ◌∙◌, append_assoc, append-nil, arith}
use Rattle.std.specs.Bool.{⊤}
use Rattle.std.specs.List.{All, filter, flat_map, slice_get}
use Rattle.std.specs.Option.{option_map, unwrap_or}
use Rattle.std.proofs.lemmas.Bool.{eq-eqb, ne_eqb, false_from_ne_true, true≢false}
use Rattle.std.proofs.lemmas.List.{take_more, length-take-le}
use Rattle.std.proofs.lemmas.List.Elements.{All-nil, All-head, All-tail, All-append, All-filter, All-map, All-weaker, filter-append}
use Rattle.std.proofs.lemmas.Option.{slice_get-map, slice_get_within, get_or_from_slice_get}
use Rattle.pc_terms.specs.declared.symbols.SymStep.{SymStep}
use Rattle.positioned_trees.specs.declared.details.Name.{Name}
use Rattle.positioned_trees.specs.declared.trees.Tree.{Tree}
use Rattle.positioned_trees.specs.declared.trees.Tree.TheViews.{out-Tree}
use Rattle.type_substitution.proofs.Exact.{path-exact}
use Rattle.symbol_table.specs.Definitions.{definition_at, opened_in, opened_behind, openings_of}
use Rattle.symbol_table.specs.Entering.{new_definitions, site_qualifiers}
use Rattle.symbol_table.specs.Items.{Source, roots_of, name_at, tree_qualifiers, qualifiers_at}
use Rattle.symbol_table.specs.Owners.{path_of, is_same_path, package_step, package_of, defines, owner_of, step_at}
use Rattle.symbol_table.specs.Sites.{Kid, Site, kid_after, sites_from, sites_of, sites_behind, all_sites}
use Rattle.symbol_table.specs.Sources.{names_package, sites_before}
use Rattle.symbol_table.specs.Symbols.{is_package}
use Rattle.symbol_table.proofs.Below.{holds_in}
use Rattle.symbol_table.proofs.Filtered.{filter_none, filter_all}
use Rattle.symbol_table.proofs.PathsApart.{none_last}
use Rattle.symbol_table.proofs.Places.{at_outside}
use Rattle.symbol_table.proofs.Spreads.{kids_from, sites_from-out}

-- ---- one source more

pub sites_behind-push : (file : ℕ) (roots : List Tree) (root : Tree) → sites_behind file (roots ++ root ∷ []) ≡ sites_behind file roots ++ sites_of (file + length roots) root
sites_behind-push file [] root =
    let same : file ≡ file + 0 = omega arith in
    append-nil (sites_of file root) ∙ ap (λ n. sites_of n root) same
sites_behind-push file (first ∷ roots) root =
    let same : file + 1 + length roots ≡ file + length (first ∷ roots) = omega arith in
    ap (λ s. sites_of file first ++ s) (sites_behind-push (file + 1) roots root ∙ ap (λ n. sites_behind (file + 1) roots ++ sites_of n root) same)
    ∙ sym (append_assoc (sites_of file first) (sites_behind (file + 1) roots) (sites_of (file + length (first ∷ roots)) root))

pub opened_behind-push : (file : ℕ) (roots : List Tree) (root : Tree)
    → opened_behind file (roots ++ root ∷ []) ≡ opened_behind file roots ++ opened_in (file + length roots) [] (openings_of root)
opened_behind-push file [] root =
    let same : file ≡ file + 0 = omega arith in
    append-nil (opened_in file [] (openings_of root)) ∙ ap (λ n. opened_in n [] (openings_of root)) same
opened_behind-push file (first ∷ roots) root =
    let same : file + 1 + length roots ≡ file + length (first ∷ roots) = omega arith in
    ap (λ s. opened_in file [] (openings_of first) ++ s)
    (opened_behind-push (file + 1) roots root ∙ ap (λ n. opened_behind (file + 1) roots ++ opened_in n [] (openings_of root)) same)
    ∙ sym (append_assoc (opened_in file [] (openings_of first)) (opened_behind (file + 1) roots) (opened_in (file + length (first ∷ roots)) [] (openings_of root)))

module _ (roots : List Tree) (count : ℕ) (root : Tree) (here : slice_get roots count ≡ Some root) where
  pub within : count < length roots
  within = slice_get_within roots count root here

  pub taken_more : take (count + 1) roots ≡ take count roots ++ root ∷ []
  taken_more = take_more roots count root within ∙ ap (λ r. take count roots ++ r ∷ []) (get_or_from_slice_get roots count root root here)

  length_taken : 0 + length (take count roots) ≡ count
  length_taken = omega (arith, length-take-le count roots (omega (arith, within)))

  pub sites_before-more : sites_before roots (count + 1) ≡ sites_before roots count ++ sites_of count root
  sites_before-more =
      ap (sites_behind 0) taken_more ∙ sites_behind-push 0 (take count roots) root
      ∙ ap (λ n. sites_before roots count ++ sites_of n root) length_taken

  pub opened-more : opened_behind 0 (take (count + 1) roots) ≡ opened_behind 0 (take count roots) ++ opened_in count [] (openings_of root)
  opened-more =
      ap (opened_behind 0) taken_more ∙ opened_behind-push 0 (take count roots) root
      ∙ ap (λ n. opened_behind 0 (take count roots) ++ opened_in n [] (openings_of root)) length_taken

-- ---- all trees of one source

pub sites_of-out : (file : ℕ) (root : Tree) → sites_of file root ≡ kids_from file (kid_after root [] ∷ []) [] (out-Tree root).kids
sites_of-out file root = ap (drop 1) (sites_from-out file root [] [])

module _ (file : ℕ) (Q : Site → Type 0) (Stands : Tree → List Tree → List Kid → Type 0)
    (all : (tree : Tree) (before : List Tree) (around : List Kid) → Stands tree before around → All Q (sites_from file tree before around)) where
  kids_all : (around : List Kid) (before kids : List Tree) → ((kid : Tree) (behind : List Tree) → Stands kid behind around) → All Q (kids_from file around before kids)
  kids_all around before [] each = All-nil Q
  kids_all around before (kid ∷ kids) each =
      All-append Q (sites_from file kid before around) (kids_from file around (before ++ kid ∷ []) kids)
      (all kid before around (each kid before)) (kids_all around (before ++ kid ∷ []) kids each)

  pub all_of_source : (root : Tree) → ((kid : Tree) (behind : List Tree) → Stands kid behind (kid_after root [] ∷ [])) → All Q (sites_of file root)
  all_of_source root each = subst (All Q) (sym (sites_of-out file root)) (kids_all (kid_after root [] ∷ []) [] (out-Tree root).kids each)

-- they stand in it
pub of_file : (file : ℕ) (root : Tree) → All (λ s. s.file ≡ file) (sites_of file root)
of_file file root =
    all_of_source file (λ s. s.file ≡ file) (λ _ _ _. ⊤)
    (λ tree before around _. holds_in file (λ s. s.file ≡ file) (λ _ _ _. ⊤) (λ _ _ _ _. refl) (λ _ _ _ _ _ _. tt) tree before around tt)
    root (λ _ _. tt)

-- ---- those of one source among all

none_behind : (at start : ℕ) (roots : List Tree) → at < start → filter (λ s. s.file == at) (sites_behind start roots) ≡ []
none_behind at start [] h = refl
none_behind at start (root ∷ roots) h =
    filter-append (λ s. s.file == at) (sites_of start root) (sites_behind (start + 1) roots)
    ∙ (λ i. filter_none (λ s. s.file == at) (sites_of start root)
    (All-weaker (λ s. s.file ≡ start) (λ s. (s.file == at) ≡ false) (λ s e. ne_eqb s.file at (λ f. omega arith)) (sites_of start root) (of_file start root)) i
    ++ none_behind at (start + 1) roots (omega arith) i)

in_source : (at start number : ℕ) (roots : List Tree) (root : Tree) → slice_get roots number ≡ Some root → at ≡ start + number
    → filter (λ s. s.file == at) (sites_behind start roots) ≡ sites_of at root
in_source at start number [] root here is = cc
in_source at start zero (first ∷ roots) root here is =
    let same : first ≡ root = cc in
    let this : start ≡ at = omega arith in
    filter-append (λ s. s.file == at) (sites_of start first) (sites_behind (start + 1) roots)
    ∙ (λ i. filter_all (λ s. s.file == at) (sites_of start first)
    (All-weaker (λ s. s.file ≡ start) (λ s. (s.file == at) ≡ true) (λ s e. eq-eqb s.file at (e ∙ this)) (sites_of start first) (of_file start first)) i
    ++ none_behind at (start + 1) roots (omega arith) i)
    ∙ append-nil (sites_of start first)
    ∙ (λ i. sites_of (this i) (same i))
in_source at start (suc number) (first ∷ roots) root here is =
    filter-append (λ s. s.file == at) (sites_of start first) (sites_behind (start + 1) roots)
    ∙ (λ i. filter_none (λ s. s.file == at) (sites_of start first)
    (All-weaker (λ s. s.file ≡ start) (λ s. (s.file == at) ≡ false) (λ s e. ne_eqb s.file at (λ f. omega arith)) (sites_of start first) (of_file start first)) i
    ++ in_source at (start + 1) number roots root here (omega arith) i)

-- they are those of the source
pub sites-in_source : (roots : List Tree) (file : ℕ) (root : Tree) → slice_get roots file ≡ Some root
    → filter (λ s. s.file == file) (all_sites roots) ≡ sites_of file root
sites-in_source roots file root here = in_source file 0 file roots root here (omega arith)

-- ---- qualifiers

pub flat_map_agree : {X A : Type 0} (f g : X → List A) (xs : List X) → All (λ x. f x ≡ g x) xs → flat_map f xs ≡ flat_map g xs
flat_map_agree f g [] all = refl
flat_map_agree f g (x ∷ xs) all = λ i. All-head (λ y. f y ≡ g y) x xs all i ++ flat_map_agree f g xs (All-tail (λ y. f y ≡ g y) x xs all) i

pub name-here : (sources : List Source) (file : ℕ) (source : Source) → slice_get sources file ≡ Some source → name_at sources file ≡ source.name
name-here sources file source here =
    ap (λ o. unwrap_or o []) (slice_get-map (λ s. s.name) sources file ∙ ap (option_map (λ s. s.name)) here)

pub root-here : (sources : List Source) (file : ℕ) (source : Source) → slice_get sources file ≡ Some source → slice_get (roots_of sources) file ≡ Some source.root
root-here sources file source here = slice_get-map (λ s. s.root) sources file ∙ ap (option_map (λ s. s.root)) here

pub qualifiers-named : (sources : List Source) (file : ℕ) (source : Source) (live : Site → Bool) → slice_get sources file ≡ Some source
    → flat_map (site_qualifiers source.name) (filter live (sites_of file source.root)) ≡ flat_map (qualifiers_at sources) (filter live (sites_of file source.root))
qualifiers-named sources file source live here =
    flat_map_agree (site_qualifiers source.name) (qualifiers_at sources) (filter live (sites_of file source.root))
    (All-filter live (λ s. site_qualifiers source.name s ≡ qualifiers_at sources s) (sites_of file source.root)
    (All-weaker (λ s. s.file ≡ file) (λ s. site_qualifiers source.name s ≡ qualifiers_at sources s)
    (λ s e. ap (λ n. tree_qualifiers n s.kid.tree) (sym (name-here sources file source here) ∙ ap (name_at sources) (sym e)))
    (sites_of file source.root) (of_file file source.root)))

-- ---- owners

abbrev pub IsDeep : List Kid → Type 0
IsDeep around = (parent : Kid) × (next : Kid) × (outer : List Kid) × (around ≡ parent ∷ next ∷ outer)

-- directly in the source, or in what stands in it
abbrev pub StandsIn : Tree → List Kid → Type 0
StandsIn root around = (around ≡ kid_after root [] ∷ []) ⊎ IsDeep around

deeper : (root tree : Tree) (before : List Tree) (around : List Kid) → StandsIn root around → StandsIn root (kid_after tree before ∷ around)
deeper root tree before around s = inr (⊎_elim
    (λ (e : around ≡ kid_after root [] ∷ []). (kid_after tree before, kid_after root [], [], ap (λ z. kid_after tree before ∷ z) e))
    (λ (d : IsDeep around). (kid_after tree before, d.0, d.1 ∷ d.2, ap (λ z. kid_after tree before ∷ z) d.3))
    s)

pub all_stand : (file : ℕ) (root : Tree) → All (λ s. StandsIn root s.around) (sites_of file root)
all_stand file root =
    all_of_source file (λ s. StandsIn root s.around) (λ _ _ around. StandsIn root around)
    (λ tree before around h. holds_in file (λ s. StandsIn root s.around) (λ _ _ around. StandsIn root around)
    (λ _ _ _ h. h) (λ tree before around _ _ h. deeper root tree before around h) tree before around h)
    root (λ _ _. inl refl)

-- the path of a package has packages alone
pub only_packages : (names : List Name) (steps : List SymStep) (own : SymStep) → map package_step names ≡ steps ++ own ∷ [] → is_package own.kind ≡ true
only_packages [] steps own e = absurd (none_last steps own e)
only_packages (name ∷ names) [] own e =
    let same : package_step name ≡ own = cc in
    sym (ap (λ s. is_package s.kind) same)
only_packages (name ∷ names) (step ∷ steps) own e =
    let tails : map package_step names ≡ steps ++ own ∷ [] = cc in
    only_packages names steps own tails

module _ (roots : List Tree) (file : ℕ) (root other : Tree) (apart : is_same_path (package_of root) (package_of other) ≡ false) where
  not_inside : (steps : List SymStep) (own : SymStep) → is_package own.kind ≡ false → is_same_path (steps ++ own ∷ []) (package_of other) ≡ false
  not_inside steps own h = false_from_ne_true _ (λ e.
      let same = (path-exact (path_of (steps ++ own ∷ [])) (path_of (package_of other))).0 e in
      true≢false (sym (only_packages _ steps own (sym (ap (λ p. p.steps) same))) ∙ h))

  owner_outside : (around : List Kid) → StandsIn root around → is_same_path (owner_of roots file around) (package_of other) ≡ false
  owner_outside around s = ⊎_elim
      (λ (e : around ≡ kid_after root [] ∷ []). ap (λ z. is_same_path (owner_of roots file z) (package_of other)) e ∙ apart)
      (λ (d : IsDeep around).
      ap (λ z. is_same_path (owner_of roots file z) (package_of other)) d.3
      ∙ not_inside (owner_of roots file (d.1 ∷ d.2)) (step_at roots file d.0 (d.1 ∷ d.2)) (at_outside d.0.tree (d.1 ∷ d.2)))
      s

  -- what a source writes does not stand directly in another package
  pub new-outside : All (λ d. is_same_path d.owner (package_of other) ≡ false) (new_definitions roots (sites_of file root))
  new-outside =
      All-map (λ d. is_same_path d.owner (package_of other) ≡ false) (definition_at roots) (filter (defines roots) (sites_of file root))
      (All-filter (defines roots) (λ s. is_same_path (owner_of roots s.file s.around) (package_of other) ≡ false) (sites_of file root)
      (λ k d lt. ap (λ n. is_same_path (owner_of roots n (get_or (sites_of file root) k d).around) (package_of other)) (of_file file root k d lt)
      ∙ owner_outside (get_or (sites_of file root) k d).around (all_stand file root k d lt)))

-- and it is no package
pub new-written : (roots : List Tree) (sites : List Site) → All (λ d. names_package d ≡ false) (new_definitions roots sites)
new-written roots sites =
    All-map (λ d. names_package d ≡ false) (definition_at roots) (filter (defines roots) sites)
    (λ k d lt. at_outside (get_or (filter (defines roots) sites) k d).kid.tree (get_or (filter (defines roots) sites) k d).around)
