-- The table that is made of all definitions is that of the sources.
use Rattle.std.proofs.Common.{◌≡◌, ℕ, suc, ◌+◌, ◌-◌, ◌<◌, nat_lt, nat_le, Bool, true, false, not, cond, ◌&&◌, ⊎_elim, if◌then◌else◌, List, [], ◌∷◌, map, length, take, drop, get_or, Option, Some, None, Contains, refl, sym, ap, subst, ◌∙◌, arith}
use Rattle.std.specs.List.{All, AllPairs, filter, find, position, position_or_len, slice_get, slice_range, IsDistinct}
use Rattle.std.specs.List.Sorted.{IsPermutation}
use Rattle.std.specs.Option.{option_map, option_and_then, unwrap_or, option_cmp}
use Rattle.std.specs.Ordering.{is_lt, ordering_then, ordering_reverse, nat_cmp}
use Rattle.std.specs.Cmp.Lexicographic.{options_total}
use Rattle.std.specs.declared.cmp.Ordering.{Ordering}
use Rattle.std.specs.declared.cmp.Ordering.TheVariants.{Less, Equal, Greater}
use Rattle.std.proofs.lemmas.Bool.{false≢true, true≢false, cases_order, le-ltb, ltb-false, ltb-true, eq-eqb, lt-ltb, false_from_ne_true}
use Rattle.std.proofs.lemmas.List.{length-map, take-map, drop-map, get_or-map, get_or_default, length-take-le}
use Rattle.std.proofs.lemmas.List.Elements.{All-nil, All-cons, All-head, All-tail, All-weaker, Contains-get_or, filter_passes}
use Rattle.std.proofs.lemmas.List.Folds.{find_at}
use Rattle.std.proofs.lemmas.List.Sorted.{IsPermutation-map, IsPermutation-trans, IsPermutation-sym, All-permutation, Contains-permutation, sorted_far}
use Rattle.std.proofs.lemmas.List.Kept.{AllPairs-filter}
use Rattle.std.proofs.lemmas.List.Quantifiers.{position-Some}
use Rattle.std.proofs.lemmas.Map.Keys.{IsDistinct-IsPermutation, IsDistinct-from_apart, apart_from_distinct}
use Rattle.std.proofs.lemmas.Option.{slice_get-map, slice_get_past, unwrap_or-slice_get}
use Rattle.pc_terms.specs.Show.{last_step}
use Rattle.pc_terms.specs.declared.symbols.SymPath.{SymPath}
use Rattle.pc_terms.specs.declared.symbols.SymStep.{SymStep}
use Rattle.type_substitution.specs.Substitution.{path_eq}
use Rattle.type_substitution.proofs.Exact.{path-exact}
use Rattle.symbol_table.specs.declared.definitions.Found.{Found}
use Rattle.symbol_table.specs.declared.groups.Group.{Group}
use Rattle.symbol_table.specs.declared.table.Beside.{Beside}
use Rattle.symbol_table.specs.declared.table.Table.{Table}
use Rattle.symbol_table.specs.Definitions.{Definition, path_to, decl_of}
use Rattle.symbol_table.specs.Entering.{decls_of}
use Rattle.symbol_table.specs.Found.{IsOwner, AreNext, ArePathsApart, owner_steps, owner_rank, is_owned}
use Rattle.symbol_table.specs.Groups.{no_group, part}
use Rattle.symbol_table.specs.Made.{HaveOwnPaths, IsMadeOf}
use Rattle.symbol_table.specs.Opened.{paths_of}
use Rattle.symbol_table.specs.Order.{step_cmp, decl_cmp, found_cmp, owned_by}
use Rattle.symbol_table.specs.Owners.{path_of, is_same_path}
use Rattle.symbol_table.specs.Sources.{definition_in, definitions_in}
use Rattle.symbol_table.specs.Tables.{decl_in, group_at, owned_in, paths_in, IsOwned}
use Rattle.symbol_table.proofs.CaseClasses.{at_some}
use Rattle.symbol_table.proofs.Columned.{path_flips}
use Rattle.symbol_table.proofs.Filtered.{filter_none}
use Rattle.symbol_table.proofs.Following.{number-at}
use Rattle.symbol_table.proofs.Numbered.{IsAmong, among, owner-among, last-among, path-among, decl-among, owned-below}
use Rattle.symbol_table.proofs.PathsApart.{steps_at}
use Rattle.symbol_table.proofs.Ranked.{step_total, found_ranks}
use Rattle.symbol_table.proofs.Shuffled.{IsPermutation-filter, find-IsPermutation, strictly}
use Rattle.symbol_table.proofs.SourceEntered.{paths_to, through}
use Rattle.symbol_table.proofs.Twins.{AreTwins, twins, one_path}

-- ---- definitions have their own paths

-- two of one path are one
module _ (now : List Found) (nexts : AreNext now) (apart : ArePathsApart now) where
  one_place : (i j : ℕ) (d : Found) → i < length now → j < length now → (get_or now i d).decl.path ≡ (get_or now j d).decl.path → i ≡ j
  one_place i j d h k e =
      let same : Some i ≡ Some j = apart.each (Some i) (Some j) h k (steps_at now i d h ∙ ap (λ p. p.steps) e ∙ sym (steps_at now j d k)) in
      ap (λ o. unwrap_or o 0) same

  pub own_paths : HaveOwnPaths now
  own_paths = IsDistinct-from_apart path_eq (paths_of now) (λ i j p h k.
      let d : Found = default i (omega (arith, h, k, length-map now (λ f. f.decl.path))) in
      false_from_ne_true _ (λ e.
      let same = (path-exact _ _).0 e in
      let place = one_place i j d (omega (arith, h, k, length-map now (λ f. f.decl.path))) (omega (arith, k, length-map now (λ f. f.decl.path)))
      (sym (get_or-map (λ f. f.decl.path) now i d p (omega (arith, h, k, length-map now (λ f. f.decl.path)))) ∙ same
      ∙ get_or-map (λ f. f.decl.path) now j d p (omega (arith, k, length-map now (λ f. f.decl.path)))) in
      omega (arith, h, place)))
    where
      first : (found : List Found) (n : ℕ) → n < length found → Found
      first [] n h = absurd (omega arith)
      first (x ∷ xs) n h = x

      default : (n : ℕ) → n < length now → Found
      default n h = first now n h

-- ---- look-ups

place_map : {X Y : Type 0} (f : X → Y) (p : Y → Bool) (xs : List X) → position_or_len p (map f xs) ≡ position_or_len (λ x. p (f x)) xs
place_map f p [] = refl
place_map f p (x ∷ xs) = ap (λ n. cond (not (p (f x))) (1 + n) 0) (place_map f p xs)

by_place : {X Y : Type 0} (g : X → Y) (xs : List X) (n : ℕ) (b : Bool) → nat_lt n (length xs) ≡ b
    → option_and_then (slice_get (map g xs)) (cond b (Some n) None) ≡ option_map g (slice_get xs n)
by_place g xs n true h = slice_get-map g xs n
by_place g xs n false h = ap (option_map g) (sym (slice_get_past xs n (ltb-false n (length xs) h)))

looked_up : {X Y Z : Type 0} (f : X → Y) (g : X → Z) (p : Y → Bool) (xs : List X)
    → option_and_then (slice_get (map g xs)) (position p (map f xs)) ≡ option_map g (find (λ x. p (f x)) xs)
looked_up f g p xs =
    ap (option_and_then (slice_get (map g xs))) (λ i. cond (nat_lt (place_map f p xs i) (length-map xs f i)) (Some (place_map f p xs i)) None)
    ∙ by_place g xs (position_or_len (λ x. p (f x)) xs) (nat_lt (position_or_len (λ x. p (f x)) xs) (length xs)) refl
    ∙ ap (option_map g) (sym (find_at (λ x. p (f x)) xs))

find_if : {X Y Z : Type 0} (f : X → Y) (g : X → Z) (h : Y → Z) (b : Bool) (x : X) (a : Option X) (c : Option Y) → h (f x) ≡ g x → option_map g a ≡ option_map h c
    → option_map g (cond b (Some x) a) ≡ option_map h (cond b (Some (f x)) c)
find_if f g h true x a c e rest = ap Some (sym e)
find_if f g h false x a c e rest = rest

find-map : {X Y Z : Type 0} (f : X → Y) (g : X → Z) (h : Y → Z) (p : X → Bool) (q : Y → Bool) (xs : List X) → All (λ x. (p x ≡ q (f x)) × (h (f x) ≡ g x)) xs
    → option_map g (find p xs) ≡ option_map h (find q (map f xs))
find-map f g h p q [] all = refl
find-map f g h p q (x ∷ xs) all =
    let one = All-head (λ y. (p y ≡ q (f y)) × (h (f y) ≡ g y)) x xs all in
    ap (λ b. option_map g (cond b (Some x) (find p xs))) one.0
    ∙ find_if f g h (q (f x)) x (find p xs) (find q (map f xs)) one.1 (find-map f g h p q xs (All-tail (λ y. (p y ≡ q (f y)) × (h (f y) ≡ g y)) x xs all))

-- ---- parts

part_if : {X Y : Type 0} (f : X → Y) (b : Bool) (xs : List X) → map f (if b then xs else []) ≡ (if b then map f xs else [])
part_if f true xs = refl
part_if f false xs = refl

part-map : {X Y : Type 0} (f : X → Y) (xs : List X) (g : Group) → part (map f xs) g ≡ map f (part xs g)
part-map f xs g =
    let range : slice_range (map f xs) g.start g.end ≡ map f (slice_range xs g.start g.end) =
    ap (take (g.end - g.start)) (drop-map f g.start xs) ∙ take-map f (g.end - g.start) (drop g.start xs) in
    (λ i. if nat_le g.start g.end && nat_le g.end (length-map xs f i) then range i else [])
    ∙ sym (part_if f (nat_le g.start g.end && nat_le g.end (length xs)) (slice_range xs g.start g.end))

filter_alike : {X : Type 0} (p q : X → Bool) (xs : List X) → All (λ x. p x ≡ q x) xs → filter p xs ≡ filter q xs
filter_alike p q [] all = refl
filter_alike p q (x ∷ xs) all = λ i. cond (All-head (λ y. p y ≡ q y) x xs all i) (x ∷ filter_alike p q xs (All-tail (λ y. p y ≡ q y) x xs all) i) (filter_alike p q xs (All-tail (λ y. p y ≡ q y) x xs all) i)

none_here : (b : Bool) (n m : ℕ) → nat_lt (cond (not b) (1 + n) 0) (suc m) ≡ false → (b ≡ false) × (nat_lt n m ≡ false)
none_here true n m h = absurd (true≢false (sym (lt-ltb 0 (suc m) (omega arith)) ∙ h))
none_here false n m h = (refl, le-ltb n m (omega (arith, ltb-false (1 + n) (suc m) h)))

no_place : {X : Type 0} (p : X → Bool) (xs : List X) → nat_lt (position_or_len p xs) (length xs) ≡ false → All (λ x. p x ≡ false) xs
no_place p [] h = All-nil (λ x. p x ≡ false)
no_place p (x ∷ xs) h =
    let parts = none_here (p x) (position_or_len p xs) (length xs) h in
    All-cons (λ y. p y ≡ false) x xs parts.0 (no_place p xs parts.1)

nothing : {X : Type 0} (b : Bool) (xs : List X) → (if true && b then take 0 xs else []) ≡ []
nothing true xs = refl
nothing false xs = refl

no_part : {X : Type 0} (xs : List X) → part xs no_group ≡ []
no_part xs = nothing (nat_le 0 (length xs)) xs

-- what an order tells apart, the other way round
turned : (o : Ordering) → is_lt o ≡ false → (o ≡ Equal → ⊥) → ordering_reverse o ≡ Less
turned Less h n = absurd (true≢false h)
turned Equal h n = absurd (n refl)
turned Greater h n = refl

ranks_itself : (n : ℕ) → nat_cmp n n ≡ Equal
ranks_itself n = (λ i. cond (le-ltb n n (omega arith) i) Less (cond (eq-eqb n n refl i) Equal Greater))

-- ---- the table

module _ (now : List Found) (nexts : AreNext now) (apart : ArePathsApart now) (beside : Beside) (table : Table) (made : IsMadeOf now beside table)
    (all : List Definition) (listed : IsPermutation (definitions_in now) all) where
  abbrev sorted : List Found
  sorted = made.sorted

  amongs : All (IsAmong now) sorted
  amongs = All-permutation (IsAmong now) now sorted made.permutation (among now nexts)

  sorted_own : HaveOwnPaths sorted
  sorted_own = IsDistinct-IsPermutation path_eq path_flips (paths_of now) (paths_of sorted)
      (IsPermutation-map (λ d. d.decl.path) now sorted made.permutation) (own_paths now nexts apart)

  sorted_all : IsPermutation (definitions_in sorted) all
  sorted_all = IsPermutation-trans (definitions_in sorted) (definitions_in now) all
      (IsPermutation-sym (definitions_in now) (definitions_in sorted) (IsPermutation-map (λ d. definition_in d.decl) now sorted made.permutation)) listed

  -- two definitions of one path are one
  one_definition : (x y : Definition) → Contains all x → Contains all y → path_to x ≡ path_to y → x ≡ y
  one_definition x y in_x in_y e =
      let back = IsPermutation-sym (definitions_in now) all listed in
      let cx = Contains-permutation all (definitions_in now) x back in_x in
      let cy = Contains-permutation all (definitions_in now) y back in_y in
      let i : ℕ = cx.0 in
      let j : ℕ = cy.0 in
      let hi : i < length now = omega (arith, cx.1, length-map now (λ f. definition_in f.decl)) in
      let hj : j < length now = omega (arith, cy.1, length-map now (λ f. definition_in f.decl)) in
      let d : Found = (at_some now i hi).0 in
      let is_i : x ≡ definition_in (get_or now i d).decl = sym cx.2 ∙ get_or-map (λ f. definition_in f.decl) now i d x hi in
      let is_j : y ≡ definition_in (get_or now j d).decl = sym cy.2 ∙ get_or-map (λ f. definition_in f.decl) now j d y hj in
      let paths : (get_or now i d).decl.path ≡ (get_or now j d).decl.path =
      sym (path-among now (get_or now i d) (among now nexts i d hi)) ∙ ap path_to (sym is_i) ∙ e ∙ ap path_to is_j ∙ path-among now (get_or now j d) (among now nexts j d hj) in
      is_i ∙ ap (λ n. definition_in (get_or now n d).decl) (one_place now nexts apart i j d hi hj paths) ∙ sym is_j

  pub all_own : IsDistinct path_eq (map path_to all)
  all_own = IsDistinct-IsPermutation path_eq path_flips (map path_to (definitions_in now)) (map path_to all)
      (IsPermutation-map path_to (definitions_in now) all listed)
      (subst (IsDistinct path_eq) (paths_to now now (among now nexts)) (own_paths now nexts apart))

  pub at_path : (path : SymPath) → decl_in table path ≡ option_map decl_of (find (λ d. path_eq path (path_to d)) all)
  at_path path =
      (λ i. option_and_then (slice_get (made.decls i)) (position (path_eq path) (made.paths i)))
      ∙ looked_up (λ d. d.decl.path) (λ d. d.decl) (path_eq path) sorted
      ∙ find-map (λ d. definition_in d.decl) (λ d. d.decl) decl_of (λ d. path_eq path d.decl.path) (λ d. path_eq path (path_to d)) sorted
      (All-weaker (IsAmong now) (λ d. (path_eq path d.decl.path ≡ path_eq path (path_to (definition_in d.decl))) × (decl_of (definition_in d.decl) ≡ d.decl))
      (λ d is. (ap (path_eq path) (sym (path-among now d is)), decl-among now d is)) sorted amongs)
      ∙ ap (option_map decl_of) (find-IsPermutation (λ d. path_eq path (path_to d)) (definitions_in sorted) all sorted_all
      (λ x y in_x in_y p q. one_definition x y in_x in_y (sym ((path-exact path (path_to x)).0 p) ∙ (path-exact path (path_to y)).0 q)))

  -- ---- what one owner owns

  abbrev stands : List SymStep → Found → Bool
  stands steps d = is_same_path (definition_in d.decl).owner steps

  by_number : (owner : Option ℕ) → IsOwner now owner → owned_by sorted owner ≡ filter (stands (owner_steps now owner)) sorted
  by_number owner owned = filter_alike (is_owned owner) (stands (owner_steps now owner)) sorted
      (All-weaker (IsAmong now) (λ d. is_owned owner d ≡ stands (owner_steps now owner) d) (λ d is. owned-below now d is apart owner owned) sorted amongs)

  record IsNumbered (f : Found) : Type 0 where
    owned : IsOwner now (Some f.number)
    steps : owner_steps now (Some f.number) ≡ f.decl.path.steps

  numbered : All IsNumbered now
  numbered at d h =
      let f : Found = get_or now at d in
      let place : f.number ≡ at = number-at now nexts at d h ∙ length-take-le at now (omega (arith, h)) in
      record { owned = omega (arith, place, h); steps = ap (λ n. owner_steps now (Some n)) place ∙ steps_at now at d h }

  all_numbered : All IsNumbered sorted
  all_numbered = All-permutation IsNumbered now sorted made.permutation numbered

  -- no definition stands below a path that none has
  unowned_path : (step : SymStep) (steps : List SymStep) → All (λ d. path_eq (path_of (step ∷ steps)) d.decl.path ≡ false) sorted → All (λ d. stands (step ∷ steps) d ≡ false) sorted
  unowned_path step steps none = All-weaker (IsAmong now) (λ d. stands (step ∷ steps) d ≡ false) (λ d is. false_from_ne_true _ (λ h. owner_none d is h)) sorted amongs
    where
      none_now : All (λ d. path_eq (path_of (step ∷ steps)) d.decl.path ≡ false) now
      none_now = All-permutation (λ d. path_eq (path_of (step ∷ steps)) d.decl.path ≡ false) sorted now (IsPermutation-sym now sorted made.permutation) none

      by : (o : Option ℕ) → IsOwner now o → owner_steps now o ≡ step ∷ steps → ⊥
      by None owned e = cc
      by (Some n) owned e =
          let one = at_some now n owned in
          false≢true (sym (none_now n one.0 owned)
          ∙ (path-exact (path_of (step ∷ steps)) (get_or now n one.0).decl.path).1 (λ i. record { steps = (sym e ∙ steps_at now n one.0 owned) i }))

      owner_none : (d : Found) → IsAmong now d → is_same_path (definition_in d.decl).owner (step ∷ steps) ≡ true → ⊥
      owner_none d is h = by d.owner is.owned (sym (owner-among now d is) ∙ ap (λ p. p.steps) ((path-exact _ _).0 h))

  with_place : (step : SymStep) (steps : List SymStep) (n : ℕ) (b : Bool) → nat_lt n (length (paths_of sorted)) ≡ b → position_or_len (path_eq (path_of (step ∷ steps))) (paths_of sorted) ≡ n
      → part sorted (unwrap_or (option_and_then (λ place. slice_get table.groups place) (cond b (Some n) None)) no_group) ≡ filter (stands (step ∷ steps)) sorted
  with_place step steps n false h at =
      let path : SymPath = path_of (step ∷ steps) in
      let lost : All (λ p. path_eq path p ≡ false) (paths_of sorted) = no_place (path_eq path) (paths_of sorted) (ap (λ m. nat_lt m (length (paths_of sorted))) at ∙ h) in
      no_part sorted ∙ sym (filter_none (stands (step ∷ steps)) sorted (unowned_path step steps
      (λ k d lt. ap (path_eq path) (sym (get_or-map (λ f. f.decl.path) sorted k d d.decl.path lt)) ∙ lost k d.decl.path (omega (arith, lt, length-map sorted (λ f. f.decl.path))))))
  with_place step steps n true h at =
      let path : SymPath = path_of (step ∷ steps) in
      let within : n < length sorted = omega (arith, ltb-true n (length (paths_of sorted)) h, length-map sorted (λ f. f.decl.path)) in
      let f : Found = (at_some sorted n within).0 in
      let one : Found = get_or sorted n f in
      let spot : position (path_eq path) (paths_of sorted) ≡ Some n =
      (λ i. cond (nat_lt (at i) (length (paths_of sorted))) (Some (at i)) None) ∙ ap (λ b. cond b (Some n) None) h in
      let found = (position-Some (path_eq path) (paths_of sorted) n path spot) in
      let read : path ≡ one.decl.path = (path-exact path _).0 found.1 ∙ get_or-map (λ f. f.decl.path) sorted n f path within in
      let is : IsNumbered one = all_numbered n f within in
      ap (part sorted) (unwrap_or-slice_get table.groups n no_group)
      ∙ made.groups.each n f no_group within
      ∙ by_number (Some one.number) is.owned
      ∙ ap (λ s. filter (stands s) sorted) (is.steps ∙ sym (ap (λ p. p.steps) read))

  owned_is : (steps : List SymStep) → part sorted (group_at table steps) ≡ filter (stands steps) sorted
  owned_is [] = made.root ∙ by_number None tt
  owned_is (step ∷ steps) =
      (λ i. part sorted (unwrap_or (option_and_then (λ place. slice_get table.groups place) (position (path_eq (path_of (step ∷ steps))) (made.paths i))) no_group))
      ∙ with_place step steps (position_or_len (path_eq (path_of (step ∷ steps))) (paths_of sorted)) (nat_lt (position_or_len (path_eq (path_of (step ∷ steps))) (paths_of sorted)) (length (paths_of sorted))) refl refl

  owned_decls : (owner : SymPath) → owned_in table owner ≡ decls_of (filter (stands owner.steps) sorted)
  owned_decls owner =
      ap (λ ds. part ds (group_at table owner.steps)) made.decls ∙ part-map (λ d. d.decl) sorted (group_at table owner.steps)
      ∙ ap decls_of (owned_is owner.steps)

  pub same_paths : (owner : SymPath) → paths_in table owner ≡ map (λ decl. decl.path) (owned_in table owner)
  same_paths owner =
      ap (λ ps. part ps (group_at table owner.steps)) made.paths
      ∙ ap (λ ps. part ps (group_at table owner.steps)) (sym (map_map sorted))
      ∙ part-map (λ decl. decl.path) (decls_of sorted) (group_at table owner.steps)
      ∙ ap (λ ds. map (λ decl. decl.path) (part ds (group_at table owner.steps))) (sym made.decls)
    where
      map_map : (ds : List Found) → map (λ decl. decl.path) (decls_of ds) ≡ paths_of ds
      map_map [] = refl
      map_map (d ∷ ds) = ap (λ ps. d.decl.path ∷ ps) (map_map ds)

  -- ---- in order

  earlier_less : (steps : List SymStep) (i j : ℕ) (d : Found) → i < j → j < length sorted → stands steps (get_or sorted i d) ≡ true → stands steps (get_or sorted j d) ≡ true
      → decl_cmp (get_or sorted i d).decl (get_or sorted j d).decl ≡ Less
  earlier_less steps i j d h k p q =
      let x : Found = get_or sorted i d in
      let y : Found = get_or sorted j d in
      let is_x : IsAmong now x = amongs i d (omega (arith, h, k)) in
      let is_y : IsAmong now y = amongs j d k in
      let same : y.owner ≡ x.owner = apart.each y.owner x.owner is_y.owned is_x.owned
      (sym (owner-among now y is_y) ∙ ap (λ p. p.steps) ((path-exact _ _).0 q) ∙ sym (ap (λ p. p.steps) ((path-exact _ _).0 p)) ∙ owner-among now x is_x) in
      let later : is_lt (found_cmp y x) ≡ false = sorted_far (λ a b. is_lt (found_cmp a b)) found_ranks sorted made.in_order i j d (omega (arith, h)) k in
      let level : nat_cmp (owner_rank y.owner) (owner_rank x.owner) ≡ Equal = ap (λ o. nat_cmp (owner_rank o) (owner_rank x.owner)) same ∙ ranks_itself (owner_rank x.owner) in
      let below : is_lt (decl_cmp y.decl x.decl) ≡ false = ap (λ o. is_lt (ordering_then o (decl_cmp y.decl x.decl))) (sym level) ∙ later in
      let back : decl_cmp x.decl y.decl ≡ ordering_reverse (decl_cmp y.decl x.decl) = (options_total step_total).antisymm (last_step x.decl.path.steps) (last_step y.decl.path.steps) in
      back ∙ turned (decl_cmp y.decl x.decl) below (λ e. different x y is_x is_y same e (distinct i j d h k) (in_now i d (omega (arith, h, k))) (in_now j d k))
    where
      in_now : (n : ℕ) (d : Found) → n < length sorted → Contains now (get_or sorted n d)
      in_now n d h = Contains-permutation sorted now (get_or sorted n d) (IsPermutation-sym now sorted made.permutation) (Contains-get_or sorted n d h)

      distinct : (i j : ℕ) (d : Found) → i < j → j < length sorted → (get_or sorted i d).decl.path ≡ (get_or sorted j d).decl.path → ⊥
      distinct i j d h k e =
          false≢true (sym (apart_from_distinct path_eq (paths_of sorted) i j d.decl.path sorted_own h (omega (arith, k, length-map sorted (λ f. f.decl.path))))
          ∙ (λ t. path_eq (get_or-map (λ f. f.decl.path) sorted i d d.decl.path (omega (arith, h, k)) t) (get_or-map (λ f. f.decl.path) sorted j d d.decl.path k t))
          ∙ (path-exact _ _).1 e)

      different : (x y : Found) → IsAmong now x → IsAmong now y → y.owner ≡ x.owner → decl_cmp y.decl x.decl ≡ Equal → (x.decl.path ≡ y.decl.path → ⊥) → Contains now x → Contains now y → ⊥
      different x y is_x is_y same e apart_paths cx cy =
          let twin = twins (definition_in y.decl).own (definition_in x.decl).own ((λ i. option_cmp step_cmp (sym (last-among now y is_y) i) (sym (last-among now x is_x) i)) ∙ e) in
          let at : get_or now cx.0 x ≡ x = cx.2 in
          let there : get_or now cy.0 x ≡ y = get_or_default now cy.0 x y cy.1 ∙ cy.2 in
          ⊎_elim
          (λ (one : cx.0 ≡ cy.0). apart_paths (ap (λ (f : Found). f.decl.path) (sym at ∙ ap (λ n. get_or now n x) one ∙ there)))
          (λ n. ⊎_elim
          (λ (up : cx.0 < cy.0). apart_paths (ap (λ (f : Found). f.decl.path) (sym at)
          ∙ one_path now nexts apart cx.0 cy.0 x up cy.1 (ap (λ (f : Found). f.owner) at ∙ sym same ∙ ap (λ (f : Found). f.owner) (sym there))
          (subst (λ (z : Found × Found). AreTwins (definition_in z.0.decl).own (definition_in z.1.decl).own) (λ i. (sym at i, sym there i))
          (record { name = sym twin.name; space = sym twin.space; ordinal = sym twin.ordinal }))
          ∙ ap (λ (f : Found). f.decl.path) there))
          (λ (down : cy.0 < cx.0). apart_paths (sym (ap (λ (f : Found). f.decl.path) (sym there)
          ∙ one_path now nexts apart cy.0 cx.0 x down cx.1 (ap (λ (f : Found). f.owner) there ∙ same ∙ ap (λ (f : Found). f.owner) (sym at))
          (subst (λ (z : Found × Found). AreTwins (definition_in z.0.decl).own (definition_in z.1.decl).own) (λ i. (sym there i, sym at i)) twin)
          ∙ ap (λ (f : Found). f.decl.path) at)))
          n)
          (cases_order cx.0 cy.0)

  in_order : (steps : List SymStep) → AllPairs (λ a b. decl_cmp a b ≡ Less) (decls_of (filter (stands steps) sorted))
  in_order steps i j d h k =
      let ys : List Found = filter (stands steps) sorted in
      let long = length-map ys (λ f. f.decl) in
      let f : Found = (at_some ys j (omega (arith, k, long))).0 in
      let pairs : AllPairs (λ x y. stands steps x ≡ true → stands steps y ≡ true → decl_cmp x.decl y.decl ≡ Less) ys =
      AllPairs-filter (λ x y. stands steps x ≡ true → stands steps y ≡ true → decl_cmp x.decl y.decl ≡ Less) (stands steps) sorted (λ a b o up within. earlier_less steps a b o up within) in
      let pass = filter_passes (stands steps) sorted in
      (λ t. decl_cmp (get_or-map (λ (g : Found). g.decl) ys i f d (omega (arith, h, k, long)) t) (get_or-map (λ (g : Found). g.decl) ys j f d (omega (arith, k, long)) t))
      ∙ pairs i j f h (omega (arith, k, long)) (pass i f (omega (arith, h, k, long))) (pass j f (omega (arith, k, long)))

  pub by_owner : (owner : SymPath) → IsOwned all owner (owned_in table owner)
  by_owner owner =
      let q : Definition → Bool = λ d. is_same_path d.owner owner.steps in
      let same : map decl_of (filter q (definitions_in sorted)) ≡ owned_in table owner =
      sym (owned_decls owner ∙ through (λ d. definition_in d.decl) (stands owner.steps) q (λ d. d.decl) decl_of sorted
      (All-weaker (IsAmong now) (λ d. (stands owner.steps d ≡ q (definition_in d.decl)) × (d.decl ≡ decl_of (definition_in d.decl))) (λ d is. (refl, sym (decl-among now d is))) sorted amongs)) in record {
        complete = subst (IsPermutation (map decl_of (filter q all))) same
            (IsPermutation-map decl_of (filter q all) (filter q (definitions_in sorted))
            (IsPermutation-filter q all (definitions_in sorted) (IsPermutation-sym (definitions_in sorted) all sorted_all)));
        in_order = strictly decl_cmp (owned_in table owner) (subst (AllPairs (λ a b. decl_cmp a b ≡ Less)) (sym (owned_decls owner)) (in_order owner.steps));
      }
