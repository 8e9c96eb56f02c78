-- The packages that are opened one after the other.
use Rattle.std.proofs.Common.{◌≡◌, ℕ, ◌+◌, ◌<◌, Bool, true, false, cond, List, [], ◌∷◌, ◌++◌, map, length, take, get_or, Option, refl, sym, ap, subst, ◌∙◌, append_assoc, append-nil}
use Rattle.std.specs.List.{flat_map}
use Rattle.std.proofs.lemmas.List.{map-append, map_more, take_more}
use Rattle.std.proofs.lemmas.List.Concat.{flat_map-append}
use Rattle.pc_terms.specs.declared.symbols.SymPath.{SymPath}
use Rattle.pc_terms.specs.declared.symbols.SymStep.{SymStep}
use Rattle.positioned_trees.specs.declared.details.Name.{Name}
use Rattle.positioned_trees.specs.declared.trees.Tree.{Tree}
use Rattle.positioned_trees.specs.declared.trees.Tree.TheViews.{out-Tree}
use Rattle.symbol_table.specs.declared.definitions.Found.{Found}
use Rattle.symbol_table.specs.Definitions.{Definition, Opening, path_to, decl_of, is_prelude, opened_in, clause_openings, openings_of, is_known, new_among}
use Rattle.symbol_table.specs.Entering.{decls_of}
use Rattle.symbol_table.specs.Found.{IsOwner, owner_steps}
use Rattle.symbol_table.specs.Opened.{Opens, paths_of, opening, opening_steps}
use Rattle.symbol_table.specs.Owners.{package_names, package_step, package_of}
use Rattle.symbol_table.specs.Symbols.{plain_flags}

-- ---- those that are new

abbrev IsNewAmong : List Definition → List Definition → List SymPath → Type 0
IsNewAmong xs ys known = new_among known (xs ++ ys) ≡ new_among known xs ++ new_among (known ++ map path_to (new_among known xs)) ys

one_more : (known : List SymPath) (d : Definition) (xs ys : List Definition) (b : Bool) → IsNewAmong xs ys known → IsNewAmong xs ys (known ++ path_to d ∷ [])
    → cond b (new_among known (xs ++ ys)) (d ∷ new_among (known ++ path_to d ∷ []) (xs ++ ys))
    ≡ cond b (new_among known xs) (d ∷ new_among (known ++ path_to d ∷ []) xs)
    ++ new_among (known ++ map path_to (cond b (new_among known xs) (d ∷ new_among (known ++ path_to d ∷ []) xs))) ys
one_more known d xs ys true here more = here
one_more known d xs ys false here more =
    ap (λ ds. d ∷ ds) more
    ∙ ap (λ ks. d ∷ new_among (known ++ path_to d ∷ []) xs ++ new_among ks ys) (append_assoc known (path_to d ∷ []) (map path_to (new_among (known ++ path_to d ∷ []) xs)))

pub new_among-append : (known : List SymPath) (xs ys : List Definition)
    → new_among known (xs ++ ys) ≡ new_among known xs ++ new_among (known ++ map path_to (new_among known xs)) ys
new_among-append known [] ys = ap (λ ks. new_among ks ys) (sym (append-nil known))
new_among-append known (d ∷ xs) ys =
    one_more known d xs ys (is_known known d) (new_among-append known xs ys) (new_among-append (known ++ path_to d ∷ []) xs ys)

abbrev pub opened_by : ℕ → List SymStep → Opening → Definition
opened_by file outer o = record { owner = outer; own = package_step o.name; file = file; node = o.node; label_span = o.name.span; flags = plain_flags (is_prelude file) }

opened_in-append : (file : ℕ) (outer : List SymStep) (xs ys : List Opening)
    → opened_in file outer (xs ++ ys) ≡ opened_in file outer xs ++ opened_in file (outer ++ opening_steps xs) ys
opened_in-append file outer [] ys = ap (λ steps. opened_in file steps ys) (sym (append-nil outer))
opened_in-append file outer (o ∷ xs) ys =
    (λ i. opened_by file outer o ∷ opened_in-append file (outer ++ package_step o.name ∷ []) xs ys i)
    ∙ ap (λ steps. opened_by file outer o ∷ opened_in file (outer ++ package_step o.name ∷ []) xs ++ opened_in file steps ys)
    (append_assoc outer (package_step o.name ∷ []) (opening_steps xs))

-- ---- one after the other

paths-decls : (more : List Found) → paths_of more ≡ map (λ d. d.path) (decls_of more)
paths-decls [] = refl
paths-decls (d ∷ more) = ap (λ ps. d.decl.path ∷ ps) (paths-decls more)

paths-new : (ds : List Definition) → map (λ d. d.path) (map decl_of ds) ≡ map path_to ds
paths-new [] = refl
paths-new (d ∷ ds) = ap (λ ps. path_to d ∷ ps) (paths-new ds)

pub Opens-none : (file : ℕ) (outer : Option ℕ) (found : List Found) → IsOwner found outer → Opens file (owner_steps found outer) [] found found outer
Opens-none file outer found owned = record {
  more = [];
  found = sym (append-nil found);
  decls = refl;
  owner = owned;
  path = sym (append-nil (owner_steps found outer));
}

pub Opens-append : (file : ℕ) (outer : List SymStep) (xs ys : List Opening) (a b c : List Found) (one other : Option ℕ)
    → Opens file outer xs a b one → Opens file (owner_steps b one) ys b c other → Opens file outer (xs ++ ys) a c other
Opens-append file outer xs ys a b c one other p q =
    let known : paths_of b ≡ paths_of a ++ map path_to (new_among (paths_of a) (opened_in file outer xs)) =
    ap paths_of p.found ∙ map-append (λ d. d.decl.path) a p.more
    ∙ ap (λ ps. paths_of a ++ ps) (paths-decls p.more ∙ ap (map (λ d. d.path)) p.decls ∙ paths-new (new_among (paths_of a) (opened_in file outer xs))) in
    let next : decls_of q.more ≡ map decl_of (new_among (paths_of a ++ map path_to (new_among (paths_of a) (opened_in file outer xs))) (opened_in file (outer ++ opening_steps xs) ys)) =
    q.decls ∙ (λ i. map decl_of (new_among (known i) (opened_in file (p.path i) ys))) in record {
      more = p.more ++ q.more;
      found = q.found ∙ ap (λ f. f ++ q.more) p.found ∙ append_assoc a p.more q.more;
      decls = map-append (λ d. d.decl) p.more q.more ∙ (λ i. p.decls i ++ next i)
          ∙ sym (ap (λ ds. map decl_of (new_among (paths_of a) ds)) (opened_in-append file outer xs ys)
          ∙ ap (map decl_of) (new_among-append (paths_of a) (opened_in file outer xs) (opened_in file (outer ++ opening_steps xs) ys))
          ∙ map-append decl_of (new_among (paths_of a) (opened_in file outer xs)) _);
      owner = q.owner;
      path = q.path ∙ ap (λ steps. steps ++ opening_steps ys) p.path ∙ append_assoc outer (opening_steps xs) (opening_steps ys)
          ∙ ap (λ steps. outer ++ steps) (sym (map-append (λ o. package_step o.name) xs ys));
    }

-- one name more of a clause
pub Opens-name : (file : ℕ) (outer : List SymStep) (node : ℕ) (names : List Name) (count : ℕ) (name : Name) (a b c : List Found) (one other : Option ℕ)
    → count < length names → name ≡ get_or names count name
    → Opens file outer (map (opening node) (take count names)) a b one → Opens file (owner_steps b one) (opening node name ∷ []) b c other
    → Opens file outer (map (opening node) (take (count + 1) names)) a c other
Opens-name file outer node names count name a b c one other within read p q =
    subst (λ os. Opens file outer os a c other)
    (sym (map_more (opening node) names count name within ∙ ap (λ n. map (opening node) (take count names) ++ opening node n ∷ []) (sym read)))
    (Opens-append file outer (map (opening node) (take count names)) (opening node name ∷ []) a b c one other p q)

-- one clause more of a source
pub Opens-clause : (file : ℕ) (outer : List SymStep) (kids : List Tree) (count : ℕ) (kid : Tree) (a b c : List Found) (one other : Option ℕ)
    → count < length kids → kid ≡ get_or kids count kid
    → Opens file outer (flat_map clause_openings (take count kids)) a b one → Opens file (owner_steps b one) (clause_openings kid) b c other
    → Opens file outer (flat_map clause_openings (take (count + 1) kids)) a c other
Opens-clause file outer kids count kid a b c one other within read p q =
    subst (λ os. Opens file outer os a c other)
    (sym (ap (flat_map clause_openings) (take_more kids count kid within ∙ ap (λ k. take count kids ++ k ∷ []) (sym read))
    ∙ flat_map-append clause_openings (take count kids) (kid ∷ [])
    ∙ ap (λ os. flat_map clause_openings (take count kids) ++ os) (append-nil (clause_openings kid))))
    (Opens-append file outer (flat_map clause_openings (take count kids)) (clause_openings kid) a b c one other p q)

-- ---- the package of a source

clause_steps : (clause : Tree) (names : List Name) → opening_steps (map (λ name. record { name = name; node = (out-Tree clause).id }) names) ≡ map package_step names
clause_steps clause [] = refl
clause_steps clause (name ∷ names) = ap (λ steps. package_step name ∷ steps) (clause_steps clause names)

kids_steps : (kids : List Tree) → opening_steps (flat_map clause_openings kids) ≡ map package_step (flat_map (λ kid. package_names (out-Tree kid).detail) kids)
kids_steps [] = refl
kids_steps (kid ∷ kids) =
    map-append (λ o. package_step o.name) (clause_openings kid) (flat_map clause_openings kids)
    ∙ (λ i. clause_steps kid (package_names (out-Tree kid).detail) i ++ kids_steps kids i)
    ∙ sym (map-append package_step (package_names (out-Tree kid).detail) (flat_map (λ other. package_names (out-Tree other).detail) kids))

-- what a source opens ends in its package
pub openings-package : (root : Tree) → opening_steps (openings_of root) ≡ package_of root
openings-package root = kids_steps (out-Tree root).kids
