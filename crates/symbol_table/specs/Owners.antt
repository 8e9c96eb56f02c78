-- Who owns a tree, which trees define symbols, and by which path.
use Rattle.std.specs.Prelude.{ℕ, Bool, true, false, not, ◌&&◌, ◌||◌, if◌then◌else◌, List, [], ◌∷◌, ◌++◌, map, take, filter, count_by}
use Rattle.std.specs.List.{flat_map}
use Rattle.std.specs.Str.{bytes_eq}
use Rattle.pc_terms.specs.declared.symbols.SymKind.{SymKind}
use Rattle.pc_terms.specs.declared.symbols.SymKind.TheVariants as symbol
use Rattle.pc_terms.specs.declared.symbols.SymPath.{SymPath}
use Rattle.pc_terms.specs.declared.symbols.SymStep.{SymStep}
use Rattle.pc_terms.specs.declared.tree_kinds.TreeKind.TheVariants as kind
use Rattle.positioned_trees.specs.declared.details.Detail.{Detail}
use Rattle.positioned_trees.specs.declared.details.Detail.TheVariants as detail
use Rattle.positioned_trees.specs.declared.details.Name.{Name}
use Rattle.positioned_trees.specs.declared.trees.Tree.{Tree}
use Rattle.positioned_trees.specs.declared.trees.Tree.TheViews.{out-Tree}
use Rattle.type_substitution.specs.Substitution.{path_eq}
use Rattle.symbol_table.specs.Sites.{Kid, Site}
use Rattle.symbol_table.specs.Symbols.{symbol_in, is_local, is_def, stands_wrongly, space_of, is_same_space}

-- ---- the package of a source (SLS 9.2)

abbrev pub path_of : List SymStep → SymPath
path_of steps = record { steps = steps }

abbrev pub is_same_path : List SymStep → List SymStep → Bool
is_same_path a b = path_eq (path_of a) (path_of b)

abbrev pub package_names : Detail → List Name
package_names (detail.Package names) = names
package_names _ = []

abbrev pub package_step : Name → SymStep
package_step name = record { kind = symbol.Package; name = name.text; ordinal = 0 }

-- The package of a source: the names of its package clauses, in order. Without a clause it has no step: the empty package.
abbrev pub package_of : Tree → List SymStep
package_of root = map package_step (flat_map (λ kid. package_names (out-Tree kid).detail) (out-Tree root).kids)

-- ---- what a tree defines

-- what a tree defines where these stand around it; the root of a source is its Unit
abbrev pub symbol_at : Tree → List Kid → SymKind
symbol_at tree [] = symbol.Local
symbol_at tree (root ∷ []) = symbol_in kind.Unit tree
symbol_at tree (parent ∷ next ∷ outer) = symbol_in (out-Tree parent.tree).kind tree

abbrev pub defines_at : Tree → List Kid → Bool
defines_at tree around = not (is_local (symbol_at tree around))

-- two trees that stand at one place define symbols of one name and one space
abbrev pub are_rivals : Tree → Tree → List Kid → Bool
are_rivals a b around =
    defines_at a around && defines_at b around && bytes_eq (out-Tree a).label (out-Tree b).label
    && is_same_space (space_of (symbol_at a around)) (space_of (symbol_at b around))

-- the trees directly in the sources before this one that are of its package
abbrev pub of_package_before : List Tree → ℕ → Tree → List Tree
of_package_before roots file root =
    flat_map (λ other. if is_same_path (package_of other) (package_of root) then (out-Tree other).kids else []) (take file roots)

-- what stands in other sources and comes before all that stands directly in the innermost of these
abbrev pub in_earlier_sources : List Tree → ℕ → List Kid → List Tree
in_earlier_sources roots file (root ∷ []) = of_package_before roots file root.tree
in_earlier_sources roots file _ = []

-- The trees before a tree that have its owner: where it stands directly in its source, those in earlier sources of the same
-- package; and those before it in the same tree.
abbrev pub earlier : List Tree → ℕ → Kid → List Kid → List Tree
earlier roots file kid around = in_earlier_sources roots file around ++ kid.before

-- the kinds of the earlier definitions of the same name, owner and space
abbrev pub rivals : List Tree → ℕ → Kid → List Kid → List SymKind
rivals roots file kid around =
    map (λ other. symbol_at other around) (filter (λ other. are_rivals other kid.tree around) (earlier roots file kid around))

-- ---- what can own

-- each tree around a tree, but the root, defines a symbol: so what stands in a block has no owner here
abbrev pub has_owner : List Kid → Bool
has_owner [] = false
has_owner (root ∷ []) = true
has_owner (parent ∷ next ∷ outer) = defines_at parent.tree (next ∷ outer) && has_owner (next ∷ outer)

-- ---- what is treated as broken

-- A definition may follow these of its name, owner and space: where it is the first, and where it and the first are methods.
abbrev pub may_follow : List SymKind → SymKind → Bool
may_follow [] own = true
may_follow (first ∷ others) own = is_def first && is_def own

-- a second definition
abbrev pub is_second : List Tree → ℕ → Kid → List Kid → Bool
is_second roots file kid around =
    defines_at kid.tree around && not (may_follow (rivals roots file kid around) (symbol_at kid.tree around))

-- a template directly in a class or trait
abbrev pub is_misplaced : Tree → List Kid → Bool
is_misplaced tree (parent ∷ next ∷ outer) = stands_wrongly (out-Tree parent.tree).kind (out-Tree tree).kind
is_misplaced _ _ = false

abbrev pub is_refused : List Tree → ℕ → Kid → List Kid → Bool
is_refused roots file kid around =
    has_owner around && (is_misplaced kid.tree around || is_second roots file kid around)

-- none of these is refused, of which each stands in the next
abbrev pub are_live : List Tree → ℕ → List Kid → Bool
are_live roots file [] = true
are_live roots file (kid ∷ around) = not (is_refused roots file kid around) && are_live roots file around

-- ---- symbols

-- A tree defines a symbol: it stands where a definition may, directly in what defines one, and neither it nor one around it
-- is refused.
abbrev pub defines : List Tree → Site → Bool
defines roots site =
    defines_at site.kid.tree site.around && has_owner site.around && are_live roots site.file (site.kid ∷ site.around)

-- of a method the number of earlier ones of its name and owner
abbrev pub ordinal_after : List SymKind → SymKind → ℕ
ordinal_after earlier_kinds symbol.Def = count_by is_def earlier_kinds
ordinal_after earlier_kinds _ = 0

abbrev pub step_at : List Tree → ℕ → Kid → List Kid → SymStep
step_at roots file kid around = record {
  kind = symbol_at kid.tree around;
  name = (out-Tree kid.tree).label;
  ordinal = ordinal_after (rivals roots file kid around) (symbol_at kid.tree around);
}

-- The owner of what stands directly in the innermost of these: the package of the source, and the definitions around, from
-- the outermost.
abbrev pub owner_of : List Tree → ℕ → List Kid → List SymStep
owner_of roots file [] = []
owner_of roots file (root ∷ []) = package_of root.tree
owner_of roots file (parent ∷ next ∷ outer) = owner_of roots file (next ∷ outer) ++ step_at roots file parent (next ∷ outer) ∷ []
