-- What is completed lazily: the parents of templates, the signatures of definitions, and the qualifiers of imports.
use Rattle.std.specs.Prelude.{ℕ, Bool, ◌||◌, if◌then◌else◌, List, [], ◌∷◌, ◌++◌, slice_get, unwrap_or, map, filter}
use Rattle.std.specs.List.{flat_map}
use Rattle.pc_terms.specs.Bytes.{Bytes}
use Rattle.pc_terms.specs.declared.items.Item.{Item}
use Rattle.pc_terms.specs.declared.items.Item.TheVariants as item
use Rattle.pc_terms.specs.declared.symbols.SymKind.{SymKind}
use Rattle.pc_terms.specs.declared.symbols.SymKind.TheVariants as symbol
use Rattle.pc_terms.specs.declared.symbols.SymPath.{SymPath}
use Rattle.pc_terms.specs.declared.tree_kinds.TreeKind.{TreeKind}
use Rattle.pc_terms.specs.declared.tree_kinds.TreeKind.TheVariants as kind
use Rattle.positioned_trees.specs.declared.details.Detail.{Detail}
use Rattle.positioned_trees.specs.declared.details.Detail.TheVariants as detail
use Rattle.positioned_trees.specs.declared.details.ImportClause.{ImportClause}
use Rattle.positioned_trees.specs.declared.trees.Tree.{Tree}
use Rattle.positioned_trees.specs.declared.trees.Tree.TheViews.{out-Tree}
use Rattle.symbol_table.specs.Definitions.{Definition, path_to, definitions}
use Rattle.symbol_table.specs.Owners.{are_live}
use Rattle.symbol_table.specs.Sites.{Site, all_sites}
use Rattle.symbol_table.specs.Symbols.{is_class_type, is_object}

-- a template has parents, everything but a package a signature
abbrev pub items_by : SymKind → SymPath → List Item
items_by symbol.Package path = []
items_by kind path =
    if is_class_type kind || is_object kind then item.Parents path ∷ item.Signature path ∷ []
    else item.Signature path ∷ []

abbrev pub items_of : Definition → List Item
items_of d = items_by d.own.kind (path_to d)

-- the clauses of an import, which stand one after another with commas between them
abbrev pub import_clauses : TreeKind → Detail → List ImportClause
import_clauses kind.Import (detail.Import clauses) = clauses
import_clauses _ _ = []

abbrev pub clauses_of : Tree → List ImportClause
clauses_of tree = import_clauses (out-Tree tree).kind (out-Tree tree).detail

-- a source's name, and its tree
pub record Source : Type 0 where
  pub name : Bytes
  pub root : Tree

abbrev pub roots_of : List Source → List Tree
roots_of sources = map (λ source. source.root) sources

abbrev pub names_of : List Source → List Bytes
names_of sources = map (λ source. source.name) sources

abbrev pub name_at : List Source → ℕ → Bytes
name_at sources file = unwrap_or (slice_get (names_of sources) file) []

abbrev pub is_live_site : List Tree → Site → Bool
is_live_site roots site = are_live roots site.file (site.kid ∷ site.around)

-- an import is named by its file and by the byte at which its clause starts
abbrev pub tree_qualifiers : Bytes → Tree → List Item
tree_qualifiers name tree = map (λ clause. item.Qualifier name clause.span.start) (clauses_of tree)

abbrev pub qualifiers_at : List Source → Site → List Item
qualifiers_at sources site = tree_qualifiers (name_at sources site.file) site.kid.tree

-- the imports of the sources, but those in what is refused
abbrev pub qualifiers : List Source → List Item
qualifiers sources = flat_map (qualifiers_at sources) (filter (is_live_site (roots_of sources)) (all_sites (roots_of sources)))

-- The items of some sources: those of each definition, then the qualifiers.
abbrev pub items : List Source → List Item
items sources = flat_map items_of (definitions (roots_of sources)) ++ qualifiers sources
