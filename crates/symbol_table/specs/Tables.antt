-- What is seen of a table of definitions, and what it owes.
use Rattle.std.specs.Prelude.{◌≡◌, ℕ, List, [], ◌∷◌, length, map, filter, find, slice_get, Option, option_map, option_and_then, unwrap_or}
use Rattle.std.specs.List.{IsDistinct, range_with_len}
use Rattle.std.specs.List.Sorted.{IsPermutation, IsStrictlySortedBy}
use Rattle.indexmap.specs.IndexSet.{index_of}
use Rattle.base_types.specs.declared.flags.Flags.{Flags}
use Rattle.pc_terms.specs.Bytes.{Bytes}
use Rattle.pc_terms.specs.declared.items.Item.{Item}
use Rattle.pc_terms.specs.declared.problems.Problem.{Problem}
use Rattle.pc_terms.specs.declared.symbols.SymPath.{SymPath}
use Rattle.pc_terms.specs.declared.symbols.SymStep.{SymStep}
use Rattle.type_substitution.specs.Substitution.{path_eq}
use Rattle.symbol_table.specs.declared.decls.Decl.{Decl}
use Rattle.symbol_table.specs.declared.groups.Group.{Group}
use Rattle.symbol_table.specs.declared.loading.Loaded.{Loaded}
use Rattle.symbol_table.specs.declared.table.Table.{Table}
use Rattle.symbol_table.specs.Definitions.{Definition, path_to, decl_of, definitions}
use Rattle.symbol_table.specs.Groups.{no_group, part}
use Rattle.symbol_table.specs.Items.{Source, roots_of, names_of, items}
use Rattle.symbol_table.specs.Order.{decl_cmp}
use Rattle.symbol_table.specs.Owners.{path_of, is_same_path}
use Rattle.symbol_table.specs.Problems.{problems}

-- ---- what is loaded

abbrev pub source_of : Loaded → Source
source_of loaded = record { name = loaded.name.now; root = loaded.unit.now.root }

abbrev pub sources_of : List Loaded → List Source
sources_of loaded = map source_of loaded

-- ---- what is seen

-- the position of a path among those of the table
abbrev pub place_of : Table → SymPath → Option ℕ
place_of table path = index_of path_eq table.paths path

abbrev pub decl_in : Table → SymPath → Option Decl
decl_in table path = option_and_then (λ place. slice_get table.decls place) (place_of table path)

abbrev pub items_in : Table → List Item
items_in table = table.items

abbrev pub file_names : Table → List Bytes
file_names table = table.names

abbrev pub file_problems : Table → List (List Problem)
file_problems table = table.problems

abbrev pub flags_at : Table → SymPath → Option Flags
flags_at table path = option_map (λ decl. decl.flags) (decl_in table path)

-- the positions of what an owner owns; the root has no path of its own in the table
abbrev pub group_at : Table → List SymStep → Group
group_at table [] = table.root
group_at table (step ∷ steps) =
    unwrap_or (option_and_then (λ place. slice_get table.groups place) (place_of table (path_of (step ∷ steps)))) no_group

abbrev pub owned_in : Table → SymPath → List Decl
owned_in table owner = part table.decls (group_at table owner.steps)

abbrev pub paths_in : Table → SymPath → List SymPath
paths_in table owner = part table.paths.keys (group_at table owner.steps)

-- ---- what one owner owns

-- These are all that the owner owns, each once, in order.
pub record IsOwned (all : List Definition) (owner : SymPath) (listed : List Decl) : Type 0 where
  pub complete : IsPermutation (map decl_of (filter (λ d. is_same_path d.owner owner.steps) all)) listed
  pub in_order : IsStrictlySortedBy decl_cmp listed

-- ---- the whole

-- the definition of a path
abbrev pub defined_at : List Source → SymPath → Option Definition
defined_at sources path = find (λ d. path_eq path (path_to d)) (definitions (roots_of sources))

-- The table of some sources.
pub record IsTable (sources : List Source) (table : Table) : Type 0 where
  -- no two definitions have one path
  pub own_paths : IsDistinct path_eq (map path_to (definitions (roots_of sources)))
  -- a path is in it exactly where it is that of a definition
  pub at_path : (path : SymPath) → decl_in table path ≡ option_map decl_of (defined_at sources path)
  pub by_owner : (owner : SymPath) → IsOwned (definitions (roots_of sources)) owner (owned_in table owner)
  pub same_paths : (owner : SymPath) → paths_in table owner ≡ map (λ decl. decl.path) (owned_in table owner)
  pub all_items : items_in table ≡ items sources
  pub all_names : file_names table ≡ names_of sources
  pub all_problems : file_problems table ≡ map (problems (roots_of sources)) (range_with_len 0 (length sources))
