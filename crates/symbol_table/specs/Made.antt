-- A table that is made of definitions.
use Rattle.std.specs.Prelude.{◌≡◌, List, None, IsPermutation, IsSorted}
use Rattle.std.specs.List.{IsDistinct}
use Rattle.type_substitution.specs.Substitution.{path_eq}
use Rattle.symbol_table.specs.declared.definitions.Found.{Found}
use Rattle.symbol_table.specs.declared.table.Beside.{Beside}
use Rattle.symbol_table.specs.declared.table.Columns.{Columns}
use Rattle.symbol_table.specs.declared.table.Table.{Table}
use Rattle.symbol_table.specs.Groups.{part}
use Rattle.symbol_table.specs.Opened.{paths_of}
use Rattle.symbol_table.specs.Entering.{decls_of}
use Rattle.symbol_table.specs.Order.{found_cmp, owned_by, AreGroups}

-- each has a path of its own
abbrev pub HaveOwnPaths : List Found → Type 0
HaveOwnPaths found = IsDistinct path_eq (paths_of found)

-- the columns of definitions in this order
pub record AreColumns (found : List Found) (columns : Columns) : Type 0 where
  pub paths : columns.paths.keys ≡ paths_of found
  pub decls : columns.decls ≡ decls_of found

-- The table holds these definitions, in their order, and what stands beside them.
pub record IsMadeOf (found : List Found) (beside : Beside) (table : Table) : Type 0 where
  pub sorted : List Found
  pub permutation : IsPermutation found sorted
  pub in_order : IsSorted found_cmp sorted
  pub paths : table.paths.keys ≡ paths_of sorted
  pub decls : table.decls ≡ decls_of sorted
  pub groups : AreGroups sorted table.groups
  pub root : part sorted table.root ≡ owned_by sorted None
  pub items : table.items ≡ beside.items
  pub names : table.names ≡ beside.names
  pub problems : table.problems ≡ beside.problems
