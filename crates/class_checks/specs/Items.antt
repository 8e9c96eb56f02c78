-- What `==` of two items returns, and what a map of rows holds.
use Rattle.std.specs.Prelude.{Bool, List, [], Option, None, Some}
use Rattle.pc_terms.specs.declared.items.Item.{Item}
use Rattle.pc_terms.specs.contracts.items.ItemPartialEq.TheImpl as derived
use Rattle.pc_terms.specs.declared.symbols.SymPath.{SymPath}

abbrev pub item_eq : Item → Item → Bool
item_eq = (derived.ghosts).eq

abbrev pub row_of : Option (List SymPath) → List SymPath
row_of None = []
row_of (Some paths) = paths
