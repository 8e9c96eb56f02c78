-- Which values fit an item.
use Rattle.std.specs.Prelude.{◌≡◌, Bool, true, false, ◌||◌, List, [], ◌∷◌, ◌++◌}
use Rattle.pc_terms.specs.declared.items.Item.{Item}
use Rattle.pc_terms.specs.declared.items.Item.TheVariants as item
use Rattle.pc_terms.specs.declared.items.ItemValue.{ItemValue}
use Rattle.pc_terms.specs.declared.items.ItemValue.TheVariants as value
use Rattle.pc_terms.specs.contracts.items.ItemPartialEq.TheImpl as derived

-- what `==` of two items returns
abbrev pub item_eq : Item → Item → Bool
item_eq = (derived.ghosts).eq

abbrev pub are_parents : ItemValue → Bool
are_parents (value.Parents _) = true
are_parents _ = false

abbrev pub is_signature : ItemValue → Bool
is_signature (value.Signature _) = true
is_signature _ = false

abbrev pub is_qualifier : ItemValue → Bool
is_qualifier (value.Qualifier _) = true
is_qualifier _ = false

-- the value is an ordinary one of the item's own variant
abbrev pub is_own : Item → ItemValue → Bool
is_own (item.Parents _) v = are_parents v
is_own (item.Signature _) v = is_signature v
is_own (item.Qualifier _ _) v = is_qualifier v

abbrev pub is_cyclic : ItemValue → Bool
is_cyclic value.Cyclic = true
is_cyclic _ = false

-- the value is of the item's own variant, or Cyclic
abbrev pub fits : Item → ItemValue → Bool
fits k v = is_own k v || is_cyclic v

-- the value fits the last of these items
abbrev pub FitsLast : List Item → ItemValue → Type 0
FitsLast ks v = (others : List Item) (last : Item) → ks ≡ others ++ last ∷ [] → fits last v ≡ true
