-- What is seen of a memo: a finite map of the items that have a value, and the list of those that are locked.
use Rattle.std.specs.Prelude.{◌≡◌, Bool, List, [], ◌∷◌, ◌++◌, Option, Some, if◌then◌else◌}
use Rattle.indexmap.specs.IndexMap.{get}
use Rattle.indexmap.specs.IndexSet.{contains}
use Rattle.pc_terms.specs.declared.items.Item.{Item}
use Rattle.pc_terms.specs.declared.items.ItemValue.{ItemValue}
use Rattle.pc_terms.specs.declared.items.ItemValue.TheVariants as value_of
use Rattle.lazy_completion.specs.declared.memo.Memo.{Memo}
use Rattle.lazy_completion.specs.Fitting.{item_eq}

-- the value that the memo has for an item
abbrev pub value : Memo → Item → Option ItemValue
value memo k = get item_eq memo.values k

-- the locked items, in the order in which they were locked
abbrev pub locked : Memo → List Item
locked memo = memo.locked.keys

abbrev pub is_locked : Memo → Item → Bool
is_locked memo k = contains item_eq memo.locked k

-- The last locked item has this value now, and is locked no more.
pub record Settles (old new : Memo) (given : ItemValue) : Type 0 where
  pub last : Item
  pub others : List Item
  pub was : locked old ≡ others ++ last ∷ []
  pub now : locked new ≡ others
  pub values : (k : Item) → value new k ≡ (if item_eq last k then Some given else value old k)

-- All that were locked are cyclic now, and none is locked.
pub record SettlesCyclic (old new : Memo) : Type 0 where
  pub now : locked new ≡ []
  pub values : (k : Item) → value new k ≡ (if is_locked old k then Some value_of.Cyclic else value old k)
