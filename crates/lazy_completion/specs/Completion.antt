-- What a completion keeps of a memo, and what it makes of it.
use Rattle.std.specs.Prelude.{◌≡◌, ⊤, ℕ, ◌+◌, true, ◌||◌, List, [], ◌∷◌, Some, is_some, if◌then◌else◌}
use Rattle.item_questions.specs.Questions.{Asks, Needs, Infos, run}
use Rattle.item_questions.specs.Rounds.{is_item, Agrees}
use Rattle.pc_terms.specs.declared.items.Item.{Item}
use Rattle.pc_terms.specs.declared.items.ItemValue.{ItemValue}
use Rattle.lazy_completion.specs.declared.memo.Memo.{Memo}
use Rattle.lazy_completion.specs.Fitting.{item_eq}
use Rattle.lazy_completion.specs.Memo.{value, locked, is_locked}
use Rattle.lazy_completion.specs.Typing.{Asking, owned, infos, within, final_info}

-- The memo belongs to these items and their typing: each value is the one that the item has in the end of the rounds, and
-- is Cyclic only where the item is.
pub record IsOf (items : List Item) (typing : Item → Asking ItemValue) (memo : Memo) : Type 0 where
  pub so : Agrees (final_info items typing) (infos (value memo))
  pub listed : (k : Item) → is_some (value memo k) ≡ true → is_item item_eq items k ≡ true

-- no value was taken away, and none replaced
abbrev pub Keeps : Memo → Memo → Type 0
Keeps old new = (k : Item) (v : ItemValue) → value old k ≡ Some v → value new k ≡ Some v

module _ {K V : Type 0} (known : Infos K V) (typing : K → Asks K V V) where
  abbrev pub NeedsFirst : K → List K → Type 0
  NeedsFirst k [] = ⊤
  NeedsFirst k (next ∷ _) = run known (typing k) ≡ Needs next

  -- each item needs the next one
  abbrev pub Chained : List K → Type 0
  Chained [] = ⊤
  Chained (k ∷ later) = NeedsFirst k later × Chained later

-- In the midst of a completion: the memo is right, and the locked items, each of the list, need each other in their order.
pub record IsUnderWay (items : List Item) (typing : Item → Asking ItemValue) (memo : Memo) : Type 0 where
  pub right : IsOf items typing memo
  pub listed : (k : Item) → is_locked memo k ≡ true → is_item item_eq items k ≡ true
  pub chained : Chained (within items (infos (value memo))) (owned typing) (locked memo)

-- what was locked is locked, or has a value
abbrev pub StaysOrHas : Memo → Memo → Type 0
StaysOrHas old new = (k : Item) → is_locked old k ≡ true → (is_locked new k || is_some (value new k)) ≡ true

-- How far an item is from its value: it has to be locked, and then to be settled.
abbrev pub distance : Memo → Item → ℕ
distance memo k = if is_some (value memo k) then 0 else if is_locked memo k then 1 else 2

abbrev pub total : {K : Type 0} → (K → ℕ) → List K → ℕ
total weight [] = 0
total weight (k ∷ ks) = weight k + total weight ks
