-- Rounds over a list of items: in each, all items are typed under the values of the round before, and those whose typing
-- is done get their values.
use Rattle.std.specs.Prelude.{◌≡◌, ℕ, zero, suc, Bool, if◌then◌else◌, List, length, Option, None, Some, option_map, Decides}
use Rattle.std.specs.List.{list_any}
use Rattle.item_questions.specs.Questions.{Info, Has, Cyclic, Asks, Answer, Known, Infos, run}

-- equality of keys is equality
abbrev pub IsExact : {K : Type 0} → (K → K → Bool) → Type 0
IsExact {K} eq = (x y : K) → Decides (eq x y) (x ≡ y)

-- whether the item is one of the list
abbrev pub is_item : {K : Type 0} → (K → K → Bool) → List K → K → Bool
is_item eq items k = list_any (eq k) items

-- the value of a typing that is done
abbrev pub done : {K V : Type 0} → Answer K V → Option V
done (Known v) = Some v
done _ = None

-- values alone, with no item marked as cyclic
abbrev pub values : {K V : Type 0} → (K → Option V) → Infos K V
values known k = option_map Has (known k)

-- what the earlier rounds gave, else what this one gives
abbrev pub earlier_or : {V : Type 0} → Option V → Option V → Option V
earlier_or (Some v) now = Some v
earlier_or None now = now

-- what the map knows of items is so
abbrev pub Agrees : {K V : Type 0} → (K → Info V) → Infos K V → Type 0
Agrees {K} {V} truth infos = (k : K) (i : Info V) → infos k ≡ Some i → truth k ≡ i

module _ {K V : Type 0} (eq : K → K → Bool) (items : List K) (typing : K → Asks K V V) where
  -- the value that a round adds, of an item that has none
  abbrev pub added : (K → Option V) → K → Option V
  added known k = if is_item eq items k then done (run (values known) (typing k)) else None

  -- what earlier rounds gave, and beside it all that this one adds
  abbrev pub next_round : (K → Option V) → K → Option V
  next_round known k = earlier_or (known k) (added known k)

  -- the values after so many rounds
  unfoldable pub known : ℕ → K → Option V
  known zero k = None
  known (suc n) k = next_round (known n) k

  -- the values after as many rounds as there are items
  abbrev pub known_star : K → Option V
  known_star = known (length items)

  -- what is so of an item in the end: it has a value, or it is cyclic
  abbrev pub final : K → Info V
  final k = elim (known_star k) as (λ _. Info V) [ Some v ↦ Has v | None ↦ Cyclic ]
