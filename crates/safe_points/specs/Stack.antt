-- What the calls of a stack of tasks do. A stack is the list of its tasks from bottom to top.
use Rattle.std.specs.Prelude.{◌≡◌, ⊤, ℕ, Bool, true, false, not, ◌&&◌, ◌==◌, List, [], ◌∷◌, filter, find, map, Option, Some, None}
use Rattle.std.specs.List.{list_any}
use Rattle.std.specs.Option.{option_map}
use Rattle.safe_points.specs.declared.ticketed.Ticketed.{Ticketed}

-- no two of these tickets are one
abbrev pub AreDistinct : List ℕ → Type 0
AreDistinct [] = ⊤
AreDistinct (ticket ∷ above) = (list_any (λ other. other == ticket) above ≡ false) × AreDistinct above

module _ {T : Type 0} where
  -- ---- what is asked of a stack

  abbrev pub ticket_of : Ticketed T → ℕ
  ticket_of ticketed = ticketed.ticket

  abbrev pub tickets : List (Ticketed T) → List ℕ
  tickets stack = map ticket_of stack

  abbrev pub has_ticket : ℕ → Ticketed T → Bool
  has_ticket ticket ticketed = ticketed.ticket == ticket

  -- whether a task with this ticket is on the stack
  abbrev pub is_on : List (Ticketed T) → ℕ → Bool
  is_on stack ticket = list_any (has_ticket ticket) stack

  -- the ticketed of the task on top
  abbrev pub top_of : List (Ticketed T) → Option (Ticketed T)
  top_of [] = None
  top_of (ticketed ∷ []) = Some ticketed
  top_of (ticketed ∷ next ∷ above) = top_of (next ∷ above)

  -- the task of this ticket
  abbrev pub task_of : List (Ticketed T) → ℕ → Option T
  task_of stack ticket = option_map (λ ticketed. ticketed.task) (find (has_ticket ticket) stack)

  -- whether the task of this ticket is on the stack and stale
  abbrev pub has_stale : List (Ticketed T) → ℕ → Bool
  has_stale stack ticket = list_any (λ ticketed. has_ticket ticket ticketed && ticketed.stale) stack

  -- ---- what becomes of it

  -- without the task of this ticket
  abbrev pub removed : List (Ticketed T) → ℕ → List (Ticketed T)
  removed stack ticket = filter (λ ticketed. not (has_ticket ticket ticketed)) stack

  abbrev pub marked : Ticketed T → Ticketed T
  marked ticketed = record ticketed { stale = true }

  -- with every task stale
  abbrev pub all_stale : List (Ticketed T) → List (Ticketed T)
  all_stale stack = map marked stack

  -- with the ticketed on top changed, where there is one
  abbrev pub top_changed : (Ticketed T → Ticketed T) → List (Ticketed T) → List (Ticketed T)
  top_changed change [] = []
  top_changed change (ticketed ∷ []) = change ticketed ∷ []
  top_changed change (ticketed ∷ next ∷ above) = ticketed ∷ top_changed change (next ∷ above)

  abbrev pub unmarked : Ticketed T → Ticketed T
  unmarked ticketed = record ticketed { stale = false }

  -- with the task on top not stale
  abbrev pub refreshed : List (Ticketed T) → List (Ticketed T)
  refreshed stack = top_changed unmarked stack

  abbrev pub with_task : T → Ticketed T → Ticketed T
  with_task task ticketed = record ticketed { task = task }

  -- with this as the task on top
  abbrev pub with_top_task : List (Ticketed T) → T → List (Ticketed T)
  with_top_task stack task = top_changed (with_task task) stack
