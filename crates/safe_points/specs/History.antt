-- What the calls made on a stack, one after another, leave of it, and which tasks they leave stale. Of a list of calls
-- the latest is first.
use Rattle.std.specs.Prelude.{◌≡◌, ⊤, ℕ, Bool, true, false, ◌==◌, if◌then◌else◌, List, [], ◌∷◌, ◌++◌}
use Rattle.std.specs.Option.{option_map_or}
use Rattle.safe_points.specs.declared.ticketed.Ticketed.{Ticketed}
use Rattle.safe_points.specs.Stack.{has_ticket, is_on, top_of, removed, all_stale, refreshed, with_top_task}

-- A call that changes a stack.
pub data Change (T : Type 0) : Type 0 where
  Push : (ticket : ℕ) → (task : T) → Change T
  Work : (task : T) → Change T
  Remove : (ticket : ℕ) → Change T
  StaleAll : Change T
  RefreshTop : Change T

module _ {T : Type 0} where
  -- the stack after these calls
  abbrev pub after : List (Change T) → List (Ticketed T)
  after [] = []
  after (Push ticket task ∷ earlier) = after earlier ++ record { ticket = ticket; task = task; stale = false } ∷ []
  after (Work task ∷ earlier) = with_top_task (after earlier) task
  after (Remove ticket ∷ earlier) = removed (after earlier) ticket
  after (StaleAll ∷ earlier) = all_stale (after earlier)
  after (RefreshTop ∷ earlier) = refreshed (after earlier)

  -- no task was pushed under a ticket that was on the stack
  abbrev pub AreAllowed : List (Change T) → Type 0
  AreAllowed [] = ⊤
  AreAllowed (Push ticket task ∷ earlier) = (is_on (after earlier) ticket ≡ false) × AreAllowed earlier
  AreAllowed (_ ∷ earlier) = AreAllowed earlier

  -- whether the task of this ticket is on top
  abbrev pub is_top : List (Ticketed T) → ℕ → Bool
  is_top stack ticket = option_map_or (has_ticket ticket) (top_of stack) false

  -- Whether `stale_all` came after the last push of this ticket, and after the last `refresh_top` with its task on top.
  abbrev pub must_restart : List (Change T) → ℕ → Bool
  must_restart [] ticket = false
  must_restart (Push pushed task ∷ earlier) ticket = if pushed == ticket then false else must_restart earlier ticket
  must_restart (StaleAll ∷ earlier) ticket = true
  must_restart (RefreshTop ∷ earlier) ticket = if is_top (after earlier) ticket then false else must_restart earlier ticket
  must_restart (_ ∷ earlier) ticket = must_restart earlier ticket
