-- What callers see of how far the checks have come.
use Rattle.std.specs.Prelude.{ℕ, ◌+◌, ◌≤◌, List, length, vec_capacity}
use Rattle.std.specs.VecDeque.{deque_capacity}
use Rattle.ask_history.specs.Sources.{Bytes}
use Rattle.compiler_loop.specs.declared.checks.Outcome.{Outcome}
use Rattle.compiler_loop.specs.declared.checks.Checks.{Checks}

-- the names of the files that are due
abbrev pub due_in : Checks → List Bytes
due_in checks = checks.due.items

-- what the checks of the files before these came to
abbrev pub outcomes_in : Checks → List Outcome
outcomes_in checks = checks.outcomes.items

-- there is room for so many files more, all due
pub record HasRoomIn (checks : Checks) (more : ℕ) : Type 0 where
  pub due : length checks.due.items + length checks.outcomes.items + more ≤ deque_capacity checks.due
  pub outcomes : length checks.due.items + length checks.outcomes.items + more ≤ vec_capacity checks.outcomes
