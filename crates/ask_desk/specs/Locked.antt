-- What holds of the desk's state whenever its lock is free.
use Rattle.std.specs.Prelude.{◌≡◌, ℕ, ◌≤◌, Bool, true, false, IsTrue, if◌then◌else◌, List, length, slice_get, Option, Some, None, is_some}
use Rattle.std.specs.Option.{option_and_then}
use Rattle.ask_history.specs.Journal.{accepted, is_settled}
use Rattle.response_cell.specs.declared.cells.Cell.{Cell}
use Rattle.response_cell.specs.declared.cells.Cell.TheVariants.{Empty, Set, Taken}
use Rattle.response_cell.specs.Cells.{answer_in}
use Rattle.work_queue.specs.Queue.{QueueState}
use Rattle.work_queue.specs.declared.limits.Limits.{Limits}
use Rattle.counting_word.specs.declared.view.Entry.{Entry}
use Rattle.counting_word.specs.History.{journal_of, has}
use Rattle.ask_desk.specs.Answers.{answer_of, is_rightful}

-- no answer was put there yet
abbrev pub is_blank : Option Cell → Bool
is_blank None = true
is_blank (Some Empty) = true
is_blank (Some (Set answer)) = false
is_blank (Some Taken) = false

-- The queue's journal is that of the history, and its limits are those that the history carries. Each event was made by
-- one who may, and each settling has its answer. The cell of a ticket holds the answer of its settling where that stands
-- and was not given yet. The cells of tickets that are not settled are empty.
pub record IsDesk (queue : QueueState) (cells : List Cell) (history : List Entry) (given : List ℕ) (limits : Limits) : Type 0 where
  pub journal : journal_of history ≡ queue.journal
  pub carried : queue.limits ≡ limits
  pub rightful : IsTrue (is_rightful false history)
  pub answered : (ticket : ℕ) → is_some (answer_of history ticket) ≡ is_settled (journal_of history) ticket
  pub covered : accepted (journal_of history) ≤ length cells
  pub blank : (ticket : ℕ) → is_settled (journal_of history) ticket ≡ false → IsTrue (is_blank (slice_get cells ticket))
  pub held : (ticket : ℕ) → option_and_then answer_in (slice_get cells ticket) ≡ (if has given ticket then None else answer_of history ticket)

-- the queue's state that a history tells
abbrev pub told : List Entry → Limits → QueueState
told history limits = record { journal = journal_of history; limits = limits; given = 0 }

-- Every ticket that was given is settled.
abbrev pub AreSettled : List ℕ → List Entry → Type 0
AreSettled given history = (ticket : ℕ) → IsTrue (has given ticket) → IsTrue (is_settled (journal_of history) ticket)
