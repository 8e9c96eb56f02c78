-- What a log keeps beside its journal.
use Rattle.std.specs.Prelude.{◌≡◌, ℕ, ◌+◌, ◌<◌, ◌≤◌, nat_lt, if◌then◌else◌, List, length, None, is_some, unwrap_or, IsTrue, slice_index_or, vec_len, vec_capacity}
use Rattle.std.specs.List.{sum_by}
use Rattle.ask_history.specs.Journal.{accepted}
use Rattle.ask_history.specs.Legal.{is_legal}
use Rattle.ask_history.specs.declared.events.Event.{Event}
use Rattle.work_queue.specs.Indexes.{accept_index, cancel_index, settle_index, close_index}
use Rattle.work_queue.specs.declared.log.Indexes.{Indexes}
use Rattle.work_queue.specs.declared.log.Log.TheInside.{Inside}

-- the journal indexes of a ticket's events
abbrev pub indexes_of : List Event → ℕ → Indexes
indexes_of journal t = record { accept = unwrap_or (accept_index journal t) 0; cancel = cancel_index journal t; settle = settle_index journal t }

-- how many events may yet come of a ticket: its Settle, and before that its Cancel
abbrev pub events_left : Indexes → ℕ
events_left indexes = if is_some indexes.settle then 0 else (if is_some indexes.cancel then 1 else 2)

-- The indexes are those of the accepted tickets, and tell them all.
pub record IsNoted (journal : List Event) (indexes : List Indexes) : Type 0 where
  pub count : length indexes ≡ accepted journal
  pub tickets : (t : ℕ) → is_some (accept_index journal t) ≡ nat_lt t (length indexes)
  pub uncancelled : (t : ℕ) → length indexes ≤ t → cancel_index journal t ≡ None
  pub unsettled : (t : ℕ) → length indexes ≤ t → settle_index journal t ≡ None
  pub each : (t : ℕ) (d : Indexes) → t < length indexes → slice_index_or indexes t d ≡ indexes_of journal t
  pub legal : IsTrue (is_legal journal)

-- Room is made for the events that are promised: the shutdown, and what may yet come of each ticket.
pub record IsLog (log : Inside) : Type 0 where
  pub noted : IsNoted log.events.items log.indexes.items
  pub closed : log.closed ≡ close_index log.events.items
  pub promised : log.promised ≡ sum_by events_left log.indexes.items + (if is_some log.closed then 0 else 1)
  pub room : vec_len log.events + log.promised ≤ vec_capacity log.events
