-- Where the events of a ticket stand in a journal: their journal indices, from 0.
use Rattle.std.specs.Prelude.{ℕ, Bool, List, Option}
use Rattle.std.specs.List.{position_from}
use Rattle.ask_history.specs.Journal.{cancels, settles, is_close}
use Rattle.ask_history.specs.declared.events.Event.{Event}

-- the journal index of the first event that passes
abbrev pub index_of : (Event → Bool) → List Event → Option ℕ
index_of test journal = position_from test 0 journal

abbrev pub cancel_index : List Event → ℕ → Option ℕ
cancel_index journal t = index_of (cancels t) journal

abbrev pub settle_index : List Event → ℕ → Option ℕ
settle_index journal t = index_of (settles t) journal

-- the journal index of the shutdown
abbrev pub close_index : List Event → Option ℕ
close_index journal = index_of is_close journal
