-- Which journals are legal.
use Rattle.std.specs.Prelude.{ℕ, Bool, true, false, not, ◌&&◌, ◌==◌, nat_lt, List}
use Rattle.std.specs.List.{list_any}
use Rattle.std.specs.Str.{bytes_eq}
use Rattle.ask_history.specs.Sources.{is_mutation, is_loaded}
use Rattle.ask_history.specs.Walk.{along}
use Rattle.ask_history.specs.Journal.{accepted, is_closed, is_cancelled, is_settled, is_open, after, checked}
use Rattle.ask_history.specs.declared.events.Event.{Event}
use Rattle.ask_history.specs.declared.events.Event.TheVariants.{Accept, Cancel, Close, Settle, Checked}

-- an accepted mutation with a ticket below this one that is not settled
abbrev pub holds_back : List Event → ℕ → Event → Bool
holds_back journal t (Accept ticket client tag call) = nat_lt ticket t && is_mutation call && not (is_settled journal ticket)
holds_back _ _ _ = false

-- Every mutation with a ticket below this one is settled.
abbrev pub is_next : List Event → ℕ → Bool
is_next journal t = not (list_any (holds_back journal t) journal)

-- Whether an event may come directly after a journal.
--   A call is accepted under the next ticket, and not after the shutdown.
--   A cancel names an open ticket, once, and does not come after the shutdown.
--   There is one shutdown at most.
--   A settling names an open ticket, and comes after those of all earlier mutations.
--   A check names a loaded file that was not checked since a mutation last took effect, and not after the shutdown.
abbrev pub may_follow : List Event → Event → Bool
may_follow journal (Accept ticket client tag call) = (ticket == accepted journal) && not (is_closed journal)
may_follow journal (Cancel ticket) = is_open journal ticket && not (is_cancelled journal ticket) && not (is_closed journal)
may_follow journal Close = not (is_closed journal)
may_follow journal (Settle ticket mark) = is_open journal ticket && is_next journal ticket
may_follow journal (Checked file) = is_loaded (after journal) file && not (list_any (bytes_eq file) (checked journal)) && not (is_closed journal)

-- A journal is legal where each of its events may come after those before it.
abbrev pub is_legal : List Event → Bool
is_legal journal = along (λ before legal event. legal && may_follow before event) true journal
