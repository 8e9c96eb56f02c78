-- What is known of the clients' part of a session that is shut down.
use Rattle.std.specs.Prelude.{◌≡◌, ℕ, ◌<◌, true, List, ◌++◌, map, Some, IfSome}
use Rattle.ask_history.specs.Journal.{accepted, is_closed, is_settled}
use Rattle.ask_history.specs.declared.events.Event.{Event}
use Rattle.counting_word.specs.declared.view.Entry.{Entry}
use Rattle.counting_word.specs.declared.view.View.{View}
use Rattle.counting_word.specs.History.{journal_of}
use Rattle.counting_word.specs.Calls.{Knows}
use Rattle.ask_desk.specs.Answers.{callers_find, closing}
use Rattle.session_threads.specs.Clients.{Each, HasPlayed}
use Rattle.session_threads.specs.declared.closing.Ended.{Ended}

-- The session is shut down in what a pass has seen, and every accepted call is settled there.
pub record IsShut (view : View) : Type 0 where
  pub knows : Knows view
  pub shut : is_closed (journal_of view.seen) ≡ true
  pub settled : (ticket : ℕ) → ticket < accepted (journal_of view.seen) → is_settled (journal_of view.seen) ticket ≡ true

-- the entries of these events of the pass of a number that posted nothing
abbrev pub entries_of : ℕ → List Event → List Entry
entries_of number events = map (λ (event : Event). record { event = event; author = number; found = callers_find event }) events

-- Each client has played until it had seen no more than `before`. After that the closing pass, of this number, shut the session
-- down, unless it was shut down; it made nothing else.
pub record HaveEnded {B : Type 0} (number : ℕ) (ended : Ended B) : Type 0 where
  pub before : List Entry
  pub named : ended.closing.name.number ≡ Some number
  pub seen : ended.closing.seen ≡ before ++ entries_of number (closing (journal_of before))
  pub own : ended.closing.name.own ≡ entries_of number (closing (journal_of before))
  pub shut : IsShut ended.closing
  pub played : IfSome ended.clients (λ all. Each (HasPlayed before) all.items)
