-- What a history says of the answers of its calls, and of who may make which event.
use Rattle.std.specs.Prelude.{ℕ, Bool, true, ◌&&◌, ◌||◌, ◌==◌, if◌then◌else◌, List, [], ◌∷◌, map, Option, Some, None}
use Rattle.ask_history.specs.Journal.{settles, is_close, is_closed}
use Rattle.ask_history.specs.Closing.{open_tickets, settled}
use Rattle.ask_history.specs.declared.answers.Answer.{Answer}
use Rattle.ask_history.specs.declared.answers.Answer.TheVariants as answer
use Rattle.ask_history.specs.declared.events.Event.{Event}
use Rattle.ask_history.specs.declared.events.Event.TheVariants.{Close, Settle, Checked}
use Rattle.counting_word.specs.declared.view.Entry.{Entry}
use Rattle.counting_word.specs.declared.view.Found.{Found}
use Rattle.counting_word.specs.declared.view.Found.TheVariants.{Nothing, Answered, Problems}
use Rattle.counting_word.specs.declared.view.Name.{Name}
use Rattle.counting_word.specs.declared.view.View.{View}
use Rattle.counting_word.specs.History.{engine_number}
use Rattle.counting_word.specs.Views.{appended}
use Rattle.counting_word.specs.Calls.{entry_of}

abbrev pub found_answer : Found → Option Answer
found_answer Nothing = None
found_answer (Answered answer) = Some answer
found_answer (Problems problems) = None

-- the answer with which a ticket is settled
abbrev pub answer_of : List Entry → ℕ → Option Answer
answer_of [] ticket = None
answer_of (entry ∷ history) ticket = if settles ticket entry.event then found_answer entry.found else answer_of history ticket

-- whether this author may make an event, before the shutdown or after it: checks are the engine's, and so are settlings
-- before the shutdown
abbrev pub may_make : Bool → Event → ℕ → Bool
may_make closed (Checked file) author = author == engine_number
may_make closed (Settle ticket mark) author = closed || (author == engine_number)
may_make closed _ author = true

-- every event was made by one who may
abbrev pub is_rightful : Bool → List Entry → Bool
is_rightful closed [] = true
is_rightful closed (entry ∷ history) = may_make closed entry.event entry.author && is_rightful (closed || is_close entry.event) history

-- what an event finds that a caller makes: a settling, which a caller makes at the shutdown alone, has the answer Closed
abbrev pub callers_find : Event → Found
callers_find (Settle ticket mark) = Answered answer.Closed
callers_find _ = Nothing

abbrev pub caller_entry : Name → Event → Entry
caller_entry name event = entry_of name event (callers_find event)

-- a view that has put these events of a caller after what it had seen
abbrev pub written : View → List Event → View
written view [] = view
written view (event ∷ events) = written (appended view (caller_entry view.name event)) events

-- the entries of these events of a caller, in this name
abbrev pub entries_for : Name → List Event → List Entry
entries_for name events = map (caller_entry name) events

-- what a shutdown appends: Close where none stands, and then the settlings of the open tickets
abbrev pub closing : List Event → List Event
closing journal = if is_closed journal then [] else Close ∷ settled (open_tickets journal)
