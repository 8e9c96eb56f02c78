-- The history: its entries in order. Each is an event with its author and what it found.
use Rattle.std.specs.Prelude.{ℕ, Bool, ◌==◌, ◌||◌, nat_lt, if◌then◌else◌, ⊤, List, [], ◌∷◌, map, filter, Option, Some, None, is_some}
use Rattle.std.specs.List.{list_any, list_all}
use mathlib.Core.List.{IsPrefix}
use Rattle.ask_history.specs.declared.events.Event.{Event}
use Rattle.ask_history.specs.Journal.{call_under}
use Rattle.counting_word.specs.declared.view.Entry.{Entry}

-- the journal that a history tells
abbrev pub journal_of : List Entry → List Event
journal_of history = map (λ entry. entry.event) history

-- the entries of this author
abbrev pub entries_by : ℕ → List Entry → List Entry
entries_by author history = filter (λ entry. entry.author == author) history

-- each of these lists begins this one
abbrev pub AllBegin : List (List Entry) → List Entry → Type 0
AllBegin [] history = ⊤
AllBegin (beginning ∷ beginnings) history = IsPrefix beginning history × AllBegin beginnings history

-- whose call has this ticket: the author of its first Accept
abbrev pub taker_of : List Entry → ℕ → Option ℕ
taker_of [] ticket = None
taker_of (entry ∷ history) ticket = if is_some (call_under ticket entry.event) then Some entry.author else taker_of history ticket

abbrev pub has : List ℕ → ℕ → Bool
has tickets ticket = list_any (λ other. other == ticket) tickets

-- the number of the engine's pass, which no client has
abbrev pub engine_number : ℕ
engine_number = 4294967296

-- the number of the engine's pass, or of one of so many passes that were made
abbrev pub is_made : ℕ → ℕ → Bool
is_made made number = (number == engine_number) || nat_lt number made

-- every author is the engine or one of so many passes
abbrev pub are_made : ℕ → List Entry → Bool
are_made made history = list_all (λ entry. is_made made entry.author) history
