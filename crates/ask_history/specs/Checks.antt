-- Which files are due for a check in the background, and when one begins.
use Rattle.std.specs.Prelude.{ℕ, zero, suc, Bool, not, ◌&&◌, if◌then◌else◌, List, [], ◌∷◌, ◌++◌}
use Rattle.ask_history.specs.Sources.{Bytes, unchecked, some_of}
use Rattle.ask_history.specs.Journal.{is_closed, all_settled, after, checked}
use Rattle.ask_history.specs.declared.events.Event.{Event}
use Rattle.ask_history.specs.declared.events.Event.TheVariants.{Checked}

-- The loaded files that were not checked since a mutation last took effect, in load order.
abbrev pub due : List Event → List Bytes
due journal = unchecked (checked journal) (after journal)

-- A check begins where no Close stands, no ticket is open and some file is due.
abbrev pub check_begins : List Event → Bool
check_begins journal = not (is_closed journal) && all_settled journal && some_of (due journal)

abbrev pub first_checked : List Bytes → List Event → List Event
first_checked [] journal = journal
first_checked (name ∷ names) journal = journal ++ Checked name ∷ []

-- The first due file is checked, where no Close stands and some file is due.
abbrev pub check_done : List Event → List Event
check_done journal = if is_closed journal then journal else first_checked (due journal) journal

-- So many checks, as far as they begin, with nothing in between.
abbrev pub checks_alone : ℕ → List Event → List Event
checks_alone zero journal = journal
checks_alone (suc count) journal = if check_begins journal then checks_alone count (check_done journal) else journal
