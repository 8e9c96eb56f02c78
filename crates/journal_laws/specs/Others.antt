-- What others than the engine's driver do to a journal.
use Rattle.std.specs.Prelude.{Bool, true, false, ◌&&◌, ◌||◌, List, [], ◌∷◌}
use Rattle.ask_history.specs.Journal.{is_close}
use Rattle.ask_history.specs.declared.events.Event.{Event}
use Rattle.ask_history.specs.declared.events.Event.TheVariants.{Settle, Checked}

-- an event that others than the engine's driver may make, where the shutdown stands before it or not: no check, and a
-- settling only after the shutdown
abbrev pub is_others : Bool → Event → Bool
is_others closed (Checked file) = false
is_others closed (Settle ticket mark) = closed
is_others closed _ = true

-- Each of these events may be made by others, where the shutdown stands before them or not.
abbrev pub are_others : Bool → List Event → Bool
are_others closed [] = true
are_others closed (event ∷ events) = is_others closed event && are_others (closed || is_close event) events
