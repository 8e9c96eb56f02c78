-- Which tickets are open, and what a shutdown appends.
use Rattle.std.specs.Prelude.{ℕ, zero, suc, if◌then◌else◌, List, [], ◌∷◌, ◌++◌, map}
use Rattle.ask_history.specs.Journal.{accepted, is_closed, is_open}
use Rattle.ask_history.specs.declared.events.Mark.TheVariants as mark
use Rattle.ask_history.specs.declared.events.Event.{Event}
use Rattle.ask_history.specs.declared.events.Event.TheVariants.{Close, Settle}

-- the open tickets below a number, in ascending order
abbrev pub open_below : List Event → ℕ → List ℕ
open_below journal zero = []
open_below journal (suc n) = open_below journal n ++ (if is_open journal n then n ∷ [] else [])

-- The open tickets, in ascending order.
abbrev pub open_tickets : List Event → List ℕ
open_tickets journal = open_below journal (accepted journal)

-- each of these tickets settled
abbrev pub settled : List ℕ → List Event
settled tickets = map (λ t. Settle t mark.Done) tickets

-- The journal after a shutdown: `Close` where none stands, and then the open tickets settled.
abbrev pub after_close : List Event → List Event
after_close journal = if is_closed journal then journal else journal ++ Close ∷ settled (open_tickets journal)
