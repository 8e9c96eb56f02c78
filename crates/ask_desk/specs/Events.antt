-- Single events.
use Rattle.std.specs.Prelude.{ℕ, Option, Some, None}
use Rattle.ask_history.specs.declared.events.Event.{Event}
use Rattle.ask_history.specs.declared.events.Event.TheVariants.{Settle}

-- the ticket that an event settles
abbrev pub settled_ticket : Event → Option ℕ
settled_ticket (Settle ticket mark) = Some ticket
settled_ticket _ = None
