-- The calls that wait to be served.
use Rattle.std.specs.Prelude.{◌≡◌, ℕ, ◌<◌, ◌^◌, true, false, List, length, Some}
use Rattle.ask_history.specs.Sources.{mutated}
use Rattle.ask_history.specs.Engine.{HasFileSizes, has_file_names}
use Rattle.ask_history.specs.Journal.{after, call_of, is_closed, is_settled}
use Rattle.ask_history.specs.declared.calls.Call.{Call}
use Rattle.ask_history.specs.declared.events.Event.{Event}

-- The ticket is not settled, and the session is not shut down.
pub record Waits (journal : List Event) (ticket : ℕ) : Type 0 where
  pub unshut : is_closed journal ≡ false
  pub unsettled : is_settled journal ticket ≡ false

-- The call of a ticket, which waits to be fed: an engine may be fed it.
pub record CanFeed (journal : List Event) (ticket : ℕ) (call : Call) : Type 0 where
  pub waiting : Waits journal ticket
  pub called : call_of journal ticket ≡ Some call
  pub sizes : HasFileSizes call
  pub names : has_file_names call ≡ true
  pub few : length (mutated (after journal) call) < 2 ^ 31
