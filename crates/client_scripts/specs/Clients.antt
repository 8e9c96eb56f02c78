-- What a journal has of one client.
use Rattle.std.specs.Prelude.{◌≡◌, ℕ, Bool, true, false, ◌||◌, ◌==◌, if◌then◌else◌, List, [], ◌∷◌, ◌++◌, Option, Some, None}
use Rattle.std.specs.List.{flat_map, list_all}
use Rattle.ask_history.specs.Journal.{ticket_of, is_settled, is_cancelled, is_closed}
use Rattle.ask_history.specs.declared.calls.Call.{Call}
use Rattle.ask_history.specs.declared.events.Event.{Event}
use Rattle.ask_history.specs.declared.events.Event.TheVariants.{Accept}
use Rattle.ask_history.specs.declared.script.Order.{Order}
use Rattle.ask_history.specs.declared.script.Order.TheVariants as order
use Rattle.ask_history.specs.declared.script.Line.{Line}
use Rattle.client_scripts.specs.Lines.{call_lines}

-- the call of a client that an event accepts, with its tag
abbrev pub call_in : ℕ → Event → List (ℕ × Call)
call_in c (Accept ticket client tag call) = if client == c then (tag, call) ∷ [] else []
call_in c _ = []

-- The accepted calls of a client, with their tags, in order.
abbrev pub calls_of : ℕ → List Event → List (ℕ × Call)
calls_of c journal = flat_map (call_in c) journal

-- a call was accepted under a ticket, and the ticket passes
abbrev pub passes : (ℕ → Bool) → Option ℕ → Bool
passes test None = false
passes test (Some ticket) = test ticket

-- The call of a client with this number is accepted and settled.
abbrev pub is_answered : ℕ → List Event → ℕ → Bool
is_answered c journal number = passes (is_settled journal) (ticket_of journal c number)

-- It is accepted, and cancelled or settled.
abbrev pub is_ended : ℕ → List Event → ℕ → Bool
is_ended c journal number = passes (λ t. is_cancelled journal t || is_settled journal t) (ticket_of journal c number)

-- Whether what a line of a client waits for has come.
--   The call of a `wait` is settled. That of a `cancel` is cancelled or settled. Below `close` the shutdown stands.
abbrev pub has_come : ℕ → List Event → Order → Bool
has_come c journal (order.Wait number) = is_answered c journal number
has_come c journal (order.Cancel number) = is_ended c journal number
has_come c journal order.Close = is_closed journal
has_come c journal _ = true

-- A client is past these lines of its script, where a journal stands so: its accepted calls are those of these lines, and
-- what the lines wait for has come.
pub record Stands (c : ℕ) (journal : List Event) (above : List Line) : Type 0 where
  pub calls : calls_of c journal ≡ call_lines 1 above
  pub come : list_all (λ line. has_come c journal line.order) above ≡ true

-- A line of the script has this order, and the client is past the lines above it.
pub record IsAtLine (c : ℕ) (lines : List Line) (journal : List Event) (meant : Order) : Type 0 where
  pub above : List Line
  pub line : Line
  pub below : List Line
  pub split : lines ≡ above ++ line ∷ below
  pub orders : line.order ≡ meant
  pub stands : Stands c journal above
