-- Which journals are those of clients that play their scripts.
use Rattle.std.specs.Prelude.{◌≡◌, ℕ, Bool, true, false, List, [], ◌∷◌, ◌++◌, slice_get, Some, None}
use Rattle.std.specs.List.{list_any, list_all}
use Rattle.ask_history.specs.Journal.{ticket_of}
use Rattle.ask_history.specs.declared.calls.Call.{Call}
use Rattle.ask_history.specs.declared.events.Event.{Event}
use Rattle.ask_history.specs.declared.events.Event.TheVariants.{Accept, Cancel, Close}
use Rattle.ask_history.specs.declared.script.Order.TheVariants as order
use Rattle.ask_history.specs.declared.script.Line.{Line}
use Rattle.ask_history.specs.declared.script.Script.{Script}
use Rattle.client_scripts.specs.Lines.{call_lines, next_number, has_close}
use Rattle.client_scripts.specs.Clients.{calls_of, is_answered, IsAtLine}

-- What a journal has of a client with this script.
pub record OfScript (c : ℕ) (lines : List Line) (journal : List Event) : Type 0 where
  -- The script has a beginning without a `close`. The client's accepted calls are the call lines of this beginning, in order,
  -- with their numbers as tags.
  pub front : List Line
  pub back : List Line
  pub begins : lines ≡ front ++ back
  pub calls : calls_of c journal ≡ call_lines 1 front
  pub unclosed : has_close front ≡ false
  -- Each is accepted only where what the lines above it wait for has come: the call of each `wait` is settled, and that of
  -- each `cancel` is cancelled or settled.
  pub accepts : (before behind : List Event) (t tag : ℕ) (call : Call) → journal ≡ before ++ Accept t c tag call ∷ behind
      → (line : IsAtLine c lines before (order.Call call)) × (tag ≡ next_number 1 line.above)
  -- A call of the client is cancelled only by a `cancel` of its script, where just the calls of the lines above that line
  -- are accepted.
  pub cancels : (before behind : List Event) (t tag : ℕ) → journal ≡ before ++ Cancel t ∷ behind → ticket_of journal c tag ≡ Some t
      → IsAtLine c lines before (order.Cancel tag)

-- Every call of a client's script is accepted and settled.
abbrev pub is_finished : ℕ → List Event → List Line → Bool
is_finished c journal lines = list_all (λ call. is_answered c journal call.0) (call_lines 1 lines)

-- A client is at the first `close` of its script: the calls of the lines above are accepted, and what these wait for has come.
pub record IsAtClose (scripts : List Script) (journal : List Event) : Type 0 where
  pub client : ℕ
  pub script : Script
  pub there : slice_get scripts client ≡ Some script
  pub line : IsAtLine client script.lines journal order.Close
  pub first : has_close line.above ≡ false

abbrev pub some_close : List Script → Bool
some_close scripts = list_any (λ script. has_close script.lines) scripts

-- A journal is that of clients, numbered from 0, that play these scripts.
pub record OfScripts (scripts : List Script) (journal : List Event) : Type 0 where
  pub each : (c : ℕ) (script : Script) → slice_get scripts c ≡ Some script → OfScript c script.lines journal
  -- no call is accepted that is not one of theirs
  pub only : (c : ℕ) → slice_get scripts c ≡ None → calls_of c journal ≡ []
  -- The session is shut down.
  pub before : List Event
  pub behind : List Event
  pub shut : journal ≡ before ++ Close ∷ behind
  -- Where no script has a `close`, every call line is accepted and settled before.
  pub finished : some_close scripts ≡ false → (c : ℕ) (script : Script) → slice_get scripts c ≡ Some script → is_finished c before script.lines ≡ true
  -- Else a script has one, and it stands after what the lines above that wait for.
  pub closer : some_close scripts ≡ true → IsAtClose scripts before
