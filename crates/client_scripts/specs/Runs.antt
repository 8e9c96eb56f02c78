-- What a client did that played its script, and what all have done once the history is whole.
use Rattle.std.specs.Prelude.{◌≡◌, ◌⊎◌, ⊤, ℕ, ◌+◌, true, List, [], ◌∷◌, ◌++◌, length, slice_get, option_and_then, Option, Some, None}
use mathlib.Core.List.{IsPrefix}
use Rattle.ask_history.specs.Journal.{ticket_of, is_closed}
use Rattle.ask_history.specs.declared.answers.Answer.{Answer}
use Rattle.ask_history.specs.declared.answers.Answer.TheVariants as answer
use Rattle.ask_history.specs.declared.events.Event.{Event}
use Rattle.ask_history.specs.declared.events.Event.TheVariants.{Accept, Cancel, Close, Settle, Checked}
use Rattle.ask_history.specs.declared.script.Order.TheVariants as order
use Rattle.ask_history.specs.declared.script.Line.{Line}
use Rattle.ask_history.specs.declared.script.Script.{Script}
use Rattle.client_scripts.specs.Lines.{next_number}
use Rattle.client_scripts.specs.Clients.{calls_of, Stands, IsAtLine}
use Rattle.client_scripts.specs.OfScripts.{is_finished}
use Rattle.client_scripts.specs.History.{Entry, journal_of, signed_journal, answer_of, IsLater}

-- An event that a client may make after this history: that of a line of its script, after what the lines above it wait for;
-- or, after the shutdown, a settling, with the answer that the session is shut down.
abbrev pub IsRight : ℕ → List Line → List Entry → Event → Option Answer → Type 0
IsRight c lines before (Accept t client tag call) found =
    (client ≡ c) × ((line : IsAtLine c lines (signed_journal before) (order.Call call)) × (tag ≡ next_number 1 line.above))
IsRight c lines before (Cancel t) found =
    (tag : ℕ) × (ticket_of (signed_journal before) c tag ≡ Some t) × IsAtLine c lines (signed_journal before) (order.Cancel tag)
IsRight c lines before Close found = IsAtLine c lines (signed_journal before) order.Close
IsRight c lines before (Settle t mark) found = (is_closed (journal_of before) ≡ true) × (found ≡ Some answer.Closed)
IsRight c lines before (Checked file) found = ⊥

-- Of these entries, after this history, each of the client's is right.
abbrev pub AreRight : ℕ → List Line → List Entry → List Entry → Type 0
AreRight c lines before [] = ⊤
AreRight c lines before (entry ∷ entries) = (entry.author ≡ c → IsRight c lines before entry.event entry.answer) × AreRight c lines (before ++ entry ∷ []) entries

-- Each entry of a client in a history is that of a line of its script.
abbrev pub Runs : ℕ → List Line → List Entry → Type 0
Runs c lines history = AreRight c lines [] history

-- A client has played its script: the session is shut down, or the client is past all lines, and every call is settled.
abbrev pub HasEnded : ℕ → List Line → List Entry → Type 0
HasEnded c lines history =
    (is_closed (journal_of history) ≡ true)
    ⊎ (Stands c (signed_journal history) lines × (is_finished c (signed_journal history) lines ≡ true))

-- These are the answers of a client's accepted calls, in order.
pub record AreAnswers (c : ℕ) (history : List Entry) (answers : List Answer) : Type 0 where
  pub counted : length answers ≡ length (calls_of c (signed_journal history))
  pub each : (index : ℕ) (found : Answer) → slice_get answers index ≡ Some found
      → option_and_then (answer_of history) (ticket_of (signed_journal history) c (index + 1)) ≡ Some found

-- ---- all of them

-- A client played its script until it had seen this much of a history, and made nothing in it since.
pub record Played (c : ℕ) (lines : List Line) (seen history : List Entry) : Type 0 where
  pub runs : Runs c lines seen
  pub ended : HasEnded c lines seen
  pub later : IsLater c seen history

-- What a pass of no client may make after this history: it posts and cancels nothing, and shuts the session down only after
-- what each client has seen.
abbrev pub IsServants : List Script → (ℕ → List Entry) → List Entry → Event → Type 0
IsServants scripts seen before (Accept t client tag call) = ⊥
IsServants scripts seen before (Cancel t) = ⊥
IsServants scripts seen before Close = (c : ℕ) (script : Script) → slice_get scripts c ≡ Some script → IsPrefix (seen c) before
IsServants scripts seen before (Settle t mark) = ⊤
IsServants scripts seen before (Checked file) = ⊤

-- Each client has played its script, and whoever is no client made only what it may.
pub record AllPlayed (scripts : List Script) (seen : ℕ → List Entry) (history : List Entry) : Type 0 where
  pub clients : (c : ℕ) (script : Script) → slice_get scripts c ≡ Some script → Played c script.lines (seen c) history
  pub servants : (before behind : List Entry) (entry : Entry) → history ≡ before ++ entry ∷ behind → slice_get scripts entry.author ≡ None
      → IsServants scripts seen before entry.event
