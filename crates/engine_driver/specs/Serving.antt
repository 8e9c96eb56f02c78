-- What holds of a driver between two of its rounds.
use Rattle.std.specs.Prelude.{◌≡◌, ℕ, ◌<◌, ◌≤◌, Bool, true, false, IsTrue, List, [], ◌++◌, map, Option, Some, None}
use Rattle.std.specs.List.{list_any, AllByRecursion}
use Rattle.std.specs.Str.{bytes_eq}
use Rattle.ask_history.specs.Sources.{Bytes, Sources, is_mutation}
use Rattle.ask_history.specs.Engine.{EngineState}
use Rattle.ask_history.specs.Journal.{accepted, after, call_of, checked, is_closed, is_settled, reply}
use Rattle.ask_history.specs.Legal.{is_legal, is_next}
use Rattle.ask_history.specs.declared.answers.Answer.{Answer}
use Rattle.ask_history.specs.declared.calls.Call.{Call}
use Rattle.ask_history.specs.declared.events.Event.{Event}
use Rattle.engine_driver.specs.History.{Entry, journal_of, IsLater}
use Rattle.engine_driver.specs.Board.{Waits, mark_of, value_of}

abbrev pub has_file : List Bytes → Bytes → Bool
has_file files file = list_any (bytes_eq file) files

-- Every file that is checked in the journal was checked or skipped by the engine.
abbrev pub AreChecked : List Event → EngineState → Type 0
AreChecked journal state = (file : Bytes) → has_file (checked journal) file ≡ true → has_file (state.checked ++ state.skipped) file ≡ true

-- An open ask of the engine is the call of its ticket, which was fed and is not settled.
pub record IsAsked (journal : List Event) (next : ℕ) (ask : ℕ × Call) : Type 0 where
  pub fed : ask.0 < next
  pub unsettled : is_settled journal ask.0 ≡ false
  pub called : call_of journal ask.0 ≡ Some ask.1
  pub asks : is_mutation ask.1 ≡ false

-- Before the shutdown: each call below the next ticket is settled, or is an open ask of the engine. Every mutation among
-- them is settled, so the next call may be settled too.
pub record Serves (journal : List Event) (state : EngineState) (next : ℕ) (opened : List ℕ) : Type 0 where
  pub within : next ≤ accepted journal
  pub first : IsTrue (is_next journal next)
  pub opens : opened ≡ map (λ (ask : ℕ × Call). ask.0) state.asks
  pub asked : AllByRecursion (IsAsked journal next) state.asks
  pub files : AreChecked journal state

-- The engine has the sources after the journal, and nothing is staged.
pub record Drives (journal : List Event) (state : EngineState) (next : ℕ) (opened : List ℕ) : Type 0 where
  pub legal : IsTrue (is_legal journal)
  pub sources : state.sources ≡ after journal
  pub staged : state.staged ≡ None
  pub serves : is_closed journal ≡ false → Serves journal state next opened

-- An engine that can be driven from here on: it has the sources after the journal, no call is open and nothing is staged,
-- and it checked or skipped what is checked there.
pub record CanDrive (journal : List Event) (state : EngineState) : Type 0 where
  pub sources : state.sources ≡ after journal
  pub asks : state.asks ≡ []
  pub staged : state.staged ≡ None
  pub files : AreChecked journal state

-- The session is shut down. The engine has the sources after the journal, no call is open and nothing is staged.
pub record IsServed (journal : List Event) (state : EngineState) : Type 0 where
  pub legal : IsTrue (is_legal journal)
  pub shut : is_closed journal ≡ true
  pub sources : state.sources ≡ after journal
  pub asks : state.asks ≡ []
  pub staged : state.staged ≡ None

-- ---- within a round

-- What was found for a ticket: whatever others do first, it gives the reply after them.
abbrev pub IsFound : (Sources → Call → Answer) → List Entry → ℕ → Option Answer → Type 0
IsFound answer_of history ticket found = (before : List Entry) → IsLater history before
    → reply (λ files call. value_of found) (journal_of before) ticket (mark_of found) ≡ reply answer_of (journal_of before) ticket (mark_of found)

-- The call of the next ticket is a mutation, and staged.
pub record IsStaging (journal : List Event) (state : EngineState) (next : ℕ) (opened : List ℕ) : Type 0 where
  pub call : Call
  pub staged : state.staged ≡ Some (next, call)
  pub mutates : is_mutation call ≡ true
  pub called : call_of journal next ≡ Some call
  pub waiting : Waits journal next
  pub drives : Drives journal (record state { staged = None }) next opened
