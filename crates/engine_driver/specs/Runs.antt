-- What a driver puts into the history, tells and keeps.
use Rattle.std.specs.Prelude.{◌≡◌, ◌<◌, ◌≤◌, ◌⊎◌, ⊤, ℕ, ◌+◌, ◌==◌, true, not, if◌then◌else◌, List, [], ◌∷◌, ◌++◌, map, filter, Option, Some, None}
use Rattle.std.specs.List.{find, flat_map}
use Rattle.pc_terms.specs.declared.problems.Problem.{Problem}
use Rattle.ask_history.specs.Sources.{Bytes, Sources}
use Rattle.ask_history.specs.Engine.{EngineState, IsCheckOf, IsTicketOnTop, is_idle}
use Rattle.ask_history.specs.Journal.{accepted, after, is_cancelled, reply}
use Rattle.ask_history.specs.declared.answers.Answer.{Answer}
use Rattle.ask_history.specs.declared.calls.Call.{Call}
use Rattle.ask_history.specs.declared.events.Event.{Event}
use Rattle.ask_history.specs.declared.events.Event.TheVariants.{Settle, Checked}
use Rattle.report_hub.specs.Telling.{Finding}
use Rattle.engine_driver.specs.Board.{Awaits}
use Rattle.engine_driver.specs.History.{Entry, journal_of, IsLater}

-- ---- findings

abbrev pub finding_of : Event → Option (List Problem) → List Finding
finding_of (Checked file) (Some problems) = (file, problems) ∷ []
finding_of _ _ = []

-- what an entry tells of a file, where the driver made it
abbrev pub my_finding : Entry → List Finding
my_finding entry = if entry.mine then finding_of entry.event entry.problems else []

-- The findings of the driver's checks, in order.
abbrev pub my_findings : List Entry → List Finding
my_findings entries = flat_map my_finding entries

-- ---- entries

module _ (answer_of : Sources → Call → Answer) (problems_of : Sources → Bytes → List Problem) where
  -- What the driver may put after a journal: a settling whose answer is the reply there, or a check with the problems of the
  -- file over the sources there.
  abbrev pub IsRight : List Event → Event → Option Answer → Option (List Problem) → Type 0
  IsRight journal (Settle t m) answer problems = answer ≡ Some (reply answer_of journal t m)
  IsRight journal (Checked file) answer problems = problems ≡ Some (problems_of (after journal) file)
  IsRight journal _ answer problems = ⊥

  -- Of these entries, after this history, each of the driver's is right.
  abbrev pub AreRight : List Entry → List Entry → Type 0
  AreRight before [] = ⊤
  AreRight before (entry ∷ entries) =
      (entry.mine ≡ true → IsRight (journal_of before) entry.event entry.answer entry.problems) × AreRight (before ++ entry ∷ []) entries

  -- The history went on by these entries, of which each of the driver's is right. These are the findings of its checks.
  pub record Adds (old new : List Entry) (findings : List Finding) : Type 0 where
    pub entries : List Entry
    pub behind : new ≡ old ++ entries
    pub right : AreRight old entries
    pub checks : my_findings entries ≡ findings

  -- The driver went on with the history. The findings of its checks were told, and `found` grew by their problems.
  pub record Made (Told : List Finding → Type 0) (old new : List Entry) (found found' : List (List Problem)) : Type 0 where
    pub findings : List Finding
    pub adds : Adds old new findings
    pub told : Told findings
    pub grew : found' ≡ found ++ map (λ (finding : Finding). finding.1) findings

-- ---- rounds

-- What is seen of a driver, its engine and its history.
pub record DriverSeen : Type 0 where
  pub next : ℕ
  pub opened : List ℕ
  pub engine : EngineState
  -- the number that each tree lowers which the engine types
  pub left : ℕ
  pub history : List Entry

-- the open tickets without this one
abbrev pub without : ℕ → List ℕ → List ℕ
without ticket opened = filter (λ other. not (other == ticket)) opened

-- A turn went on: the engine typed, the ask on top was taken off, the first file that was due was checked or skipped, or
-- nothing was left to do, and more calls were awaited.
pub data TurnsOn (old new : DriverSeen) : Type 0 where
  Types : new.left < old.left → TurnsOn old new
  TakesOff : (ticket : ℕ) → IsTicketOnTop old.engine.asks ticket → new.opened ≡ without ticket old.opened → TurnsOn old new
  Checks : (file : Bytes) → IsCheckOf old.engine file → new.engine ≡ record old.engine { checked = old.engine.checked ++ file ∷ [] } → TurnsOn old new
  Skips : (file : Bytes) → IsCheckOf old.engine file → new.engine ≡ record old.engine { skipped = old.engine.skipped ++ file ∷ [] } → TurnsOn old new
  Waits : is_idle old.engine ≡ true → Awaits old.history new.history old.next → TurnsOn old new

-- What a round does after its look: it takes off the first of the open tickets of which a cancel stands. Where there is
-- none, it passes the next ticket, or, where none more is accepted, the engine makes a turn.
abbrev pub Does : Option ℕ → DriverSeen → DriverSeen → Type 0
Does (Some ticket) old new = new.opened ≡ without ticket old.opened
Does None old new =
    ((old.next < accepted (journal_of old.history)) × (new.next ≡ old.next + 1)) ⊎ ((accepted (journal_of old.history) ≤ old.next) × TurnsOn old new)

-- A round went on.
pub record GoesOn (old new : DriverSeen) : Type 0 where
  -- the history at its look
  pub looked : List Entry
  pub later : IsLater old.history looked
  -- and what was written after it
  pub more : List Entry
  pub behind : new.history ≡ looked ++ more
  pub cancelled : Option ℕ
  pub first : find (is_cancelled (journal_of looked)) old.opened ≡ cancelled
  pub does : Does cancelled (record old { history = looked }) new
