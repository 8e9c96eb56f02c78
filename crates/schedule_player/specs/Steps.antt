-- What the steps of playing a schedule do to the journal and to the lines that are left.
use Rattle.std.specs.Prelude.{◌≡◌, ◌<◌, ⊤, ℕ, Bool, true, false, not, ◌&&◌, ◌||◌, if◌then◌else◌, List, [], ◌∷◌, ◌++◌, length, Option, Some, None, is_some, slice_index_or, Result, Ok, Err}
use Rattle.std.specs.List.{list_all}
use Rattle.ask_history.specs.Sources.{Bytes, Sources, some_of}
use Rattle.ask_history.specs.Journal.{accepted, call_of, reply}
use Rattle.ask_history.specs.Checks.{due, check_begins, checks_alone}
use Rattle.ask_history.specs.Nested.{Nested, End, Then, over, number_after}
use Rattle.ask_history.specs.Schedule.{Part, play_line}
use Rattle.ask_history.specs.declared.calls.Call.{Call}
use Rattle.ask_history.specs.declared.answers.Answer.{Answer}
use Rattle.ask_history.specs.declared.events.Event.{Event}
use Rattle.ask_history.specs.declared.script.Order.{Order}
use Rattle.ask_history.specs.declared.script.Line.{Line}
use Rattle.work_queue.specs.Queue.{mark_of, value_of}
use Rattle.work_queue.specs.declared.limits.Settling.{Settling}
use Rattle.work_queue.specs.declared.limits.Settling.TheVariants as settling
use Rattle.schedule_player.specs.Owed.{is_settle}
use Rattle.schedule_player.specs.Around.{HasMarks, LeadsTo, ComesAt, ending, around, onto, with_work, top_work, top_under_ask}
use Rattle.schedule_player.specs.SessionState.{SessionState}
use Rattle.schedule_player.specs.declared.outers.Work.{Work}
use Rattle.schedule_player.specs.declared.outers.Work.TheVariants.{Ask, Checks, Check, Beside, Passed}
use Rattle.schedule_player.specs.declared.outers.Outer.{Outer}
use Rattle.schedule_player.specs.declared.session.Pending.{Pending}
use Rattle.schedule_player.specs.declared.checks.Step.{Step}
use Rattle.schedule_player.specs.declared.checks.Step.TheVariants as step

-- ---- asks

-- a ticket of an accepted call
pub record IsAccepted (journal : List Event) (ticket : ℕ) : Type 0 where
  pub within : ticket < accepted journal
  pub called : is_some (call_of journal ticket) ≡ true

-- a value that was found is this one
abbrev pub Finds : Settling → Answer → Type 0
Finds (settling.Value value) answer = value ≡ answer
Finds settling.NoMemory answer = ⊤

-- The reply to a ticket with what was found is the one that the engine's function gives.
pub record IsRight (answer_of : Sources → Call → Answer) (journal : List Event) (ticket : ℕ) (what : Settling) : Type 0 where
  pub right : reply (λ files call. value_of what) journal ticket (mark_of what) ≡ reply answer_of journal ticket (mark_of what)

abbrev pub ask_in : Work → Option (ℕ × Bool)
ask_in (Ask ticket is_fed turns) = Some (ticket, is_fed)
ask_in _ = None

-- the ask that is the innermost line, and whether the engine has it
abbrev pub top_ask : List Outer → Option (ℕ × Bool)
top_ask outers = ask_in (top_work outers)

-- ---- ends

-- What is left of the innermost line, with no line under it, is the same.
pub record KeepsLine (work : Work) (old new : List Event) : Type 0 where
  pub marks : (without : List ℕ) → HasMarks without new → HasMarks without old
  pub same : (without : List ℕ) → HasMarks without new → ending without work [] old ≡ ending without work [] new

-- What is left of the innermost line, with no line under it, makes the new journal of the old one.
pub record Ends (work : Work) (old new : List Event) : Type 0 where
  pub marks : (without : List ℕ) → HasMarks without new → HasMarks without old
  pub ends : (without : List ℕ) → HasMarks without new → ending without work [] old ≡ new

-- The innermost line has ended.
pub record EndsTop (old new : SessionState) : Type 0 where
  pub ends : Ends (top_work old.outers) old.journal new.journal
  pub outers : new.outers ≡ around old.outers
  pub tickets : new.tickets ≡ old.tickets

-- What is left of the innermost line is the same.
pub record KeepsTop (old new : SessionState) : Type 0 where
  pub keeps : KeepsLine (top_work old.outers) old.journal new.journal
  pub outers : new.outers ≡ old.outers
  pub tickets : new.tickets ≡ old.tickets

-- Calls were settled, and nothing else.
pub record OnlySettles (old new : List Event) : Type 0 where
  pub settlings : List Event
  pub more : new ≡ old ++ settlings
  pub only : list_all is_settle settlings ≡ true

-- ---- lines

-- The innermost line is one of which nothing was played.
pub record IsPlaced (outers : List Outer) : Type 0 where
  pub level : ℕ
  pub around : List Outer
  pub is : outers ≡ onto level around

-- An order was played: what it does to the journal is done, but for what becomes of the lines under it.
pub record PlaysOrder (order : Order) (old new : SessionState) : Type 0 where
  pub work : Work
  pub outers : new.outers ≡ with_work work old.outers
  pub number : length new.tickets ≡ number_after order (length old.tickets)
  pub marks : (without : List ℕ) → HasMarks without new.journal → HasMarks without old.journal
  pub plays : (without : List ℕ) (parts : List Part) → HasMarks without new.journal
      → play_line without (length old.tickets) order parts old.journal ≡ ending without work parts new.journal

-- a line that stands under the innermost one, if there is one
abbrev pub IsUnder : List Outer → ℕ → Type 0
IsUnder [] level = ⊤
IsUnder (outer ∷ outers) level = outer.level < level

-- The innermost line has come to where the lines of this check are played.
abbrev pub HasCome : Work → ℕ → Type 0
HasCome (Checks next) check = ⊥
HasCome (Check number turns) check = number ≡ check
HasCome Passed check = ⊥
HasCome _ check = ⊤

-- What is left is the same as before, where a line of this level and check is the next.
pub record Waits (level check : ℕ) (old new : SessionState) : Type 0 where
  pub leads : (lines : List Line) (number : ℕ) (line : Line) (inner rest : Nested) → line.level ≡ level → line.check ≡ check
      → LeadsTo lines old.outers (Then number line inner rest) old.journal → LeadsTo lines new.outers (Then number line inner rest) new.journal

-- The innermost line comes nearer to where a line of this check is played.
pub record Reaches (check : ℕ) (old new : SessionState) : Type 0 where
  pub under : (level : ℕ) → IsUnder old.outers level → IsUnder new.outers level
  pub waits : (level : ℕ) → IsUnder old.outers level → Waits level check old new
  pub tickets : new.tickets ≡ old.tickets

-- All lines are ended that cannot have one of this level under them: what is left is the same, where none of a deeper level is next.
pub record EndsTo (level : ℕ) (old new : SessionState) : Type 0 where
  pub leads : (lines : List Line) (rest : Nested) → ComesAt level rest → LeadsTo lines old.outers rest old.journal → LeadsTo lines new.outers rest new.journal
  pub tickets : new.tickets ≡ old.tickets

-- What is left is the same, where this line is the next.
pub record KeepsNext (line : Line) (old new : SessionState) : Type 0 where
  pub leads : (lines : List Line) (rest : Nested) → LeadsTo lines old.outers (over (length old.tickets) line rest) old.journal
      → LeadsTo lines new.outers (over (length old.tickets) line rest) new.journal

-- A line was played: what is left are the lines after it.
pub record PlaysLine (line : Line) (old new : SessionState) : Type 0 where
  pub leads : (lines : List Line) (rest : Nested) → LeadsTo lines old.outers (over (length old.tickets) line rest) old.journal → LeadsTo lines new.outers rest new.journal
  pub number : length new.tickets ≡ number_after line.order (length old.tickets)

-- Only the turns of the innermost line may be more.
abbrev pub IsSameLine : Work → Work → Type 0
IsSameLine (Ask ticket is_fed turns) work = (now : ℕ) × (work ≡ Ask ticket is_fed now)
IsSameLine (Check number turns) work = (now : ℕ) × (work ≡ Check number now)
IsSameLine old work = work ≡ old

pub record IsSameButTurns (old new : SessionState) : Type 0 where
  pub work : Work
  pub line : IsSameLine (top_work old.outers) work
  pub outers : new.outers ≡ with_work work old.outers
  pub journal : new.journal ≡ old.journal
  pub tickets : new.tickets ≡ old.tickets

-- ---- checks

-- What a turn of a check says of the files that are due.
abbrev pub Says : Step → List Bytes → Option Pending → Type 0
Says step.GoesOn names found = (some_of names ≡ true) × (found ≡ None)
Says step.Found names found = (some_of names ≡ true) × (is_some found ≡ true)
Says step.NothingDue names found = (names ≡ []) × (found ≡ None)

abbrev pub GoesOnLess : Step → ℕ → ℕ → Type 0
GoesOnLess step.GoesOn before now = now < before
GoesOnLess _ before now = ⊤

-- Only what is found of a check may be new.
pub record IsSameButFound (old new : SessionState) : Type 0 where
  pub same : new ≡ record old { found = new.found }

-- Only checks may be new.
pub record IsSameButChecks (old new : SessionState) : Type 0 where
  pub outers : new.outers ≡ old.outers
  pub tickets : new.tickets ≡ old.tickets
  pub closed : new.closed ≡ old.closed

-- The checks that are left come to the same.
pub record ChecksOn (old new : List Event) : Type 0 where
  pub marks : (without : List ℕ) → HasMarks without new → HasMarks without old
  pub same : checks_alone (length (due old)) old ≡ checks_alone (length (due new)) new

-- lines under it are played in checks
abbrev pub IsOfChecks : Work → Type 0
IsOfChecks (Checks next) = ⊤
IsOfChecks (Check number turns) = ⊤
IsOfChecks _ = ⊥

-- A line that is passed over is numbered where it is a call line.
abbrev pub PassesOver : {V E : Type 0} → Result V E → Order → SessionState → SessionState → Type 0
PassesOver (Ok done) order old new = (new ≡ record old { tickets = new.tickets }) × (length new.tickets ≡ number_after order (length old.tickets))
    × ((k : ℕ) → slice_index_or new.tickets k None ≡ slice_index_or old.tickets k None)
PassesOver (Err e) order old new = new ≡ old

-- what becomes of the lines under an `idle`
abbrev pub idle_work : SessionState → Work
idle_work session = if session.closed || top_under_ask session.outers then Beside else Checks 0

-- ---- the whole

-- What is left of these lines comes to the journal of the schedule.
pub record IsUnderway (lines : List Line) (session : SessionState) : Type 0 where
  pub rest : Nested
  pub leads : LeadsTo lines session.outers rest session.journal

-- Nothing is left of these lines.
pub record IsPlayed (lines : List Line) (session : SessionState) : Type 0 where
  pub none : session.outers ≡ []
  pub leads : LeadsTo lines session.outers End session.journal
