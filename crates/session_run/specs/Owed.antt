-- What a run on one thread owes, whatever the words, the files, the devices, the engine and the reporter.
use Rattle.std.specs.Prelude.{◌≡◌, ◌⊎◌, true, ℕ, Bool, List, [], ◌++◌, IsTrue, Option, Some, None, Ok}
use Rattle.std.specs.Option.{option_map}
use Rattle.pc_terms.specs.Bytes.{Bytes}
use Rattle.pc_terms.specs.declared.problems.Problem.{Problem}
use Rattle.pc_outside.specs.Outside.{Rose}
use Rattle.ask_history.specs.Sources.{Sources}
use Rattle.ask_history.specs.Engine.{EngineState}
use Rattle.ask_history.specs.Journal.{all_settled, out_of_memory, after, findings}
use Rattle.ask_history.specs.Legal.{is_legal}
use Rattle.ask_history.specs.Schedule.{journal_of}
use Rattle.ask_history.specs.declared.calls.Call.{Call}
use Rattle.ask_history.specs.declared.answers.Answer.{Answer}
use Rattle.ask_history.specs.declared.events.Event.{Event}
use Rattle.ask_history.specs.declared.script.Line.{Line}
use Rattle.report_hub.specs.Telling.{ReporterState}
use Rattle.report_hub.specs.Told.{WasToldMost}
use Rattle.schedule_player.specs.Owed.{IsCutShort, IsAtRest}
use Rattle.session_input.specs.Input.{schedule_reading}
use Rattle.session_input.specs.Reads.{told as told_by}
use Rattle.session_run.specs.Words.{mode_of, schedule_of}
use Rattle.session_run.specs.Run.{status_of, line_text}
use Rattle.session_run.specs.Printed.{printed, Wrote}
use Rattle.session_run.specs.Reading.{HasInput, HasReadFaults, HasWriteFault, NamesReadFile}
use Rattle.session_run.specs.declared.ending.Ending.{Ending}
use Rattle.session_run.specs.declared.ending.Ending.TheVariants as ending
use Rattle.session_run.specs.declared.modes.Mode.TheVariants.{Alone}

-- what is handed back of a run
pub record HandedBack : Type 0 where
  pub status : ℕ
  pub ending : Ending
  pub journal : List Event

-- what the files, the output, the engine and the reporter tell before a run and after it
pub record Seen : Type 0 where
  pub read_faults : ℕ
  pub read_faults' : ℕ
  pub last_failed' : Option Bytes
  pub put_faults : ℕ
  pub put_faults' : ℕ
  pub out : Option Bytes
  pub out' : Option Bytes
  pub engine : EngineState
  pub engine' : EngineState
  pub reporter : ReporterState
  pub reporter' : ReporterState

-- what standard error tells before a run and after it, and whether each line was taken whole
pub record UserSeen : Type 0 where
  pub err : Option Bytes
  pub err' : Option Bytes
  pub whole' : Bool

-- ---- the journal

-- the journal of these lines, in which the tickets are marked out of memory that it marks itself
abbrev pub IsWhole : List Line → List Event → Type 0
IsWhole lines journal = journal ≡ journal_of (out_of_memory journal) lines

-- A session that came to its end has the journal of its lines. Out of memory it may be cut short. Where no session began
-- nothing happened.
abbrev pub IsJournalOf : Option (List Line) → Ending → List Event → Type 0
IsJournalOf None ended journal = journal ≡ []
IsJournalOf (Some lines) ending.NoMemory journal = IsWhole lines journal ⊎ IsCutShort lines journal
IsJournalOf (Some lines) ended journal = IsWhole lines journal

-- The engine has the sources after the journal, and rests. Where no session began it is as it was.
abbrev pub IsEngineAfter : Option (List Line) → List Event → EngineState → EngineState → Type 0
IsEngineAfter None journal old new = new ≡ old
IsEngineAfter (Some lines) journal old new = IsAtRest new (after journal)

-- ---- a run that nothing hinders

-- Where the words name a schedule, the files tell its lines, and no device counts one more fault, a run comes to its end, or
-- it ends out of memory.
abbrev pub Completes : (Bytes → Option Bytes) → List Bytes → Seen → Ending → Type 0
Completes content words seen ended =
    (lines : List Line) → mode_of words ≡ Alone → told_by content (schedule_reading (schedule_of words)) ≡ Some (Ok lines)
    → (Rose seen.read_faults seen.read_faults' → ⊥) → (Rose seen.put_faults seen.put_faults' → ⊥)
    → (ended ≡ ending.Done) ⊎ (ended ≡ ending.NoMemory)

-- ---- the whole

-- What a run did that ended so and kept this journal.
pub record IsRun (answer_of : Sources → Call → Answer) (problems_of : Sources → Bytes → List Problem) (content : Bytes → Option Bytes) (words : List Bytes) (seen : Seen) (ended : Ending) (journal : List Event) : Type 0 where
  -- the lines that were played, where a session began
  pub began : Option (List Line)
  -- they are what the words and the files say, or the run ended for what these say
  pub input : HasInput (mode_of words) content (schedule_of words) began ended
  -- the journal that is handed back is that of the lines
  pub ran : IsJournalOf began ended journal
  -- it is legal, and every accepted call is settled in it
  pub legal : IsTrue (is_legal journal)
  pub settled : all_settled journal ≡ true
  -- the output is what is printed of that journal, with the engine's answers and problems
  pub output : Wrote (printed answer_of problems_of began journal) ended seen.out seen.out'
  -- a fault of reading or writing is told exactly where the count of the device rose
  pub reading : HasReadFaults ended seen.read_faults seen.read_faults' seen.last_failed'
  -- and a fault of reading names the schedule, or a path of it
  pub named : NamesReadFile content (schedule_of words) ended
  pub writing : HasWriteFault ended seen.put_faults seen.put_faults'
  -- where nothing hinders it, the run comes to its end
  pub complete : Completes content words seen ended
  -- the reporter was told what the checks of the journal found, in order, with at most as many left out as reports failed
  pub reported : WasToldMost (findings problems_of journal) seen.reporter seen.reporter'
  pub engine : IsEngineAfter began journal seen.engine seen.engine'

pub record RunOwes (answer_of : Sources → Call → Answer) (problems_of : Sources → Bytes → List Problem) (content : Bytes → Option Bytes) (words : List Bytes) (seen : Seen) (user : UserSeen) (handed : HandedBack) : Type 0 where
  pub run : IsRun answer_of problems_of content words seen handed.ending handed.journal
  -- the status is that of how the run ended
  pub status : handed.status ≡ status_of handed.ending
  -- the user was told how the run ended, and nothing else
  pub told : user.whole' ≡ true → user.err' ≡ option_map (λ bytes. bytes ++ line_text handed.ending) user.err
