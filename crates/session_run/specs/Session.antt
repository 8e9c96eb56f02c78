-- What playing the lines of a schedule and printing the session owes.
use Rattle.std.specs.Prelude.{◌≡◌, true, ℕ, List, IsTrue, Option, Some}
use Rattle.pc_terms.specs.Bytes.{Bytes}
use Rattle.pc_terms.specs.declared.problems.Problem.{Problem}
use Rattle.ask_history.specs.Sources.{Sources}
use Rattle.ask_history.specs.Engine.{EngineState}
use Rattle.ask_history.specs.Journal.{all_settled, after, findings}
use Rattle.ask_history.specs.Legal.{is_legal}
use Rattle.ask_history.specs.declared.calls.Call.{Call}
use Rattle.ask_history.specs.declared.answers.Answer.{Answer}
use Rattle.ask_history.specs.declared.events.Event.{Event}
use Rattle.ask_history.specs.declared.script.Line.{Line}
use Rattle.report_hub.specs.Telling.{ReporterState}
use Rattle.report_hub.specs.Told.{WasToldMost}
use Rattle.schedule_player.specs.Owed.{IsAtRest}
use Rattle.session_run.specs.Printed.{transcript, Wrote}
use Rattle.session_run.specs.Reading.{HasWriteFault}
use Rattle.session_run.specs.Run.{IsSessionEnding}
use Rattle.session_run.specs.Owed.{IsJournalOf}
use Rattle.session_run.specs.declared.ending.Ending.{Ending}

-- what the output, the engine and the reporter tell before a session and after it
pub record SessionSeen : Type 0 where
  pub put_faults : ℕ
  pub put_faults' : ℕ
  pub out : Option Bytes
  pub out' : Option Bytes
  pub engine' : EngineState
  pub reporter : ReporterState
  pub reporter' : ReporterState

pub record SessionOwes (answer_of : Sources → Call → Answer) (problems_of : Sources → Bytes → List Problem) (lines : List Line) (seen : SessionSeen) (ended : Ending) (journal : List Event) : Type 0 where
  pub ends : IsSessionEnding ended
  pub ran : IsJournalOf (Some lines) ended journal
  pub legal : IsTrue (is_legal journal)
  pub settled : all_settled journal ≡ true
  pub output : Wrote (transcript answer_of problems_of lines journal) ended seen.out seen.out'
  pub writing : HasWriteFault ended seen.put_faults seen.put_faults'
  pub reported : WasToldMost (findings problems_of journal) seen.reporter seen.reporter'
  pub engine : IsAtRest seen.engine' (after journal)
