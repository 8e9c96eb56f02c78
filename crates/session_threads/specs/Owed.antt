-- What a run of clients owes, whatever the words, the files, the devices, the threads, the engine and the reporter.
use Rattle.std.specs.Prelude.{◌≡◌, ◌⊎◌, true, ℕ, List, [], ◌∷◌, ◌++◌, IsTrue, Option, Some, None, Ok}
use Rattle.std.specs.Option.{option_map}
use Rattle.pc_terms.specs.Bytes.{Bytes}
use Rattle.pc_terms.specs.declared.problems.Problem.{Problem}
use Rattle.pc_outside.specs.Outside.{Rose}
use Rattle.ask_history.specs.Sources.{Sources}
use Rattle.ask_history.specs.Journal.{all_settled, is_closed, findings}
use Rattle.ask_history.specs.Legal.{is_legal}
use Rattle.ask_history.specs.declared.calls.Call.{Call}
use Rattle.ask_history.specs.declared.answers.Answer.{Answer}
use Rattle.ask_history.specs.declared.events.Event.{Event}
use Rattle.ask_history.specs.declared.events.Event.TheVariants.{Close}
use Rattle.ask_history.specs.declared.script.Script.{Script}
use Rattle.client_scripts.specs.OfScripts.{OfScripts}
use Rattle.report_hub.specs.Telling.{ReporterState}
use Rattle.report_hub.specs.Told.{WasToldMost}
use Rattle.session_input.specs.Clients.{clients_reading}
use Rattle.session_input.specs.Reads.{told as told_by}
use Rattle.session_run.specs.Owed.{HandedBack, UserSeen}
use Rattle.session_run.specs.Printed.{Wrote}
use Rattle.session_run.specs.Reading.{HasReadFaults, HasWriteFault}
use Rattle.session_run.specs.Run.{status_of, line_text}
use Rattle.session_run.specs.Words.{mode_of, clients_of}
use Rattle.session_run.specs.declared.ending.Ending.{Ending}
use Rattle.session_run.specs.declared.ending.Ending.TheVariants as ending
use Rattle.session_run.specs.declared.modes.Mode.TheVariants.{Threads}
use Rattle.transcript.specs.Transcript.{session_text}
use Rattle.session_threads.specs.Sessions.{rows_of, problems_in}
use Rattle.session_threads.specs.Reading.{HaveInput, HasSpawnFault, NamesClientFile}

-- what the files, the output, the threads and the reporter tell before a run and after it
pub record Seen : Type 0 where
  pub read_faults : ℕ
  pub read_faults' : ℕ
  pub last_failed' : Option Bytes
  pub put_faults : ℕ
  pub put_faults' : ℕ
  pub spawn_faults : ℕ
  pub spawn_faults' : ℕ
  pub out : Option Bytes
  pub out' : Option Bytes
  pub reporter : ReporterState
  pub reporter' : ReporterState

-- ---- the journal

-- A session that came to its end has a journal of clients that play these scripts. Where no thread could be started it is the
-- shutdown alone. Out of memory it is shut down. Where no session began nothing happened.
abbrev pub IsClientsJournal : Option (List Script) → Ending → List Event → Type 0
IsClientsJournal None ended journal = journal ≡ []
IsClientsJournal (Some scripts) ending.SpawnFault journal = journal ≡ Close ∷ []
IsClientsJournal (Some scripts) ending.NoMemory journal = is_closed journal ≡ true
IsClientsJournal (Some scripts) ended journal = OfScripts scripts journal

-- ---- the output

-- What is printed of a session of these scripts with this journal: the answer of each call where it settles, and the problems of
-- each checked file over the sources in force there.
abbrev pub transcript : (Sources → Call → Answer) → (Sources → Bytes → List Problem) → List Script → List Event → Bytes
transcript answer_of problems_of scripts journal = session_text scripts journal (rows_of answer_of journal scripts) (problems_in problems_of journal)

-- nothing is printed of a run in which no session began
abbrev pub printed : (Sources → Call → Answer) → (Sources → Bytes → List Problem) → Option (List Script) → List Event → Bytes
printed answer_of problems_of None journal = []
printed answer_of problems_of (Some scripts) journal = transcript answer_of problems_of scripts journal

-- ---- a run that nothing hinders

-- Where the words name clients, the files tell their scripts, and no device counts one more fault, a run comes to its end, or it
-- ends out of memory.
abbrev pub Completes : (Bytes → Option Bytes) → List Bytes → Seen → Ending → Type 0
Completes content words seen ended =
    (scripts : List Script) → mode_of words ≡ Threads → told_by content (clients_reading (clients_of words)) ≡ Some (Ok scripts)
    → (Rose seen.read_faults seen.read_faults' → ⊥) → (Rose seen.put_faults seen.put_faults' → ⊥) → (Rose seen.spawn_faults seen.spawn_faults' → ⊥)
    → (ended ≡ ending.Done) ⊎ (ended ≡ ending.NoMemory)

-- ---- the whole

-- What a run of clients did that ended so and kept this journal.
pub record IsClientsRun (answer_of : Sources → Call → Answer) (problems_of : Sources → Bytes → List Problem) (content : Bytes → Option Bytes) (words : List Bytes) (seen : Seen) (ended : Ending) (journal : List Event) : Type 0 where
  -- the scripts that were played, where a session began
  pub began : Option (List Script)
  -- they are what the words and the files say, or the run ended for what these say
  pub input : HaveInput (mode_of words) content (clients_of words) began ended
  -- the journal that is handed back is that of the clients
  pub ran : IsClientsJournal began ended journal
  -- it is legal, and every accepted call is settled in it
  pub legal : IsTrue (is_legal journal)
  pub settled : all_settled journal ≡ true
  -- the output is what is printed of that journal, with the engine's answers and problems
  pub output : Wrote (printed answer_of problems_of began journal) ended seen.out seen.out'
  -- a fault of reading or of writing is told exactly where the count of the device rose, and one of starting threads only there
  pub reading : HasReadFaults ended seen.read_faults seen.read_faults' seen.last_failed'
  -- and a fault of reading names a script, or a path of one
  pub named : NamesClientFile content (clients_of words) ended
  pub writing : HasWriteFault ended seen.put_faults seen.put_faults'
  pub spawning : HasSpawnFault ended seen.spawn_faults seen.spawn_faults'
  -- where nothing hinders it, the run comes to its end
  pub complete : Completes content words seen ended
  -- the reporter was told what the checks of the journal found, in order, with at most as many left out as reports failed
  pub reported : WasToldMost (findings problems_of journal) seen.reporter seen.reporter'

pub record ThreadsOwe (answer_of : Sources → Call → Answer) (problems_of : Sources → Bytes → List Problem) (content : Bytes → Option Bytes) (words : List Bytes) (seen : Seen) (user : UserSeen) (handed : HandedBack) : Type 0 where
  pub run : IsClientsRun answer_of problems_of content words seen handed.ending handed.journal
  -- the status is that of how the run ended
  pub status : handed.status ≡ status_of handed.ending
  -- the user was told how the run ended, and nothing else
  pub told : user.whole' ≡ true → user.err' ≡ option_map (λ bytes. bytes ++ line_text handed.ending) user.err
