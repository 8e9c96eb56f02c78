-- How a session of clients ends by what became of them, and what is then written.
use Rattle.std.specs.Prelude.{◌≡◌, List, Option}
use Rattle.pc_terms.specs.Bytes.{Bytes}
use Rattle.pc_terms.specs.declared.problems.Problem.{Problem}
use Rattle.ask_history.specs.declared.events.Event.{Event}
use Rattle.session_run.specs.Printed.{Wrote}
use Rattle.session_run.specs.Run.{IsSessionEnding}
use Rattle.session_run.specs.declared.ending.Ending.{Ending}
use Rattle.session_run.specs.declared.ending.Ending.TheVariants as ending
use Rattle.transcript.specs.Transcript.{session_text}
use Rattle.session_threads.specs.declared.fate.Fate.{Fate}
use Rattle.session_threads.specs.declared.fate.Fate.TheVariants as fate

abbrev pub EndsAs : Fate → Ending → Type 0
EndsAs (fate.Played scripts answers) ended = IsSessionEnding ended
EndsAs fate.Unbegun ended = ended ≡ ending.SpawnFault
EndsAs _ ended = ended ≡ ending.NoMemory

-- Of a session that was played to its end all is written that is printed of it, or a prefix. Of others nothing is.
abbrev pub WroteAs : Fate → List Event → List (List Problem) → Ending → Option Bytes → Option Bytes → Type 0
WroteAs (fate.Played scripts answers) journal found ended before now = Wrote (session_text scripts journal answers found) ended before now
WroteAs _ journal found ended before now = now ≡ before
