-- What is printed of a session, and where it stands after a run.
use Rattle.std.specs.Prelude.{◌≡◌, ℕ, List, [], ◌∷◌, ◌++◌, map, take, Option, Some, None}
use Rattle.std.specs.Option.{option_map}
use Rattle.pc_terms.specs.Bytes.{Bytes}
use Rattle.pc_terms.specs.declared.problems.Problem.{Problem}
use Rattle.ask_history.specs.Sources.{Sources}
use Rattle.ask_history.specs.Journal.{replies, findings}
use Rattle.ask_history.specs.declared.calls.Call.{Call}
use Rattle.ask_history.specs.declared.answers.Answer.{Answer}
use Rattle.ask_history.specs.declared.events.Event.{Event}
use Rattle.ask_history.specs.declared.script.Line.{Line}
use Rattle.transcript.specs.Transcript.{session_text}
use Rattle.session_run.specs.declared.ending.Ending.{Ending}
use Rattle.session_run.specs.declared.ending.Ending.TheVariants as ending

-- what is printed of a session of one client
abbrev pub session_of : List Line → List Event → List Answer → List (List Problem) → Bytes
session_of lines journal answers problems = session_text (record { lines = lines } ∷ []) journal (answers ∷ []) problems

-- What is printed of a session of these lines with this journal: the answer of each call where it settles, and the problems
-- of each checked file over the sources in force there.
abbrev pub transcript : (Sources → Call → Answer) → (Sources → Bytes → List Problem) → List Line → List Event → Bytes
transcript answer_of problems_of lines journal =
    session_of lines journal (replies answer_of journal) (map (λ finding. finding.1) (findings problems_of journal))

-- nothing is printed of a run in which no session began
abbrev pub printed : (Sources → Call → Answer) → (Sources → Bytes → List Problem) → Option (List Line) → List Event → Bytes
printed answer_of problems_of None journal = []
printed answer_of problems_of (Some lines) journal = transcript answer_of problems_of lines journal

-- these bytes with a prefix of more after them, where they are told
abbrev pub GrewBy : Bytes → Option Bytes → Option Bytes → Type 0
GrewBy more None now = now ≡ None
GrewBy more (Some before) now = (n : ℕ) × (now ≡ Some (before ++ take n more))

-- All of the text is written at the end of a run, a prefix of it where it could not be written or memory is missing, and
-- nothing where the run was refused. What stood there before stays in front.
abbrev pub Wrote : Bytes → Ending → Option Bytes → Option Bytes → Type 0
Wrote text ending.Done before now = now ≡ option_map (λ bytes. bytes ++ text) before
Wrote text ending.WriteFault before now = GrewBy text before now
Wrote text ending.NoMemory before now = GrewBy text before now
Wrote text _ before now = now ≡ before
