-- What the files say of a run, and when a fault is told.
use Rattle.std.specs.Prelude.{◌≡◌, ◌≤◌, ⊤, ℕ, List, Option, Some, None, Ok, Err}
use Rattle.pc_terms.specs.Bytes.{Bytes}
use Rattle.pc_outside.specs.Outside.{Rose}
use Rattle.ask_history.specs.declared.script.Line.{Line}
use Rattle.session_input.specs.Faults.{RoseIfFault, IsReadFor}
use Rattle.session_input.specs.Input.{schedule_reading}
use Rattle.session_input.specs.Reads.{ComesTo}
use Rattle.session_input.specs.declared.refusal.Refusal.TheVariants.{ReadFault}
use Rattle.session_input.specs.declared.refusal.NoInput.TheVariants.{Refused}
use Rattle.session_run.specs.Run.{IsSessionEnding}
use Rattle.session_run.specs.declared.ending.Ending.{Ending}
use Rattle.session_run.specs.declared.ending.Ending.TheVariants as ending
use Rattle.session_run.specs.declared.modes.Mode.{Mode}
use Rattle.session_run.specs.declared.modes.Mode.TheVariants.{Alone}

-- Where a session begins and ends, its lines are those of the schedule with their texts. Where none begins, the schedule, or
-- a source, is refused for the first reason that reading comes to, or memory runs out.
abbrev pub IsReadAs : (Bytes → Option Bytes) → Bytes → Option (List Line) → Ending → Type 0
IsReadAs content schedule None (ending.Refused why) = ComesTo {A = List Line} content (schedule_reading schedule) (Err (Refused why))
IsReadAs content schedule None ending.NoMemory = ⊤
IsReadAs content schedule None _ = ⊥
IsReadAs content schedule (Some lines) ended = IsSessionEnding ended × ComesTo content (schedule_reading schedule) (Ok lines)

-- Words that are no command of this call are answered with its usage.
abbrev pub HasInput : Mode → (Bytes → Option Bytes) → Bytes → Option (List Line) → Ending → Type 0
HasInput Alone content schedule began ended = IsReadAs content schedule began ended
HasInput _ content schedule began ended = (began ≡ None) × (ended ≡ ending.Usage)

-- ---- faults

-- A fault of reading comes exactly where the count of read faults rose, with the name of the last read that failed, where that
-- is told. No fault is given up as out of memory.
abbrev pub RoseAsRead : Ending → ℕ → ℕ → Option Bytes → Type 0
RoseAsRead (ending.Refused why) before now last = RoseIfFault why before now last
RoseAsRead _ before now last = now ≡ before

-- what reading the input did to the count of read faults
abbrev pub CountsReads : Ending → ℕ → ℕ → Option Bytes → Type 0
CountsReads ended before now last = (before ≤ now) × RoseAsRead ended before now last

-- Of a fault a user may be told that there was no memory for its line.
abbrev pub RoseAsTold : Ending → ℕ → ℕ → Option Bytes → Type 0
RoseAsTold ending.NoMemory before now last = ⊤
RoseAsTold ended before now last = RoseAsRead ended before now last

-- The count of read faults never falls, and rises only as is told.
abbrev pub HasReadFaults : Ending → ℕ → ℕ → Option Bytes → Type 0
HasReadFaults ended before now last = (before ≤ now) × RoseAsTold ended before now last

-- a fault of writing comes exactly where the count of faults rose
abbrev pub HasWriteFault : Ending → ℕ → ℕ → Type 0
HasWriteFault ending.WriteFault before now = Rose before now
HasWriteFault _ before now = now ≡ before

-- a fault of reading names a file that the run reads
abbrev pub NamesReadFile : (Bytes → Option Bytes) → Bytes → Ending → Type 0
NamesReadFile content schedule (ending.Refused (ReadFault name)) = IsReadFor content schedule name
NamesReadFile content schedule _ = ⊤
