-- What the files say of a run of clients, and when a fault is told.
use Rattle.std.specs.Prelude.{◌≡◌, ⊤, ℕ, List, Option, Some, None, Ok, Err}
use Rattle.pc_terms.specs.Bytes.{Bytes}
use Rattle.pc_outside.specs.Outside.{Rose}
use Rattle.ask_history.specs.declared.script.Script.{Script}
use Rattle.session_input.specs.Clients.{clients_reading, IsReadForClients}
use Rattle.session_input.specs.Reads.{ComesTo}
use Rattle.session_input.specs.declared.refusal.Refusal.TheVariants.{ReadFault}
use Rattle.session_input.specs.declared.refusal.NoInput.TheVariants.{Refused}
use Rattle.session_run.specs.Run.{IsSessionEnding}
use Rattle.session_run.specs.declared.ending.Ending.{Ending}
use Rattle.session_run.specs.declared.ending.Ending.TheVariants as ending
use Rattle.session_run.specs.declared.modes.Mode.{Mode}
use Rattle.session_run.specs.declared.modes.Mode.TheVariants.{Threads}

-- how a session of clients ends: as others do, or before its clients began
abbrev pub IsClientsEnding : Ending → Type 0
IsClientsEnding ending.SpawnFault = ⊤
IsClientsEnding ended = IsSessionEnding ended

-- Where a session begins and ends, its scripts are those of the clients with their texts. Where none begins, a script, or a source,
-- or what all count is refused for the first reason that reading comes to, or memory runs out.
abbrev pub AreReadAs : (Bytes → Option Bytes) → List Bytes → Option (List Script) → Ending → Type 0
AreReadAs content clients None (ending.Refused why) = ComesTo {A = List Script} content (clients_reading clients) (Err (Refused why))
AreReadAs content clients None ending.NoMemory = ⊤
AreReadAs content clients None _ = ⊥
AreReadAs content clients (Some scripts) ended = IsClientsEnding ended × ComesTo content (clients_reading clients) (Ok scripts)

-- Words that are no command of this call are answered with its usage.
abbrev pub HaveInput : Mode → (Bytes → Option Bytes) → List Bytes → Option (List Script) → Ending → Type 0
HaveInput Threads content clients began ended = AreReadAs content clients began ended
HaveInput _ content clients began ended = (began ≡ None) × (ended ≡ ending.Usage)

-- ---- faults

-- a fault of starting threads comes only where the count of faults rose
abbrev pub HasSpawnFault : Ending → ℕ → ℕ → Type 0
HasSpawnFault ending.SpawnFault before now = Rose before now
HasSpawnFault _ before now = ⊤

-- a fault of reading names a file that the run reads
abbrev pub NamesClientFile : (Bytes → Option Bytes) → List Bytes → Ending → Type 0
NamesClientFile content clients (ending.Refused (ReadFault name)) = IsReadForClients content clients name
NamesClientFile content clients _ = ⊤
