-- How a run ends: with or without a session, its status, and the line that a user reads.
use Rattle.std.specs.Prelude.{◌≡◌, ⊤, true, ℕ, Bool, [], ◌++◌, codes}
use Rattle.std.specs.Fmt.{decimal}
use Rattle.pc_terms.specs.Bytes.{Bytes, line_end}
use Rattle.session_input.specs.declared.limits.Limit.{Limit}
use Rattle.session_input.specs.declared.limits.Limit.TheVariants as limit
use Rattle.session_input.specs.declared.refusal.Refusal.{Refusal}
use Rattle.session_input.specs.declared.refusal.Refusal.TheVariants as refusal
use Rattle.session_run.specs.declared.ending.Ending.{Ending}
use Rattle.session_run.specs.declared.ending.Ending.TheVariants as ending

-- ---- sessions

-- how a session ends, of which the lines were all played or not
abbrev pub EndsSession : Bool → Ending → Type 0
EndsSession whole ending.Done = whole ≡ true
EndsSession whole ending.WriteFault = whole ≡ true
EndsSession whole ending.NoMemory = ⊤
EndsSession whole _ = ⊥

abbrev pub IsSessionEnding : Ending → Type 0
IsSessionEnding ended = EndsSession true ended

-- ---- statuses

abbrev pub refusal_status : Refusal → ℕ
refusal_status (refusal.ReadFault name) = 3
refusal_status (refusal.BadScript name line) = 4
refusal_status (refusal.Limit limit value) = 8
refusal_status (refusal.NotUtf8 name byte) = 9

abbrev pub status_of : Ending → ℕ
status_of ending.Done = 0
status_of ending.Usage = 2
status_of (ending.Refused why) = refusal_status why
status_of ending.WriteFault = 5
status_of ending.SpawnFault = 6
status_of ending.NoMemory = 7

-- ---- the line for the user

abbrev pub limit_name : Limit → Bytes
limit_name limit.Clients = codes "Clients"
limit_name limit.FileBytes = codes "FileBytes"
limit_name limit.ScriptBytes = codes "ScriptBytes"
limit_name limit.Calls = codes "Calls"
limit_name limit.Text = codes "Text"
limit_name limit.Names = codes "Names"
limit_name limit.Map = codes "Map"

abbrev pub read_fault_text : Bytes → Bytes
read_fault_text name = codes "read fault: " ++ name ++ line_end

abbrev pub bad_script_text : Bytes → ℕ → Bytes
bad_script_text name line = codes "bad script: " ++ name ++ codes " line " ++ decimal line ++ line_end

abbrev pub limit_text : Limit → ℕ → Bytes
limit_text limit value = codes "limit " ++ limit_name limit ++ codes " " ++ decimal value ++ line_end

abbrev pub not_utf8_text : Bytes → ℕ → Bytes
not_utf8_text name byte = codes "not UTF-8: " ++ name ++ codes " byte " ++ decimal byte ++ line_end

abbrev pub refusal_text : Refusal → Bytes
refusal_text (refusal.ReadFault name) = read_fault_text name
refusal_text (refusal.BadScript name line) = bad_script_text name line
refusal_text (refusal.Limit limit value) = limit_text limit value
refusal_text (refusal.NotUtf8 name byte) = not_utf8_text name byte

abbrev pub line_text : Ending → Bytes
line_text ending.Done = []
line_text ending.Usage = codes "usage: batch NAME... or step SCHEDULE or replay CLIENT..." ++ line_end
line_text (ending.Refused why) = refusal_text why
line_text ending.WriteFault = codes "write fault" ++ line_end
line_text ending.SpawnFault = codes "spawn fault" ++ line_end
line_text ending.NoMemory = codes "no memory" ++ line_end
