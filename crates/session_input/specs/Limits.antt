-- What the input of a session may count at most.
use Rattle.std.specs.Prelude.{ℕ}
use Rattle.pc_terms.specs.Bytes.{max_source_bytes}
use Rattle.session_input.specs.declared.limits.Limit.{Limit}
use Rattle.session_input.specs.declared.limits.Limit.TheVariants.{Clients, FileBytes, ScriptBytes, Calls, Text, Names, Map}

abbrev pub most_of : Limit → ℕ
most_of Clients = 32
most_of FileBytes = max_source_bytes
most_of ScriptBytes = 4194304
most_of Calls = 65536
most_of Text = 268435456
most_of Names = 1024
most_of Map = 16777216
