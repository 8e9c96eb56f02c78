use Rattle.std.proofs.Common.{List, [], take, Option}
use Rattle.pc_terms.specs.Bytes.{Bytes}
use Rattle.session_input.specs.Leads.{Leads}
use Rattle.session_input.specs.Clients.{scripts_reading}
use Rattle.session_input.proofs.scripts.scripts_of.Given as goal

abbrev pub invariant-loop-named : goal.invariant-loop-named
invariant-loop-named l = (content : Bytes → Option Bytes) → Leads scripts_reading content [] l.scripts (take l.named-index l.texts)
