use Rattle.std.proofs.Common.{◌≡◌, ℕ, List, [], map, take, string_bytes}
use Rattle.session_input.specs.Leads.{Leads}
use Rattle.session_input.specs.Clients.{texts_reading}
use Rattle.session_input.proofs.scripts.read_texts.Given as goal

-- the scripts so far are read, no content changed, and no read failed
abbrev pub invariant-loop-name : goal.invariant-loop-name
invariant-loop-name g l = record {
  leads : Leads texts_reading (g.F.Files.content l.fn.files) [] l.texts (map string_bytes (take l.name-index l.names));
  content : (other : List ℕ) → g.F.Files.content l.files other ≡ g.F.Files.content l.fn.files other;
  counts : g.F.Files.faults l.files ≡ g.F.Files.faults l.fn.files;
}
