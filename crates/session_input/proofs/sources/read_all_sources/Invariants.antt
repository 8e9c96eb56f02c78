use Rattle.std.proofs.Common.{◌≡◌, ℕ, List, [], take}
use Rattle.session_input.specs.Leads.{LeadsOn}
use Rattle.session_input.specs.Sources.{pairs_in, lines_in}
use Rattle.session_input.proofs.sources.read_all_sources.Given as goal

-- the paths of the scripts so far are read, no content changed, and no read failed
abbrev pub invariant-loop-script : goal.invariant-loop-script
invariant-loop-script g l = record {
  leads : LeadsOn (g.F.Files.content l.fn.files) [] l.sources.entries (pairs_in (lines_in (take l.script-index l.scripts)));
  content : (other : List ℕ) → g.F.Files.content l.files other ≡ g.F.Files.content l.fn.files other;
  counts : g.F.Files.faults l.files ≡ g.F.Files.faults l.fn.files;
}
