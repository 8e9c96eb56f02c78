use Rattle.std.proofs.Common.{◌≡◌, ℕ, List, take}
use Rattle.session_input.specs.Leads.{LeadsOn}
use Rattle.session_input.specs.Sources.{pairs_in}
use Rattle.session_input.proofs.sources.read_sources_in.Given as goal

-- the paths of the lines so far are read, no content changed, and no read failed
abbrev pub invariant-loop-line : goal.invariant-loop-line
invariant-loop-line g l = record {
  leads : LeadsOn (g.F.Files.content l.fn.files) l.fn.sources.entries l.sources.entries (pairs_in (take l.line-index l.lines));
  content : (other : List ℕ) → g.F.Files.content l.files other ≡ g.F.Files.content l.fn.files other;
  counts : g.F.Files.faults l.files ≡ g.F.Files.faults l.fn.files;
}
