use Rattle.std.proofs.Common.{◌≡◌, ℕ, List, take}
use Rattle.session_input.specs.Leads.{LeadsOn}
use Rattle.session_input.proofs.sources.read_sources_of.Given as goal

-- the paths so far are read, no content changed, and no read failed
abbrev pub invariant-loop-pair : goal.invariant-loop-pair
invariant-loop-pair g l = record {
  leads : LeadsOn (g.F.Files.content l.fn.files) l.fn.sources.entries l.sources.entries (take l.pair-index l.pairs);
  content : (other : List ℕ) → g.F.Files.content l.files other ≡ g.F.Files.content l.fn.files other;
  counts : g.F.Files.faults l.files ≡ g.F.Files.faults l.fn.files;
}
