use Rattle.std.proofs.Common.{◌≡◌, length}
use Rattle.scan_tokens.specs.Newlines.{without_cases}
use Rattle.scan_tokens.proofs.regions.Regions.close.Given as goal

abbrev pub invariant-loop-region : goal.invariant-loop-region
invariant-loop-region l = without_cases l.self ≡ without_cases l.initial.self

abbrev pub decreases-loop-region : goal.decreases-loop-region
decreases-loop-region l = length l.self
