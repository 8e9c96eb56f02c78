use Rattle.std.proofs.Common.{◌≡◌, drop}
use Rattle.parse_patterns.specs.Operators as spec
use Rattle.parse_patterns.proofs.operators.fits.Given as goal

abbrev pub invariant-loop-depth : goal.invariant-loop-depth
invariant-loop-depth l = spec.fits (drop l.depth l.operations) l.level l.right ≡ spec.fits l.operations l.level l.right
