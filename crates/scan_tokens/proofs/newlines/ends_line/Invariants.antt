use Rattle.std.proofs.Common.{◌≡◌, length}
use Rattle.scan_tokens.specs.Newlines.{ends_line}
use Rattle.scan_tokens.proofs.newlines.ends_line.Given as goal

abbrev pub invariant-loop-left : goal.invariant-loop-left
invariant-loop-left l = ends_line l.left ≡ ends_line l.bytes

abbrev pub decreases-loop-left : goal.decreases-loop-left
decreases-loop-left l = length l.left
