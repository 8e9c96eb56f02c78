use Rattle.std.proofs.Common.{◌≡◌, length}
use Rattle.scan_tokens.specs.Newlines.{newline_in}
use Rattle.scan_tokens.specs.declared.tokens.Newline.TheVariants.{No}
use Rattle.scan_tokens.proofs.newlines.newline_in.Given as goal

abbrev pub invariant-loop-left : goal.invariant-loop-left
invariant-loop-left l = newline_in l.found l.left ≡ newline_in No l.bytes

abbrev pub decreases-loop-left : goal.decreases-loop-left
decreases-loop-left l = length l.left
