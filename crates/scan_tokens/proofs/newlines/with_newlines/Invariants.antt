use Rattle.std.proofs.Common.{◌≡◌, ◌++◌, length, [], false}
use Rattle.scan_tokens.specs.Newlines.{marked}
use Rattle.scan_tokens.specs.Order.{AreInOrder}
use Rattle.scan_tokens.proofs.newlines.with_newlines.Given as goal

abbrev pub invariant-loop-left : goal.invariant-loop-left
invariant-loop-left l =
    (l.marked ++ marked l.text l.end l.ended l.regions l.left ≡ marked l.text 0 false [] l.tokens)
    × AreInOrder (length l.text) l.end l.left

abbrev pub decreases-loop-left : goal.decreases-loop-left
decreases-loop-left l = length l.left
