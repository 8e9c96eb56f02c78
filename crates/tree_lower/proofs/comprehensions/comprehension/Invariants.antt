use Rattle.std.proofs.Common.{◌≡◌, length}
use denote.Shadow.{shadow}
use denote.Text.{Utf8}
use Rattle.tree_lower.proofs.Generating.{over}
use Rattle.tree_lower.proofs.comprehensions.comprehension.Given as goal

abbrev pub invariant-loop-generator : goal.invariant-loop-generator
invariant-loop-generator l =
    shadow (Utf8 l.method)
    × (over l.yields l.method l.generators l.tall ≡ over l.yields l.initial.method l.initial.generators l.initial.tall)

abbrev pub decreases-loop-generator : goal.decreases-loop-generator
decreases-loop-generator l = length l.generators
