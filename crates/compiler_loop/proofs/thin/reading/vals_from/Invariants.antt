use Rattle.std.proofs.Common.{◌≡◌, ◌≤◌, length, []}
use Rattle.compiler_loop.specs.Thin.{vals_from}
use Rattle.compiler_loop.proofs.thin.reading.vals_from.Given as goal

-- the vals that are left, behind those read, are those of the object
abbrev pub invariant-loop-most : goal.invariant-loop-most
invariant-loop-most l =
    (vals_from l.most l.text l.vals l.at ≡ vals_from (length l.text) l.text [] l.start) × (l.at ≤ length l.text)

abbrev pub decreases-loop-most : goal.decreases-loop-most
decreases-loop-most l = l.most
