use Rattle.std.proofs.Common.{◌≡◌, ◌++◌, take, drop}
use Rattle.parse_exprs.proofs.lists.taken.Given as goal

abbrev pub invariant-items : goal.invariant-items
invariant-items l =
    (l.items ++ take l.left l.rest ≡ take l.initial.left l.initial.rest) × (drop l.left l.rest ≡ drop l.initial.left l.initial.rest)

abbrev pub decreases-items : goal.decreases-items
decreases-items l = l.left
