use Rattle.std.proofs.Common.{◌≡◌, ◌++◌, take, drop}
use Rattle.tree_parser.proofs.lists.taken.Given as goal

abbrev pub invariant-pieces : goal.invariant-pieces
invariant-pieces l =
    (l.pieces ++ take l.left l.rest ≡ take l.initial.left l.initial.rest) × (drop l.left l.rest ≡ drop l.initial.left l.initial.rest)

abbrev pub decreases-pieces : goal.decreases-pieces
decreases-pieces l = l.left
