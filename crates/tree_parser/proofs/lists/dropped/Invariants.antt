use Rattle.std.proofs.Common.{◌≡◌, drop}
use Rattle.tree_parser.proofs.lists.dropped.Given as goal

abbrev pub invariant-pieces : goal.invariant-pieces
invariant-pieces l = drop l.left l.rest ≡ drop l.initial.left l.initial.rest

abbrev pub decreases-pieces : goal.decreases-pieces
decreases-pieces l = l.left
