use Rattle.std.proofs.Common.{◌≡◌}
use Rattle.std.specs.List.{All}
use Rattle.parse_exprs.specs.Cases.{cases_from, cases_of}
use Rattle.parse_exprs.specs.Items.{IsItemOf, items_in}
use Rattle.parse_exprs.proofs.cases.cases_of.Given as goal

-- the cases that are left, and the trees so far
abbrev pub invariant-cases : goal.invariant-cases
invariant-cases l =
    All (IsItemOf l.text) l.rest
    × (cases_from l.left l.now.kids l.now.free (items_in l.text l.rest) ≡ cases_of (items_in l.text l.initial.rest))

abbrev pub decreases-cases : goal.decreases-cases
decreases-cases l = l.left
