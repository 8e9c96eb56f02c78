use Rattle.std.proofs.Common.{◌≡◌, length}
use Rattle.std.specs.List.{All}
use Rattle.parse_exprs.specs.Cases.{guard_of}
use Rattle.parse_exprs.specs.Items.{IsItemOf, items_in}
use Rattle.parse_exprs.proofs.cases.guard_of.Given as goal

abbrev pub invariant-guard : goal.invariant-guard
invariant-guard l =
    All (IsItemOf l.text) l.rest × (guard_of l.state (items_in l.text l.rest) ≡ guard_of l.initial.state (items_in l.text l.initial.rest))

abbrev pub decreases-guard : goal.decreases-guard
decreases-guard l = length l.rest
