use Rattle.std.proofs.Common.{◌≡◌, length}
use Rattle.std.specs.List.{All}
use Rattle.parse_exprs.specs.Cases.{pattern_of}
use Rattle.parse_exprs.specs.Items.{IsItemOf, items_in}
use Rattle.parse_exprs.proofs.cases.pattern_of.Given as goal

abbrev pub invariant-tokens : goal.invariant-tokens
invariant-tokens l =
    All (IsItemOf l.text) l.rest
    × (pattern_of l.pattern (items_in l.text l.rest) ≡ pattern_of l.initial.pattern (items_in l.text l.initial.rest))

abbrev pub decreases-tokens : goal.decreases-tokens
decreases-tokens l = length l.rest
