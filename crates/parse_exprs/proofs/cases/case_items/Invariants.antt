use Rattle.std.proofs.Common.{◌≡◌, ◌+◌, ◌≤◌, ◌++◌, length}
use Rattle.std.specs.List.{All}
use Rattle.parse_exprs.specs.Cases.{case_items, behind_case}
use Rattle.parse_exprs.specs.Items.{IsItemOf, items_in}
use Rattle.parse_exprs.proofs.cases.case_items.Given as goal

-- how many items are left, and that no more brackets are open than items are passed; what was taken; what is left
abbrev pub invariant-items : goal.invariant-items
invariant-items l =
    (l.left ≡ length l.rest) × (l.depth + l.left ≤ l.initial.left) × All (IsItemOf l.text) l.rest × All (IsItemOf l.text) l.items
    × (items_in l.text l.items ++ case_items l.depth (items_in l.text l.rest) ≡ case_items 0 (items_in l.text l.initial.rest))
    × (behind_case l.depth (items_in l.text l.rest) ≡ behind_case 0 (items_in l.text l.initial.rest))

abbrev pub decreases-items : goal.decreases-items
decreases-items l = length l.rest
