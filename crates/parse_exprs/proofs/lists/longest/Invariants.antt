use Rattle.std.proofs.Common.{◌≡◌, ◌<◌, ◌≤◌, false, drop, map}
use Rattle.std.specs.Option.{ForSome}
use Rattle.parse_exprs.specs.Items.{items_in, shape_of}
use Rattle.parse_exprs.specs.Lists.{of_items, ends_statement}
use Rattle.parse_exprs.specs.Statements.{statements, is_whole}
use Rattle.parse_exprs.proofs.Loops.{LeadsOn}
use Rattle.parse_exprs.proofs.lists.longest.Given as goal

abbrev pub invariant-loop-item : goal.invariant-loop-item
invariant-loop-item l =
    record {
      count : l.reached ≡ l.item-index;
      begins : l.reached ≡ 0 → is_whole l.statement ≡ false;
      some : ForSome l.best (λ count. 0 < count);
      within : ForSome l.best (λ count. count ≤ l.item-index);
      leads : LeadsOn statements (ends_statement of_items) (map shape_of (items_in l.text l.items))
          (map shape_of (items_in l.text (drop l.item-index l.items))) l.reached l.best l.statement;
    }
