use Rattle.std.proofs.Common.{◌≡◌, ◌<◌, ◌≤◌, false, drop, map}
use Rattle.std.specs.Option.{ForSome}
use Rattle.tree_parser.proofs.Loops.{LeadsOn}
use Rattle.parse_exprs.specs.Lists.{ends_statement}
use Rattle.template_steps.specs.Pieces.{of_parts, parts_in, shape_of}
use Rattle.template_steps.specs.Statements.{statements, is_whole}
use Rattle.tree_parser.proofs.lists.longest.Given as goal

-- the pieces that are left give the same longest statement
abbrev pub invariant-loop-piece : goal.invariant-loop-piece
invariant-loop-piece l =
    record {
      count : l.reached ≡ l.piece-index;
      begins : l.reached ≡ 0 → is_whole l.kind l.statement ≡ false;
      some : ForSome l.best (λ count. 0 < count);
      within : ForSome l.best (λ count. count ≤ l.piece-index);
      leads : LeadsOn (statements l.kind) (ends_statement of_parts) (map shape_of (parts_in l.text l.pieces))
          (map shape_of (parts_in l.text (drop l.piece-index l.pieces))) l.reached l.best l.statement;
    }
