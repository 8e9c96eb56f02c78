use Rattle.std.proofs.Common.{◌≡◌, ◌++◌, drop}
use Rattle.std.specs.List.{All}
use Rattle.parse_exprs.specs.Items.{IsItemOf, items_in}
use Rattle.template_steps.specs.Pieces.{parts_in}
use Rattle.tree_parser.specs.Blocks.{leading_tokens}
use Rattle.tree_parser.proofs.blocks.leading_tokens.Given as goal

abbrev pub invariant-loop-piece : goal.invariant-loop-piece
invariant-loop-piece l =
    All (IsItemOf l.text) l.items
    × (items_in l.text l.items ++ leading_tokens (parts_in l.text (drop l.piece-index l.pieces)) ≡ leading_tokens (parts_in l.text l.pieces))
