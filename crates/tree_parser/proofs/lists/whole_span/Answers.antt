use Rattle.std.proofs.Common.{◌≡◌, ◌≤◌, ◌∙◌, Some, length, map, ap, refl, arith}
use Rattle.std.proofs.lemmas.List.{length-map}
use Rattle.parse_exprs.specs.Lists.{cut_span}
use Rattle.tree_parser.proofs.Ends.{ends_at, over_some}
use Rattle.tree_parser.proofs.lists.whole_span.Goals as goal

pub returns-in-len2-up : goal.returns-in-len2-up
returns-in-len2-up c =
    ap Some (ends_at cut_span c.args.cuts.now _ (omega (arith, c.in-len2-up.len_at_least)))
    ∙ over_some (map cut_span c.args.cuts.now) (omega (arith, length-map c.args.cuts.now cut_span, c.in-len2-up.len_at_least))
