use Rattle.std.proofs.Common.{◌≡◌, ◌∙◌, arith}
use Rattle.template_steps.specs.Pieces.{span_of}
use Rattle.tree_parser.proofs.Ends.{ends}
use Rattle.tree_parser.proofs.lists.pieces_span.Goals as goal

pub returns-in-len2-up : goal.returns-in-len2-up
returns-in-len2-up c =
    (λ i. record { start = (c.span_of-in-len2-up.ensures i).start; end = (c.span_of-in-len2-up-2.ensures i).end })
    ∙ ends span_of c.args.pieces.now c.first-item.result c.last-item.result (omega (arith, c.in-len2-up.len_at_least)) c.first-item.is c.last-item.is
