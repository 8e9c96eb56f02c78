use Rattle.std.proofs.Common.{◌≡◌, ◌-◌, ap, ◌∙◌, get_or, length, arith}
use Rattle.tree_parser.specs.Packaged.{name_span, path_span}
use Rattle.tree_parser.proofs.Ends.{ends}
use Rattle.tree_parser.proofs.packages.path_span.Goals as goal

pub returns-in-len2-up : goal.returns-in-len2-up
returns-in-len2-up c =
    ends name_span c.as_slice.result.now c.first-item.result c.last-item.result (omega (arith, c.in-len2-up.len_at_least)) c.first-item.is c.last-item.is
    ∙ ap path_span c.as_slice.ensures
