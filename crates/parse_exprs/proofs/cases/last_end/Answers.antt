use Rattle.std.proofs.Common.{map, ap, sym, ◌∙◌}
use Rattle.parse_exprs.specs.Items.{span_of}
use Rattle.parse_exprs.specs.Lists.{end_of}
use Rattle.parse_exprs.proofs.Spans.{spans_in}
use Rattle.parse_exprs.proofs.cases.last_end.Goals as goal

pub returns : goal.returns
returns c =
    c.end_of.ensures ∙ ap (λ xs. end_of c.args.arrow.end (map span_of xs)) c.as_slice.ensures
    ∙ ap (end_of c.args.arrow.end) (sym (spans_in c.args.text.now c.args.items.now))
