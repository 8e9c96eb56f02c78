use Rattle.std.proofs.Common.{[], ap, ◌∙◌}
use Rattle.parse_parts.specs.Built.{no_kids}
use Rattle.parse_exprs.specs.Items.{items_in}
use Rattle.parse_exprs.specs.Lists.{of_items, divided, pieces_by, whole_span}
use Rattle.parse_exprs.specs.Statements.{statements, built_until}
use Rattle.parse_exprs.proofs.Building.{build}
use Rattle.parse_exprs.proofs.lists.built_list.Goals as goal

pub returns : goal.returns
returns c =
    let text = c.args.text.now in
    let cuts = c.in_ok-cuts.ensures ∙ ap (λ l. divided of_items statements built_until (items_in text l)) c.as_slice.ensures in
    let span = c.whole_span-span.ensures ∙ ap whole_span (c.as_slice-2.ensures ∙ cuts) in
    let same = c.as_slice-3.ensures ∙ cuts in
    c.in_ok-list.ensures ∙ λ i. build (span i) no_kids [] (pieces_by of_items (same i) (items_in text (c.from_row.ensures i)))
