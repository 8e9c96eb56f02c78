use Rattle.std.proofs.Common.{◌≡◌, [], Option, ap, sym, ◌∙◌}
use Rattle.pc_terms.specs.declared.problems.Span.{Span}
use Rattle.parse_parts.specs.Built.{no_kids}
use Rattle.parse_exprs.specs.Lists.{divided, pieces_by, whole_span}
use Rattle.template_steps.specs.Pieces.{of_parts, parts_in}
use Rattle.template_steps.specs.Statements.{statements, built_until}
use Rattle.tree_parser.proofs.Building.{build}
use Rattle.tree_parser.proofs.lists.built_list.Goals as goal

pub returns : goal.returns
returns c =
    let text = c.args.text.now in
    let kind = c.args.kind in
    let all = divided of_parts (statements kind) built_until (parts_in text c.args.pieces) in
    let cuts = c.in_ok-cuts.ensures ∙ ap (λ l. divided of_parts (statements kind) built_until (parts_in text l)) c.as_slice.ensures in
    (λ i. record { kids = c.in_ok-kids.kids; free = c.new.ensures i; span = (c.whole_span-span.ensures ∙ ap whole_span (c.as_slice-2.ensures ∙ cuts)) i })
    ∙ sym (c.in_ok-kids.ensures (whole_span all))
    ∙ ap (λ l. build kind (whole_span all) no_kids [] (pieces_by of_parts l (parts_in text c.from_row.result))) (c.as_slice-3.ensures ∙ cuts)
    ∙ ap (λ l. build kind (whole_span all) no_kids [] (pieces_by of_parts all (parts_in text l))) c.from_row.ensures
