use Rattle.std.proofs.Common.{◌≡◌, Some, drop, ap, sym, ◌∙◌}
use Rattle.parse_exprs.specs.Contents.{head_of, lambda_over}
use Rattle.template_steps.specs.Pieces.{parts_in}
use Rattle.template_steps.specs.Statements.{list_of}
use Rattle.template_steps.specs.declared.statements.ListKind.TheVariants.{Procedure}
use Rattle.tree_parser.specs.Blocks.{begins_with_case, leading_tokens}
use Rattle.tree_parser.proofs.Leading.{lambda_block}
use Rattle.tree_parser.proofs.blocks.block_of.Goals as goal

pub returns-in-Some : goal.returns-in-Some
returns-in-Some c =
    let text = c.args.text.now in
    let span = c.args.span in
    let params = c.in-Some.params in
    let list = c.in_ok-list-in-Some.ensures ∙ ap (λ l. list_of Procedure (parts_in text l)) c.in_ok-pieces-in-Some.ensures in
    ap Some (c.in_ok-lambda_over-in-Some.ensures ∙ ap (lambda_over span params) list)
    ∙ sym (lambda_block text span c.args.pieces params
    (ap (λ l. begins_with_case (parts_in text l)) (sym c.as_slice.ensures) ∙ sym c.begins_with_case.ensures ∙ c.if-begins_with_case.false)
    (ap (λ l. head_of (leading_tokens (parts_in text l))) (sym c.as_slice-2.ensures) ∙ ap head_of (sym c.in_ok-heads.ensures.is)
    ∙ ap (λ l. head_of (Rattle.parse_exprs.specs.Items.items_in text l)) (sym c.as_slice-3.ensures) ∙ sym c.in_ok-params.ensures ∙ c.in-Some.is))
