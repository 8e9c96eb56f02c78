use Rattle.std.proofs.Common.{◌≡◌, IfOk, ap, sym, ◌∙◌, subst}
use Rattle.parse_exprs.specs.Contents.{head_of}
use Rattle.parse_exprs.specs.Items.{items_in}
use Rattle.parse_exprs.proofs.Heads.{block-behind}
use Rattle.parse_exprs.proofs.contents.block_of.Goals as goal

pub returns-in_ok-list-in-Some : goal.returns-in_ok-list-in-Some
returns-in_ok-list-in-Some c =
    let text = c.args.text.now in
    let head = sym (c.in_ok-params.ensures ∙ ap (λ l. head_of (items_in text l)) c.as_slice.ensures) ∙ c.in-Some.is in
    subst (λ block. IfOk c.lambda_over.result (λ b. b ≡ block))
    (block-behind text c.args.span c.args.items c.in_ok-items-in-Some.items c.in-Some.params c.in_ok-list-in-Some.list head c.in_ok-items-in-Some.ensures c.in_ok-list-in-Some.ensures)
    c.lambda_over.ensures
