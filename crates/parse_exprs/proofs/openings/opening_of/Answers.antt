use Rattle.std.proofs.Common.{◌-◌, length, ap, sym, ◌∙◌, arith}
use Rattle.parse_exprs.specs.declared.contents.Opening.TheVariants as opening
use Rattle.parse_exprs.specs.Items.{items_in}
use Rattle.parse_exprs.specs.Levels as spec
use Rattle.parse_exprs.proofs.Opening.{behind-last}
use Rattle.parse_exprs.proofs.openings.opening_of.Goals as goal

pub returns-in-len1-up : goal.returns-in-len1-up
returns-in-len1-up c =
    let items = c.as_slice.result.now in
    let last = c.last-item.result in
    c.opening_behind.ensures ∙ ap spec.opening_behind c.symbol_in.ensures
    ∙ sym (behind-last c.args.text.now items opening.Other last (length items - 1) (omega (arith, c.in-len1-up.len_at_least)) c.last-item.is)
    ∙ ap (λ xs. spec.opening_of opening.Other (items_in c.args.text.now xs)) c.as_slice.ensures
