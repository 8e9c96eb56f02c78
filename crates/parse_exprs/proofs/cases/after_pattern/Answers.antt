use Rattle.std.proofs.Common.{◌∙◌, ap, sym}
use Rattle.parse_exprs.specs.Cases as spec
use Rattle.parse_exprs.specs.Items.{items_in}
use Rattle.parse_exprs.proofs.Guards.{guarded}
use Rattle.parse_exprs.proofs.cases.after_pattern.Goals as goal

pub returns-in_ok-guard-in-Some-clause-is : goal.returns-in_ok-guard-in-Some-clause-is
returns-in_ok-guard-in-Some-clause-is c =
    let text = c.args.text.now in
    c.arrow_behind-in-Some.ensures.is
    ∙ guarded text c.args.word c.args.pattern c.in_ok-guard-in-Some.guard c.in-Some.state c.args.rest.now c.guard_of.new.rest
    (ap spec.is_if_next (sym c.next_symbol.ensures) ∙ sym c.is_if_next.ensures ∙ c.if-not-is_if_next.false)
    (ap (λ found. spec.behind found (items_in text c.guard_of.new.rest)) (sym c.in-Some.is) ∙ c.in_ok-state.ensures.is
    ∙ ap (λ rest. spec.guard_of _ (items_in text rest)) c.dropped.ensures)
    c.in_ok-guard-in-Some.ensures
