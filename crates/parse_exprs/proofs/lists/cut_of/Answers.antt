use Rattle.std.proofs.Common.{ℕ, false, true, Option, take, ap, sym, ◌∙◌}
use Rattle.pc_terms.specs.declared.problems.Span.{Span}
use Rattle.parse_exprs.specs.Items.{items_in}
use Rattle.parse_exprs.specs.Lists.{Cut, of_items, cut_of, items_span}
use Rattle.parse_exprs.proofs.Spans.{first_span}
use Rattle.parse_exprs.proofs.lists.cut_of.Goals as goal

pub returns-in-Some-clause-is : goal.returns-in-Some-clause-is
returns-in-Some-clause-is c =
    ap {A = Span} {B = Cut} (λ s. record { skip = c.args.skip; count = c.in-Some.count; broken = false; span = s })
    (c.items_span.ensures ∙ first_span c.args.text.now c.in-Some.count c.args.items.now)
    ∙ ap (λ (best : Option ℕ). cut_of of_items c.args.skip best (items_in c.args.text.now c.args.items.now)) (sym c.in-Some.is)

pub returns-in-None-clause-is : goal.returns-in-None-clause-is
returns-in-None-clause-is c =
    ap {A = Span} {B = Cut} (λ s. record { skip = c.args.skip; count = c.broken_length-count.result; broken = true; span = s })
    (c.items_span-in-None.ensures ∙ first_span c.args.text.now c.broken_length-count.result c.args.items.now)
    ∙ ap {B = Cut} (λ (n : ℕ). record { skip = c.args.skip; count = n; broken = true; span = items_span of_items (take n (items_in c.args.text.now c.args.items.now)) }) c.broken_length-count.ensures.is
    ∙ ap (λ (best : Option ℕ). cut_of of_items c.args.skip best (items_in c.args.text.now c.args.items.now)) (sym c.in-None.is)
