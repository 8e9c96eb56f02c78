use Rattle.std.proofs.Common.{◌∙◌}
use Rattle.std.specs.Option.{option_or}
use Rattle.session_input.proofs.counts.first_passed.Goals as goal

pub returns : goal.returns
returns c =
    let two = c.or.ensures ∙ (λ i. option_or (c.passed.ensures i) (c.passed-2.ensures i)) in
    let three = c.or-2.ensures ∙ (λ i. option_or (two i) (c.passed-3.ensures i)) in
    c.or-3.ensures ∙ (λ i. option_or (three i) (c.passed-4.ensures i))
