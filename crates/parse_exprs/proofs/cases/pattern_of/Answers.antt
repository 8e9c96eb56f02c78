use Rattle.std.proofs.Common.{sym, ◌∙◌}
use Rattle.parse_exprs.specs.Items.{IsItemOf}
use Rattle.parse_exprs.proofs.Taking.{all-rest, pattern-on}
use Rattle.parse_exprs.proofs.cases.pattern_of.Goals as goal

pub tokens-preserved : goal.tokens-preserved
tokens-preserved c = (
  all-rest (IsItemOf c.args.text.now) c.tokens.rest c.pop.new.self c.in-Some.item c.in-Some.ensures c.tokens.invariant.0,
  sym (pattern-on c.args.text.now c.tokens.rest c.pop.new.self c.in-Some.item c.tokens.pattern _ c.in-Some.ensures (sym c.admits_next.ensures ∙ c.tokens-test.true) c.in_ok-pattern.ensures) ∙ c.tokens.invariant.1,
)
