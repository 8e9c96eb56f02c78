use Rattle.std.proofs.Common.{sym, ◌∙◌}
use Rattle.parse_exprs.specs.Items.{IsItemOf}
use Rattle.parse_exprs.proofs.Taking.{all-rest, guard-on}
use Rattle.parse_exprs.proofs.cases.guard_of.Goals as goal

pub guard-preserved : goal.guard-preserved
guard-preserved c = (
  all-rest (IsItemOf c.args.text.now) c.guard.rest c.pop.new.self c.in-Some.item c.in-Some.ensures c.guard.invariant.0,
  sym (guard-on c.args.text.now c.guard.rest c.pop.new.self c.in-Some.item c.guard.state c.in-Some-2.next c.in-Some.ensures (sym c.is_guard_over.ensures ∙ c.guard-test.true) (sym c.in_ok-next.ensures ∙ c.in-Some-2.is)) ∙ c.guard.invariant.1,
)
