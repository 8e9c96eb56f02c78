use Rattle.std.proofs.Common.{sym, ◌∙◌}
use Rattle.parse_exprs.specs.Items.{IsItemOf}
use Rattle.parse_exprs.specs.Statements.{stepped}
use Rattle.parse_exprs.proofs.Taking.{all-rest, run-on}
use Rattle.parse_exprs.proofs.lists.read.Goals as goal

pub items-preserved : goal.items-preserved
items-preserved c = (
  all-rest (IsItemOf c.args.text.now) c.items.rest c.pop.new.self c.in-Some.item c.in-Some.ensures c.items.invariant.0,
  sym (run-on stepped c.args.text.now c.items.rest c.pop.new.self c.in-Some.item c.items.statement c.in-Some-2.next c.in-Some.ensures (sym c.in_ok-next.ensures ∙ c.in-Some-2.is)) ∙ c.items.invariant.1,
)
