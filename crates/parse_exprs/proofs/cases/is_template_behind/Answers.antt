use Rattle.parse_exprs.specs.Items.{IsItemOf}
use Rattle.parse_exprs.proofs.Taking.{all-second}
use Rattle.parse_exprs.proofs.cases.is_template_behind.Goals as goal

pub symbol_in-requires : goal.symbol_in-requires
symbol_in-requires c = all-second (IsItemOf c.args.text.now) c.args.rest.now c.in-Some.item.now c.requires c.in-Some.ensures
