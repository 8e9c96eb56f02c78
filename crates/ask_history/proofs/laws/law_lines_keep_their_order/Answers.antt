use Rattle.ask_history.proofs.Nestings.{in_order-nested}
use Rattle.ask_history.proofs.laws.law_lines_keep_their_order.Goals as goal

pub returns : goal.returns
returns c = in_order-nested
