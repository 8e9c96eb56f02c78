use Rattle.ask_history.proofs.Accepted.{settled_once}
use Rattle.ask_history.proofs.laws.law_settled_once.Goals as goal

pub returns : goal.returns
returns c = settled_once
