use Rattle.ask_history.proofs.Walks.{is_legal-prefix}
use Rattle.ask_history.proofs.laws.law_legal_prefixes.Goals as goal

pub returns : goal.returns
returns c = is_legal-prefix
