use Rattle.tree_lower.proofs.KeptOperations.{prefixed-kept}
use Rattle.tree_lower.proofs.laws.law_prefixed.Goals as goal

pub returns : goal.returns
returns c = prefixed-kept
