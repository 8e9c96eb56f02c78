use Rattle.tree_lower.proofs.KeptOperations.{updated-kept}
use Rattle.tree_lower.proofs.laws.law_updated.Goals as goal

pub returns : goal.returns
returns c = updated-kept
