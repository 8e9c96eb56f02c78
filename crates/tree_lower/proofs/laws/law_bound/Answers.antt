use Rattle.tree_lower.proofs.KeptOperations.{bound-kept}
use Rattle.tree_lower.proofs.laws.law_bound.Goals as goal

pub returns : goal.returns
returns c = bound-kept
