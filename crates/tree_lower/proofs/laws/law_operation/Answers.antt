use Rattle.tree_lower.proofs.KeptOperations.{operation-kept}
use Rattle.tree_lower.proofs.laws.law_operation.Goals as goal

pub returns : goal.returns
returns c = operation-kept
