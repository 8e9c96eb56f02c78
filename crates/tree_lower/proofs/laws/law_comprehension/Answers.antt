use Rattle.tree_lower.proofs.KeptFor.{comprehension-kept}
use Rattle.tree_lower.proofs.laws.law_comprehension.Goals as goal

pub returns : goal.returns
returns c = comprehension-kept
