use Rattle.parse_parts.proofs.Exact.{one-tree}
use Rattle.parse_parts.proofs.laws.law_one_tree.Goals as goal

pub returns : goal.returns
returns c = one-tree
