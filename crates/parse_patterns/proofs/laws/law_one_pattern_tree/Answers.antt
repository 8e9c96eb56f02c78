use Rattle.parse_patterns.proofs.Exact.{one-tree}
use Rattle.parse_patterns.proofs.laws.law_one_pattern_tree.Goals as goal

pub returns : goal.returns
returns c xs t u a b = one-tree xs t u a b
