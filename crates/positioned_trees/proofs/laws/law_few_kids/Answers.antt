use Rattle.positioned_trees.proofs.Siblings.{few-apart}
use Rattle.positioned_trees.proofs.laws.law_few_kids.Goals as goal

pub returns : goal.returns
returns c = few-apart
