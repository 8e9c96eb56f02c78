use Rattle.positioned_trees.proofs.Spans.{enclosed}
use Rattle.positioned_trees.proofs.laws.law_enclosed.Goals as goal

pub returns : goal.returns
returns c tree = enclosed tree
