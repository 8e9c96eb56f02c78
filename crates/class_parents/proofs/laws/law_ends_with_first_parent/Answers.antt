use Rattle.class_parents.proofs.Once.{ends}
use Rattle.class_parents.proofs.laws.law_ends_with_first_parent.Goals as goal

pub returns : goal.returns
returns c = λ known class parent first others classes p e h. ends known class classes parent first others p e h
