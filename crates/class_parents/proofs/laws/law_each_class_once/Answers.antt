use Rattle.class_parents.specs.Parents.{max_steps}
use Rattle.class_parents.proofs.Once.{line-once}
use Rattle.class_parents.proofs.laws.law_each_class_once.Goals as goal

pub returns : goal.returns
returns c = λ known class classes h. line-once known max_steps class classes h
