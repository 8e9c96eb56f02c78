use Rattle.class_parents.proofs.Once.{begins}
use Rattle.class_parents.proofs.laws.law_begins_with_class.Goals as goal

pub returns : goal.returns
returns c = λ known class classes h. begins known class classes h
