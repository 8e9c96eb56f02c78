use Rattle.parent_laws.proofs.Split.{parent-in-order}
use Rattle.parent_laws.proofs.laws.law_parents_in_order.Goals as goal

pub returns : goal.returns
returns c = λ known class parent types before after classes p e h. parent-in-order known class parent types before after classes p e h
