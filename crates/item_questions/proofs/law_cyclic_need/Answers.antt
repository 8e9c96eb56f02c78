use Rattle.item_questions.proofs.Circles.{cyclic_need}
use Rattle.item_questions.proofs.law_cyclic_need.Goals as goal

pub returns : goal.returns
returns g c = λ eq exact items typing k other needs cyclic. cyclic_need eq exact items typing k other needs
