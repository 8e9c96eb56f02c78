use Rattle.std.proofs.Common.{ap, ◌∙◌, add_comm, length}
use Rattle.item_questions.specs.Rounds.{known}
use Rattle.item_questions.proofs.Rounds.{ended}
use Rattle.item_questions.proofs.law_rounds_end.Goals as goal

pub returns : goal.returns
returns g c = λ eq exact items typing more k. ap (λ i. known eq items typing i k) (add_comm (length items) more) ∙ ended eq exact items typing more k
