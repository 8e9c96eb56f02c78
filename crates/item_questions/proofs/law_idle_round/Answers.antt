use Rattle.std.proofs.Common.{ap, ◌∙◌, ◌≡◌, ◌+◌, suc, add_comm, arith}
use Rattle.item_questions.specs.Rounds.{known}
use Rattle.item_questions.proofs.Rounds.{after_last}
use Rattle.item_questions.proofs.law_idle_round.Goals as goal

pub returns : goal.returns
returns g c = λ eq exact items typing n last more k.
    ap (λ i. known eq items typing i k) (add_comm n more)
    ∙ after_last eq exact items typing more n (λ k. let one : suc n ≡ n + 1 = omega arith in ap (λ i. known eq items typing i k) one ∙ last k) k
