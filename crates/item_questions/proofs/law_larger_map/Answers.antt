use Rattle.item_questions.proofs.Answers.{run-more, run_on-more}
use Rattle.item_questions.specs.Questions.{Has}
use Rattle.item_questions.proofs.law_larger_map.Goals as goal

pub returns : goal.returns
returns g c = λ few many more q a. (run-more few many (λ k v. more k (Has v)) q a, run_on-more few many more q a)
