use Rattle.std.proofs.Common.{length}
use Rattle.item_questions.proofs.Rounds.{typed, typed-known, final-has, has-final}
use Rattle.item_questions.proofs.law_settled.Goals as goal

pub returns : goal.returns
returns g c = λ eq exact items typing k v listed. (
  λ h. (typed eq exact items typing (length items) k v (has-final eq exact items typing k v h)).1,
  λ h. final-has eq exact items typing k v (typed-known eq exact items typing k v listed h),
)
