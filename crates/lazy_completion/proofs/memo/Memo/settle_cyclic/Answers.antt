use Rattle.std.proofs.Common.{◌∙◌}
use Rattle.lazy_completion.proofs.Memos.{settles_one}
use Rattle.lazy_completion.proofs.memo.Memo.settle_cyclic.Goals as goal

pub loop-self-preserved : goal.loop-self-preserved
loop-self-preserved c = λ k. settles_one _ _ c.settle.ensures k ∙ c.loop-self.invariant k
