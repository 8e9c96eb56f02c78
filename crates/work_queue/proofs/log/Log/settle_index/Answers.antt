use Rattle.std.proofs.Common.{◌≡◌, ◌∙◌, ℕ, Option, Some, None, not, is_some, is_none, refl, sym, ap}
use Rattle.work_queue.proofs.Logs.{is_settled-read, is_open-listed}
use Rattle.work_queue.proofs.log.Log.settle_index.Goals as goal

is_none-is : (o : Option ℕ) → not (is_some o) ≡ is_none o
is_none-is None = refl
is_none-is (Some p) = refl

pub returns-clause-unanswered : goal.returns-clause-unanswered
returns-clause-unanswered c =
    is_open-listed c.self.inside c.self.invariant _ c.self.view_is c.args.ticket c.requires c.index.result.now c.index.ensures
    ∙ ap not (sym (is_settled-read c.self.inside c.self.invariant _ c.self.view_is c.args.ticket c.requires c.index.result.now c.index.ensures))
    ∙ is_none-is c.index.result.now.settle
