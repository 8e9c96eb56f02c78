use Rattle.std.proofs.Common.{ap, ◌∙◌}
use Rattle.std.specs.Map.{lookup}
use Rattle.lazy_completion.specs.Fitting.{item_eq}
use Rattle.lazy_completion.proofs.Memos.{or_absent, lock_apart}
use Rattle.lazy_completion.proofs.memo.Memo.lock.Goals as goal

pub invariant_of-self-2-clause-apart : goal.invariant_of-self-2-clause-apart
invariant_of-self-2-clause-apart c = λ k there.
    ap (lookup (item_eq k)) c.in_ok-reserve.ensures.entries
    ∙ lock_apart c.args.self.now.locked.keys c.insert.new.self.keys (λ k. lookup (item_eq k) c.args.self.now.values.entries) c.args.item c.requires c.args.self.now.apart
    (or_absent c.insert.result c.insert.ensures.keys c.insert.ensures.err) k there
