use Rattle.std.proofs.Common.{◌≡◌, drop}
use Rattle.work_queue.specs.Refusal.{too_large}
use Rattle.work_queue.proofs.calls.too_large.Given as goal

abbrev pub invariant-loop-pair : goal.invariant-loop-pair
invariant-loop-pair l = too_large l.limit (drop l.pair-index l.pairs) ≡ too_large l.limit l.pairs
