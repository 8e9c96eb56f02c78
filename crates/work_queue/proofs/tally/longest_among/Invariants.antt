use Rattle.std.proofs.Common.{◌≡◌, take}
use Rattle.work_queue.specs.Reloads.{longest}
use Rattle.work_queue.proofs.tally.longest_among.Given as goal

abbrev pub invariant-loop-pair : goal.invariant-loop-pair
invariant-loop-pair l = l.most ≡ longest (take l.pair-index l.pairs) l.name
