use Rattle.work_queue.proofs.Counting.{IsCounted}
use Rattle.work_queue.proofs.tally.Tally.compared_usage.Given as goal

abbrev pub invariant-loop-i : goal.invariant-loop-i
invariant-loop-i l = IsCounted l.self l.pairs l.i l.usage
