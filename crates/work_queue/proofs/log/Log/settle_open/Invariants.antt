use Rattle.work_queue.proofs.Closings.{IsSettling}
use Rattle.work_queue.proofs.log.Log.settle_open.Given as goal

abbrev pub invariant-loop-ticket : goal.invariant-loop-ticket
invariant-loop-ticket l = IsSettling l.initial.self l.self l.ticket
