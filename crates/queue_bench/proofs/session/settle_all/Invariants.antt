use Rattle.work_queue.proofs.Closings.{IsSettling}
use Rattle.queue_bench.proofs.session.settle_all.Given as goal

abbrev pub invariant-loop-ticket : goal.invariant-loop-ticket
invariant-loop-ticket l = IsSettling l.initial.queue.journal l.queue.journal l.ticket
