use Rattle.std.proofs.Common.{◌≤◌, length, subst}
use Rattle.ask_history.specs.Sources.{mutated}
use Rattle.ask_history.specs.Journal.{after}
use Rattle.work_queue.specs.Queue.{QueueState}
use Rattle.work_queue.proofs.LoadedFiles.{few_files}
use Rattle.work_queue.proofs.queue.Queue.call.Goals as goal

pub returns-clause-few : goal.returns-clause-few
returns-clause-few c =
    subst (λ (q : QueueState). length (mutated (after q.journal) c.call.result.now) ≤ 1024) c.self.view_is
    (few_files c.self.inside c.self.invariant c.args.ticket c.call.result.now c.call.ensures)
