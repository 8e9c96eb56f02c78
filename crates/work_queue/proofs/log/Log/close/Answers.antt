use Rattle.std.proofs.Common.{◌∙◌, ◌++◌, ap}
use Rattle.ask_history.specs.Journal.{accepted}
use Rattle.work_queue.specs.Closing.{open_below, settled}
use Rattle.work_queue.proofs.Closings.{closed_at_once}
use Rattle.work_queue.proofs.log.Log.close.Goals as goal

pub returns-clause-journal : goal.returns-clause-journal
returns-clause-journal c =
    c.settle_open.ensures.journal ∙ ap (λ js. js ++ settled (open_below js (accepted js))) c.shut-index.ensures.journal ∙ closed_at_once c.args.self.now
