use Rattle.std.proofs.Common.{◌∙◌, is_some, sym, ap}
use Rattle.ask_history.specs.Journal.{is_close, is_closed}
use Rattle.work_queue.specs.Queue.{QueueState}
use Rattle.work_queue.proofs.EventIndexes.{list_any-index_of}
use Rattle.work_queue.proofs.queue.Queue.is_closed.Goals as goal

pub returns : goal.returns
returns c =
    c.is_some.ensures ∙ ap is_some c.close_index.ensures ∙ sym (list_any-index_of is_close c.self.inside.log)
    ∙ ap (λ (q : QueueState). is_closed q.journal) c.self.view_is
