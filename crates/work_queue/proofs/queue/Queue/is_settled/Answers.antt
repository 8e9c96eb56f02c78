use Rattle.std.proofs.Common.{◌<◌, ◌∙◌, sym, ap, subst}
use Rattle.ask_history.specs.Journal.{accepted, is_closed}
use Rattle.work_queue.specs.Queue.{QueueState}
use Rattle.work_queue.proofs.queue.Queue.is_settled.Goals as goal

pub returns-clause-shut : goal.returns-clause-shut
returns-clause-shut c = λ closed within.
    c.is_settled.ensures
    ∙ c.self.invariant.answered (ap (λ (q : QueueState). is_closed q.journal) c.self.view_is ∙ closed) c.args.ticket
    (subst (λ (q : QueueState). c.args.ticket < accepted q.journal) (sym c.self.view_is) within)
