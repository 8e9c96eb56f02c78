use Rattle.std.proofs.Common.{◌∙◌, ◌∷◌, [], ap, refl}
use Rattle.ask_history.specs.Journal.{is_settled}
use Rattle.ask_history.specs.declared.events.Event.TheVariants.{Accept}
use Rattle.work_queue.specs.Queue.{QueueState, cancelling}
use Rattle.queue_bench.proofs.Unsettled.{is_settled-unsettled, cancelling-unsettled}
use Rattle.queue_bench.proofs.session.post.Goals as goal
use Rattle.queue_bench.proofs.session.post.Goals.{in-Ok+then-cancels, in-Ok+else-cancels, in-Err}

pub returns-clause-unsettled : goal.returns-clause-unsettled
returns-clause-unsettled c = λ ticket.
    let settled_in = λ (q : QueueState). is_settled q.journal ticket in
    elim c.match-post.branch [
      | in-Ok+then-cancels w ↦
          ap settled_in (w.queue-is ∙ w.cancel.ensures.queue)
          ∙ is_settled-unsettled c.post.new.self.journal (cancelling c.post.new.self.journal w.in-Ok.ticket) ticket
          (ap settled_in w.in-Ok.ensures.ok
          ∙ is_settled-unsettled c.args.queue.now.journal (Accept w.in-Ok.ticket 0 1 c.args.call ∷ []) ticket (c.requires.unsettled ticket) refl)
          (cancelling-unsettled c.post.new.self.journal w.in-Ok.ticket ticket)
      | in-Ok+else-cancels w ↦
          ap settled_in (w.queue-is ∙ w.in-Ok.ensures.ok)
          ∙ is_settled-unsettled c.args.queue.now.journal (Accept w.in-Ok.ticket 0 1 c.args.call ∷ []) ticket (c.requires.unsettled ticket) refl
      | in-Err w ↦ ap settled_in (w.queue-is ∙ w.in-Err.ensures.err) ∙ c.requires.unsettled ticket
    ]
