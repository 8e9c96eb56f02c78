use Rattle.std.proofs.Common.{◌∙◌, ◌+◌, ◌<◌, sym, ap, subst, arith}
use Rattle.ask_history.specs.Journal.{accepted}
use Rattle.ask_history.proofs.Orders.{is_open-from, is_next-from}
use Rattle.work_queue.specs.Queue.{QueueState}
use Rattle.work_queue.proofs.Closings.{IsSettling, settling-more}
use Rattle.queue_bench.proofs.session.settle_all.Goals as goal

pub settle-effect-requires-clause-unanswered : goal.settle-effect-requires-clause-unanswered
settle-effect-requires-clause-unanswered c =
    let start = c.args.queue.now.journal in
    let ticket = c.loop-ticket.ticket in
    let within : ticket < accepted start = omega (arith, c.accepted-ticket-end.ensures) in
    c.loop-ticket.invariant.ahead ticket (omega arith) ∙ is_open-from start ticket c.requires.legal within (c.requires.unsettled ticket)

pub settle-effect-requires-clause-next : goal.settle-effect-requires-clause-next
settle-effect-requires-clause-next c = is_next-from c.loop-ticket.queue.journal c.loop-ticket.ticket c.loop-ticket.invariant.done

pub loop-ticket-preserved : goal.loop-ticket-preserved
loop-ticket-preserved c =
    let start = c.args.queue.now.journal in
    let ticket = c.loop-ticket.ticket in
    let within : ticket < accepted start = omega (arith, c.accepted-ticket-end.ensures) in
    subst (λ js. IsSettling start js (ticket + 1)) (sym (ap (λ (q : QueueState). q.journal) c.settle-effect.ensures.queue))
    (settling-more start c.loop-ticket.queue.journal ticket c.loop-ticket.invariant
    (c.loop-ticket.invariant.ahead ticket (omega arith) ∙ is_open-from start ticket c.requires.legal within (c.requires.unsettled ticket)))
