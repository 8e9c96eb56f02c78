use Rattle.std.proofs.Common.{◌≡◌, ◌∙◌, ◌+◌, Bool, true, false, not, refl, sym, subst}
use Rattle.work_queue.proofs.Closings.{IsSettling, settling_may, settling-more, settling-skip}
use Rattle.work_queue.proofs.log.Log.settle_open.Goals as goal
use Rattle.work_queue.proofs.log.Log.settle_open.Goals.{then-is_open, else-is_open}

pub settle-requires : goal.settle-requires
settle-requires c = settling_may c.args.self.now c.loop-ticket.self c.loop-ticket.ticket c.loop-ticket.invariant (sym c.is_open.ensures.unanswered ∙ c.if-is_open.true)

not-true : (b : Bool) → not b ≡ false → b ≡ true
not-true true h = refl
not-true false h = sym h

pub loop-ticket-preserved : goal.loop-ticket-preserved
loop-ticket-preserved c =
    let start = c.args.self.now in
    let now = c.loop-ticket.self in
    let ticket = c.loop-ticket.ticket in
    elim c.if-is_open.branch [
      | then-is_open w ↦ subst (λ js. IsSettling start js (ticket + 1)) (sym (w.self-is ∙ w.settle.ensures.journal))
          (settling-more start now ticket c.loop-ticket.invariant (sym c.is_open.ensures.unanswered ∙ w.if-is_open.true))
      | else-is_open w ↦ subst (λ js. IsSettling start js (ticket + 1)) (sym w.self-is)
          (settling-skip start now ticket c.loop-ticket.invariant (sym c.is_open.ensures.unanswered ∙ w.if-is_open.false)
          (not-true _ (sym c.is_open.ensures.unsettled ∙ w.if-is_open.false)))
    ]
