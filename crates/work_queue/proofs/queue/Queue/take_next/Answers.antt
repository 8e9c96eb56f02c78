use Rattle.std.proofs.Common.{◌≡◌, ◌≢◌, ◌∙◌, ◌+◌, ◌==◌, Bool, true, false, ◌||◌, Some, None, is_some, refl, sym, ap}
use Rattle.std.proofs.lemmas.Bool.{cond-true, cond-false, eq-eqb, ne_eqb}
use Rattle.ask_history.specs.Journal.{accepted, is_close, is_closed}
use Rattle.work_queue.specs.Queue.{QueueState, is_given_all, next_ticket, after_next}
use Rattle.work_queue.specs.Indexes.{close_index}
use Rattle.work_queue.proofs.EventIndexes.{list_any-index_of}
use Rattle.work_queue.proofs.queue.Queue.take_next.Goals as goal
use Rattle.work_queue.proofs.queue.Queue.take_next.Goals.{then-is_some-via-then-is_some, then-is_some-via-else-is_some+then-self-accepted}

module _ (queue : QueueState) where
  or-true : (b : Bool) → (b || true) ≡ true
  or-true true = refl
  or-true false = refl

  closed_all : is_some (close_index queue.journal) ≡ true → is_given_all queue ≡ true
  closed_all h = ap (λ b. b || (queue.given == accepted queue.journal)) (list_any-index_of is_close queue.journal ∙ h)

  given_all : queue.given ≡ accepted queue.journal → is_given_all queue ≡ true
  given_all h = ap (λ b. is_closed queue.journal || b) (eq-eqb queue.given (accepted queue.journal) h) ∙ or-true (is_closed queue.journal)

  not_all : is_some (close_index queue.journal) ≡ false → queue.given ≢ accepted queue.journal → is_given_all queue ≡ false
  not_all h k = λ j. (list_any-index_of is_close queue.journal ∙ h) j || ne_eqb queue.given (accepted queue.journal) k j

  none-all : is_given_all queue ≡ true → None ≡ next_ticket queue
  none-all h = sym (cond-true (is_given_all queue) None (Some queue.given) h)

  same-all : is_given_all queue ≡ true → queue ≡ after_next queue
  same-all h = sym (cond-true (is_given_all queue) queue (record queue { given = queue.given + 1 }) h)

  some-next : is_given_all queue ≡ false → Some queue.given ≡ next_ticket queue
  some-next h = sym (cond-false (is_given_all queue) None (Some queue.given) h)

  given-next : is_given_all queue ≡ false → record queue { given = queue.given + 1 } ≡ after_next queue
  given-next h = sym (cond-false (is_given_all queue) queue (record queue { given = queue.given + 1 }) h)

pub returns-then-is_some-clause-ticket : goal.returns-then-is_some-clause-ticket
returns-then-is_some-clause-ticket c =
    let queue : QueueState = record { journal = c.self.inside.log; limits = c.self.inside.limits; given = c.self.inside.given } in
    elim c.then-is_some.branch [
      | then-is_some-via-then-is_some w ↦
          none-all queue (closed_all queue (ap is_some (sym c.close_index.ensures) ∙ sym c.is_some.ensures ∙ w.if-is_some.true)) ∙ ap next_ticket c.self.view_is
      | then-is_some-via-else-is_some+then-self-accepted w ↦
          none-all queue (given_all queue (w.if-self-accepted.true ∙ w.accepted.ensures ∙ ap (λ (q : QueueState). accepted q.journal) (sym c.self.view_is))) ∙ ap next_ticket c.self.view_is
    ]

pub returns-then-is_some-clause-queue : goal.returns-then-is_some-clause-queue
returns-then-is_some-clause-queue c =
    let queue : QueueState = record { journal = c.self.inside.log; limits = c.self.inside.limits; given = c.self.inside.given } in
    elim c.then-is_some.branch [
      | then-is_some-via-then-is_some w ↦
          sym c.self.view_is ∙ same-all queue (closed_all queue (ap is_some (sym c.close_index.ensures) ∙ sym c.is_some.ensures ∙ w.if-is_some.true)) ∙ ap after_next c.self.view_is
      | then-is_some-via-else-is_some+then-self-accepted w ↦
          sym c.self.view_is
          ∙ same-all queue (given_all queue (w.if-self-accepted.true ∙ w.accepted.ensures ∙ ap (λ (q : QueueState). accepted q.journal) (sym c.self.view_is)))
          ∙ ap after_next c.self.view_is
    ]

pub returns-clause-ticket : goal.returns-clause-ticket
returns-clause-ticket c =
    let queue : QueueState = record { journal = c.self.inside.log; limits = c.self.inside.limits; given = c.self.inside.given } in
    let same : c.accepted.result ≡ accepted queue.journal = c.accepted.ensures ∙ ap (λ (q : QueueState). accepted q.journal) (sym c.self.view_is) in
    some-next queue (not_all queue (ap is_some (sym c.close_index.ensures) ∙ sym c.is_some.ensures ∙ c.if-is_some.false) (λ e. c.if-self-accepted.false (e ∙ sym same)))
    ∙ ap next_ticket c.self.view_is

pub returns-clause-queue : goal.returns-clause-queue
returns-clause-queue c =
    let queue : QueueState = record { journal = c.self.inside.log; limits = c.self.inside.limits; given = c.self.inside.given } in
    let same : c.accepted.result ≡ accepted queue.journal = c.accepted.ensures ∙ ap (λ (q : QueueState). accepted q.journal) (sym c.self.view_is) in
    given-next queue (not_all queue (ap is_some (sym c.close_index.ensures) ∙ sym c.is_some.ensures ∙ c.if-is_some.false) (λ e. c.if-self-accepted.false (e ∙ sym same)))
    ∙ ap after_next c.self.view_is
