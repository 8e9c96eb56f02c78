use Rattle.std.proofs.Common.{◌≡◌, ◌∙◌, ◌∷◌, [], ℕ, List, Bool, true, false, ◌||◌, if◌then◌else◌, is_some, is_none, sym, ap, refl, append-nil}
use Rattle.ask_history.specs.Journal.{is_cancelled, is_settled}
use Rattle.ask_history.specs.declared.events.Event.{Event}
use Rattle.ask_history.specs.declared.events.Event.TheVariants.{Cancel}
use Rattle.work_queue.specs.Queue.{QueueState, with_events, cancelling}
use Rattle.work_queue.proofs.Tickets.{is_cancelled-cancel_index, is_settled-settle_index}
use Rattle.work_queue.proofs.Queues.{queue-push, may_cancel}
use Rattle.work_queue.proofs.queue.Queue.cancel.Goals as goal

module _ (queue : QueueState) (ticket : ℕ) where
  or-true : (b : Bool) → (b || true) ≡ true
  or-true true = refl
  or-true false = refl

  -- nothing is appended for a call that is settled or cancelled
  kept : (is_settled queue.journal ticket || is_cancelled queue.journal ticket) ≡ true → queue ≡ with_events queue (cancelling queue.journal ticket)
  kept h =
      ap (λ (js : List Event). record queue { journal = js }) (sym (append-nil queue.journal))
      ∙ ap (λ b. with_events queue (if b then [] else Cancel ticket ∷ [])) (sym h)

  added : (is_settled queue.journal ticket || is_cancelled queue.journal ticket) ≡ false → with_events queue (Cancel ticket ∷ []) ≡ with_events queue (cancelling queue.journal ticket)
  added h = ap (λ b. with_events queue (if b then [] else Cancel ticket ∷ [])) (sym h)

pub returns-in-Some-clause-queue : goal.returns-in-Some-clause-queue
returns-in-Some-clause-queue c =
    let queue : QueueState = record { journal = c.self.inside.log; limits = c.self.inside.limits; given = c.self.inside.given } in
    let there : is_settled c.self.inside.log c.args.ticket ≡ true = is_settled-settle_index c.self.inside.log c.args.ticket ∙ ap is_some (sym c.settle_index.ensures.index ∙ c.in-Some.is) in
    sym c.self.view_is ∙ kept queue c.args.ticket (ap (λ b. b || is_cancelled c.self.inside.log c.args.ticket) there)
    ∙ ap (λ (q : QueueState). with_events q (cancelling q.journal c.args.ticket)) c.self.view_is

pub returns-in-Some-cancel_index-clause-queue : goal.returns-in-Some-cancel_index-clause-queue
returns-in-Some-cancel_index-clause-queue c =
    let queue : QueueState = record { journal = c.self.inside.log; limits = c.self.inside.limits; given = c.self.inside.given } in
    let there : is_cancelled c.self.inside.log c.args.ticket ≡ true = is_cancelled-cancel_index c.self.inside.log c.args.ticket ∙ ap is_some (sym c.cancel_index.ensures ∙ c.in-Some-cancel_index.is) in
    sym c.self.view_is
    ∙ kept queue c.args.ticket (ap (λ b. is_settled c.self.inside.log c.args.ticket || b) there ∙ or-true queue c.args.ticket (is_settled c.self.inside.log c.args.ticket))
    ∙ ap (λ (q : QueueState). with_events q (cancelling q.journal c.args.ticket)) c.self.view_is

pub cancel-requires : goal.cancel-requires
cancel-requires c =
    may_cancel c.self.inside c.self.invariant c.args.ticket (c.settle_index.ensures.unanswered ∙ ap is_none c.in_default.is) (sym c.cancel_index.ensures ∙ c.in-None.is)

pub invariant_of-self : goal.invariant_of-self
invariant_of-self c = queue-push c.self.inside c.self.invariant (Cancel c.args.ticket) c.cancel.new.self c.cancel.ensures.journal refl refl refl c.cancel.ensures.legal

pub returns-in-None-clause-queue : goal.returns-in-None-clause-queue
returns-in-None-clause-queue c =
    let queue : QueueState = record { journal = c.self.inside.log; limits = c.self.inside.limits; given = c.self.inside.given } in
    let unsettled : is_settled c.self.inside.log c.args.ticket ≡ false =
    is_settled-settle_index c.self.inside.log c.args.ticket ∙ ap is_some (sym c.settle_index.ensures.index ∙ c.in_default.is) in
    let uncancelled : is_cancelled c.self.inside.log c.args.ticket ≡ false =
    is_cancelled-cancel_index c.self.inside.log c.args.ticket ∙ ap is_some (sym c.cancel_index.ensures ∙ c.in-None.is) in
    ap (λ (js : List Event). record queue { journal = js }) c.cancel.ensures.journal
    ∙ added queue c.args.ticket (λ j. unsettled j || uncancelled j)
    ∙ ap (λ (q : QueueState). with_events q (cancelling q.journal c.args.ticket)) c.self.view_is
