use Rattle.std.proofs.Common.{◌≡◌, ◌<◌, ℕ, subst, ◌∙◌, ◌++◌, ◌∷◌, List, true, Some, is_some, sym, ap}
use Rattle.std.proofs.lemmas.Bool.{cond-true, cond-false}
use Rattle.ask_history.specs.Journal.{is_close, is_closed, is_settled, accepted}
use Rattle.ask_history.specs.declared.events.Event.{Event}
use Rattle.ask_history.specs.declared.events.Event.TheVariants.{Close}
use Rattle.work_queue.specs.Closing.{after_close, settled, open_below}
use Rattle.work_queue.specs.Queue.{QueueState}
use Rattle.work_queue.proofs.EventIndexes.{list_any-index_of}
use Rattle.work_queue.proofs.Queues.{close_index-unclosed, close_index-closed, queue-close}
use Rattle.work_queue.proofs.queue.Queue.close.Goals as goal

pub close-requires : goal.close-requires
close-requires c = close_index-unclosed c.self.inside.log (sym c.close_index.ensures ∙ c.in-None.is)

pub invariant_of-self : goal.invariant_of-self
invariant_of-self c = queue-close c.self.inside c.self.invariant (close_index-unclosed c.self.inside.log (sym c.close_index.ensures ∙ c.in-None.is)) c.close.new.self c.close.ensures.journal c.close.ensures.settled c.close.ensures.legal

pub returns-in-None-clause-index : goal.returns-in-None-clause-index
returns-in-None-clause-index c = close_index-closed c.self.inside c.self.invariant (close_index-unclosed c.self.inside.log (sym c.close_index.ensures ∙ c.in-None.is)) c.close.new.self c.close.ensures.journal ∙ ap Some (sym c.close.ensures.index)

pub returns-in-None-clause-queue : goal.returns-in-None-clause-queue
returns-in-None-clause-queue c =
    let state = λ (js : List Event). (let q : QueueState = record { journal = js; limits = c.self.inside.limits; given = c.self.inside.given } in q) in
    ap state (c.close.ensures.journal ∙ sym (cond-false (is_closed c.self.inside.log) c.self.inside.log _ (close_index-unclosed c.self.inside.log (sym c.close_index.ensures ∙ c.in-None.is))))
    ∙ ap (λ (q : QueueState). record q { journal = after_close q.journal }) c.self.view_is

pub returns-in-Some-clause-queue : goal.returns-in-Some-clause-queue
returns-in-Some-clause-queue c =
    let closed : is_closed c.self.inside.log ≡ true = list_any-index_of is_close c.self.inside.log ∙ ap is_some (sym c.close_index.ensures ∙ c.in-Some.is) in
    let state = λ (js : List Event). (let q : QueueState = record { journal = js; limits = c.self.inside.limits; given = c.self.inside.given } in q) in
    sym c.self.view_is
    ∙ ap state (sym (cond-true (is_closed c.self.inside.log) c.self.inside.log (c.self.inside.log ++ Close ∷ settled (open_below c.self.inside.log (accepted c.self.inside.log))) closed))
    ∙ ap (λ (q : QueueState). record q { journal = after_close q.journal }) c.self.view_is

pub returns-in-Some-clause-settled : goal.returns-in-Some-clause-settled
returns-in-Some-clause-settled c =
    let closed : is_closed c.self.inside.log ≡ true = list_any-index_of is_close c.self.inside.log ∙ ap is_some (sym c.close_index.ensures ∙ c.in-Some.is) in
    subst (λ (q : QueueState). (t : ℕ) → t < accepted q.journal → is_settled q.journal t ≡ true) c.self.view_is (c.self.invariant.answered closed)
