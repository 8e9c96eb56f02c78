use Rattle.std.proofs.Common.{◌∙◌, sym, ap, refl, subst, IsTrue}
use Rattle.ask_history.specs.Journal.{is_open, reply, taking_effect}
use Rattle.ask_history.specs.declared.events.Event.TheVariants.{Settle}
use Rattle.work_queue.specs.Queue.{QueueState, mark_of, value_of, answer_to, effect_to, effect_of}
use Rattle.work_queue.proofs.Queues.{queue-push, open_accepted, open_unclosed}
use Rattle.work_queue.proofs.Replies.{reply-answer_to, taking_effect-effect_to}
use Rattle.work_queue.proofs.queue.Queue.settle.Goals as goal

pub call-requires : goal.call-requires
call-requires c = open_accepted c.self.inside c.self.invariant c.args.ticket (subst (λ (q : QueueState). IsTrue (is_open q.journal c.args.ticket)) (sym c.self.view_is) c.requires.unanswered)

pub invariant_of-self : goal.invariant_of-self
invariant_of-self c =
    queue-push c.self.inside c.self.invariant (Settle c.args.ticket c.mark_of.result) c.settle.new.self c.settle.ensures.journal refl refl refl c.settle.ensures.legal

pub returns-clause-answer : goal.returns-clause-answer
returns-clause-answer c =
    let unanswered = subst (λ (q : QueueState). IsTrue (is_open q.journal c.args.ticket)) (sym c.self.view_is) c.requires.unanswered in
    c.outcome.ensures.answer
    ∙ (λ j. answer_to (c.is_cancelled-is_cancelled.ensures j) (c.is_mutation-mutates.ensures j) c.args.what)
    ∙ sym (reply-answer_to c.self.inside.log c.args.ticket c.call.result.now (open_unclosed c.self.inside c.self.invariant c.args.ticket unanswered) c.call.ensures c.args.what)
    ∙ ap (λ (q : QueueState). reply (λ files call. value_of c.args.what) q.journal c.args.ticket (mark_of c.args.what)) c.self.view_is

pub returns-clause-effect : goal.returns-clause-effect
returns-clause-effect c =
    let unanswered = subst (λ (q : QueueState). IsTrue (is_open q.journal c.args.ticket)) (sym c.self.view_is) c.requires.unanswered in
    c.outcome.ensures.effect
    ∙ (λ j. effect_to (c.is_cancelled-is_cancelled.ensures j) (c.is_mutation-mutates.ensures j) c.args.what)
    ∙ sym (taking_effect-effect_to c.self.inside.log c.args.ticket c.call.result.now (open_unclosed c.self.inside c.self.invariant c.args.ticket unanswered) c.call.ensures c.args.what)
    ∙ ap (λ (q : QueueState). effect_of (taking_effect q.journal c.args.ticket (mark_of c.args.what))) c.self.view_is
