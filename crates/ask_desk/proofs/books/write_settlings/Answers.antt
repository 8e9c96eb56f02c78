use Rattle.std.proofs.Common.{◌∙◌, ◌++◌, ◌∷◌, [], IsTrue, List, take, sym, subst}
use Rattle.ask_history.specs.Legal.{is_legal}
use Rattle.ask_history.specs.declared.events.Event.{Event}
use Rattle.response_cell.specs.declared.cells.Cell.{Cell}
use Rattle.counting_word.specs.declared.view.View.{View}
use Rattle.counting_word.specs.History.{journal_of}
use Rattle.counting_word.specs.Views.{appended}
use Rattle.counting_word.specs.Calls.{entry_of}
use Rattle.counting_word.specs.declared.view.Found.TheVariants.{Answered}
use Rattle.ask_history.specs.declared.answers.Answer.TheVariants as answer
use Rattle.ask_desk.proofs.Shutdown.{IsWriting, legal_next, next_taken, may_last, only_settlings, writing-more, writing-blank}
use Rattle.ask_desk.proofs.books.write_settlings.Goals as goal
use Rattle.ask_desk.proofs.books.write_settlings.Goals.{in-Some, in_default}

pub append_answer-requires-clause-legal : goal.append_answer-requires-clause-legal
append_answer-requires-clause-legal g c =
    let events : List Event = c.args.events.now in
    subst (λ js. IsTrue (is_legal (js ++ c.event-item.result ∷ []))) (sym c.loop-event.invariant.journal)
    (legal_next (journal_of c.args.seat.now.seen) events c.loop-event.event-index c.event-item.result c.loop-event-test.true c.event-item.is c.requires.legal)

pub set-requires : goal.set-requires
set-requires g c =
    let events : List Event = c.args.events.now in
    let legal = subst (λ js. IsTrue (is_legal (js ++ c.event-item.result ∷ []))) (sym c.loop-event.invariant.journal)
    (legal_next (journal_of c.args.seat.now.seen) events c.loop-event.event-index c.event-item.result c.loop-event-test.true c.event-item.is c.requires.legal) in
    writing-blank c.args.seat.now c.loop-event.seat (take c.loop-event.event-index events) c.loop-event.cells g.B.Room.limits c.loop-event.invariant
    c.event-item.result c.in-Some.ticket (sym c.settled_ticket.ensures ∙ c.in-Some.is) legal

pub loop-event-preserved : goal.loop-event-preserved
loop-event-preserved g c =
    let events : List Event = c.args.events.now in
    let old : View = c.args.seat.now in
    let event : Event = c.event-item.result in
    let next = next_taken events c.loop-event.event-index event c.loop-event-test.true c.event-item.is in
    let legal = subst (λ js. IsTrue (is_legal (js ++ event ∷ []))) (sym c.loop-event.invariant.journal)
    (legal_next (journal_of old.seen) events c.loop-event.event-index event c.loop-event-test.true c.event-item.is c.requires.legal) in
    elim c.match-settled_ticket.branch [
      | in-Some w ↦
          subst (λ (es : List Event). IsWriting old c.match-settled_ticket.seat es c.match-settled_ticket.cells g.B.Room.limits) (sym next)
          (subst (λ (v : View). IsWriting old v (take c.loop-event.event-index events ++ event ∷ []) c.match-settled_ticket.cells g.B.Room.limits)
          (sym (w.seat-is ∙ w.append_answer.ensures))
          (subst (λ (cs : List Cell). IsWriting old (appended c.loop-event.seat (entry_of c.loop-event.seat.name event (Answered answer.Closed))) (take c.loop-event.event-index events ++ event ∷ []) cs g.B.Room.limits) (sym (w.cells-is ∙ w.set.ensures))
          (writing-more old c.loop-event.seat (take c.loop-event.event-index events) c.loop-event.cells g.B.Room.limits c.loop-event.invariant
          event w.in-Some.ticket (sym c.settled_ticket.ensures ∙ w.in-Some.is) legal)))
      | in_default w ↦ absurd (only_settlings (journal_of c.loop-event.seat.seen) event c.loop-event.invariant.closed
          (may_last (journal_of c.loop-event.seat.seen) event legal).1 (sym c.settled_ticket.ensures ∙ w.in_default.is))
    ]
