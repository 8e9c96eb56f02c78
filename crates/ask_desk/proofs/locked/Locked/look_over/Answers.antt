use Rattle.std.proofs.Common.{◌≡◌, ◌∙◌, Some, ap, subst}
use Rattle.counting_word.specs.declared.view.View.{View}
use Rattle.counting_word.specs.History.{engine_number}
use Rattle.ask_desk.specs.Facts.{IsPass}
use Rattle.ask_desk.specs.Driving.{Looks}
use Rattle.ask_desk.proofs.Working.{engines_pass, looks_call, cancelled_call}
use Rattle.ask_desk.proofs.locked.Locked.look_over.Goals as goal

pub returns-clause-looks : goal.returns-clause-looks
returns-clause-looks g c =
    let old : View = c.pass.inside.seat in
    let engine : old.name.number ≡ Some engine_number = ap (λ (v : View). v.name.number) c.pass.view_is ∙ c.requires in
    let pass : IsPass old engine_number = engines_pass old c.pass.inside.number c.pass.invariant engine in
    subst (λ (v : View). Looks v c.give_lead.new.seat (record { accepted = c.accepted.result; is_closed = c.is_closed.result })) c.pass.view_is
    (looks_call c.self.inside.books.queue c.self.inside.books.cells g.B.Room.limits old c.self.inside.scribe c.take_lead.new.seat c.take_lead.ensures pass c.self.invariant.1
    c.give_lead.new.seat c.give_lead.new.scribe (record { accepted = c.accepted.result; is_closed = c.is_closed.result }) c.give_lead.ensures c.accepted.ensures c.is_closed.ensures)

pub returns-clause-cancelled : goal.returns-clause-cancelled
returns-clause-cancelled g c =
    let old : View = c.pass.inside.seat in
    let engine : old.name.number ≡ Some engine_number = ap (λ (v : View). v.name.number) c.pass.view_is ∙ c.requires in
    let pass : IsPass old engine_number = engines_pass old c.pass.inside.number c.pass.invariant engine in
    c.first_cancelled-cancelled.ensures
    ∙ cancelled_call c.self.inside.books.queue c.self.inside.books.cells g.B.Room.limits old c.self.inside.scribe c.take_lead.new.seat c.take_lead.ensures pass c.self.invariant.1
    c.give_lead.new.seat c.give_lead.new.scribe c.args.tickets.now c.give_lead.ensures
