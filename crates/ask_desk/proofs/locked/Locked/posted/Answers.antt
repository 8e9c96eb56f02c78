use Rattle.std.proofs.Common.{◌≡◌, ◌∙◌, ◌<◌, Some, ap, sym, subst}
use Rattle.ask_history.specs.Journal.{accepted}
use Rattle.counting_word.specs.declared.view.View.{View}
use Rattle.counting_word.specs.History.{journal_of, engine_number}
use Rattle.ask_desk.specs.Facts.{IsPass}
use Rattle.ask_desk.specs.Driving.{Finds}
use Rattle.ask_desk.proofs.Working.{engines_pass, there_led, finds_call}
use Rattle.ask_desk.proofs.locked.Locked.posted.Goals as goal

pub posted-found-requires : goal.posted-found-requires
posted-found-requires g c =
    let old : View = c.pass.inside.seat in
    let engine : old.name.number ≡ Some engine_number = ap (λ (v : View). v.name.number) c.pass.view_is ∙ c.requires.engine in
    let pass : IsPass old engine_number = engines_pass old c.pass.inside.number c.pass.invariant engine in
    there_led c.self.inside.books.queue c.self.inside.books.cells g.B.Room.limits old c.self.inside.scribe c.take_lead.new.seat c.take_lead.ensures pass c.self.invariant.1
    c.args.ticket (subst (λ (v : View). c.args.ticket < accepted (journal_of v.seen)) (sym c.pass.view_is) c.requires.there)

pub returns : goal.returns
returns g c =
    let old : View = c.pass.inside.seat in
    let engine : old.name.number ≡ Some engine_number = ap (λ (v : View). v.name.number) c.pass.view_is ∙ c.requires.engine in
    let pass : IsPass old engine_number = engines_pass old c.pass.inside.number c.pass.invariant engine in
    subst (λ (v : View). Finds v c.give_lead.new.seat c.args.ticket c.posted-found.result) c.pass.view_is
    (finds_call c.self.inside.books.queue c.self.inside.books.cells g.B.Room.limits old c.self.inside.scribe c.take_lead.new.seat c.take_lead.ensures pass c.self.invariant.1
    c.give_lead.new.seat c.give_lead.new.scribe c.args.ticket c.posted-found.result c.give_lead.ensures c.posted-found.ensures)
