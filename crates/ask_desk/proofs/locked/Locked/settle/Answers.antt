use Rattle.std.proofs.Common.{◌≡◌, ◌∙◌, Some, ap, sym, subst}
use Rattle.counting_word.specs.declared.view.View.{View}
use Rattle.counting_word.specs.History.{journal_of, engine_number}
use Rattle.ask_desk.specs.Facts.{IsPass}
use Rattle.std.proofs.Common.{IsTrue}
use Rattle.ask_history.specs.Journal.{is_open}
use Rattle.ask_history.specs.Legal.{is_next}
use Rattle.ask_history.specs.declared.engine.Effect.TheVariants.{Dropped}
use Rattle.ask_desk.specs.Driving.{Settles}
use Rattle.ask_desk.proofs.Working.{engines_pass, open_led, next_led, settles_call, settles_none}
use Rattle.ask_desk.proofs.locked.Locked.settle.Goals as goal

pub settle-effect-requires-clause-unanswered : goal.settle-effect-requires-clause-unanswered
settle-effect-requires-clause-unanswered g c =
    let old : View = c.pass.inside.seat in
    let engine : old.name.number ≡ Some engine_number = ap (λ (v : View). v.name.number) c.pass.view_is ∙ c.requires.engine in
    let pass : IsPass old engine_number = engines_pass old c.pass.inside.number c.pass.invariant engine in
    open_led c.self.inside.books.queue c.self.inside.books.cells g.B.Room.limits old c.self.inside.scribe c.take_lead.new.seat c.take_lead.ensures pass c.self.invariant.1
    c.args.ticket (sym c.is_closed.ensures ∙ c.if-is_closed.false) (subst (λ (v : View). IsTrue (is_open (journal_of v.seen) c.args.ticket)) (sym c.pass.view_is) c.requires.unanswered)

pub settle-effect-requires-clause-next : goal.settle-effect-requires-clause-next
settle-effect-requires-clause-next g c =
    let old : View = c.pass.inside.seat in
    let engine : old.name.number ≡ Some engine_number = ap (λ (v : View). v.name.number) c.pass.view_is ∙ c.requires.engine in
    let pass : IsPass old engine_number = engines_pass old c.pass.inside.number c.pass.invariant engine in
    next_led c.self.inside.books.queue c.self.inside.books.cells g.B.Room.limits old c.self.inside.scribe c.take_lead.new.seat c.take_lead.ensures pass c.self.invariant.1
    c.args.ticket (sym c.is_closed.ensures ∙ c.if-is_closed.false) (subst (λ (v : View). IsTrue (is_open (journal_of v.seen) c.args.ticket)) (sym c.pass.view_is) c.requires.unanswered)
    (subst (λ (v : View). IsTrue (is_next (journal_of v.seen) c.args.ticket)) (sym c.pass.view_is) c.requires.next)

pub returns-then-is_closed : goal.returns-then-is_closed
returns-then-is_closed g c =
    let old : View = c.pass.inside.seat in
    let engine : old.name.number ≡ Some engine_number = ap (λ (v : View). v.name.number) c.pass.view_is ∙ c.requires.engine in
    let pass : IsPass old engine_number = engines_pass old c.pass.inside.number c.pass.invariant engine in
    record {
      settles = subst (λ (v : View). Settles v c.give_lead.new.seat c.args.ticket c.args.what Dropped) c.pass.view_is
          (settles_none c.self.inside.books.queue c.self.inside.books.cells g.B.Room.limits old c.self.inside.scribe c.take_lead.new.seat c.take_lead.ensures pass c.self.invariant.1
          c.give_lead.new.seat c.give_lead.new.scribe c.args.ticket c.args.what (sym c.is_closed.ensures ∙ c.if-is_closed.true) c.give_lead.ensures);
    }

pub returns : goal.returns
returns g c =
    let old : View = c.pass.inside.seat in
    let engine : old.name.number ≡ Some engine_number = ap (λ (v : View). v.name.number) c.pass.view_is ∙ c.requires.engine in
    let pass : IsPass old engine_number = engines_pass old c.pass.inside.number c.pass.invariant engine in
    record {
      settles = subst (λ (v : View). Settles v c.give_lead-2.new.seat c.args.ticket c.args.what c.settle-effect.result) c.pass.view_is
          (settles_call c.self.inside.books.queue c.self.inside.books.cells g.B.Room.limits old c.self.inside.scribe c.take_lead.new.seat c.take_lead.ensures pass c.self.invariant.1
          c.settle-effect.new.seat c.give_lead-2.new.seat c.give_lead-2.new.scribe c.args.ticket c.args.what c.settle-effect.result (sym c.is_closed.ensures ∙ c.if-is_closed.false)
          c.settle-effect.ensures.seat c.give_lead-2.ensures c.settle-effect.ensures.effect);
    }
