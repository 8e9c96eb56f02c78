use Rattle.std.proofs.Common.{◌≡◌, ◌∙◌, Some, ap, sym, subst}
use Rattle.counting_word.specs.declared.view.View.{View}
use Rattle.counting_word.specs.History.{journal_of, engine_number}
use Rattle.counting_word.specs.Calls.{GivesLead}
use Rattle.ask_desk.specs.Facts.{IsPass}
use Rattle.std.proofs.Common.{IsTrue}
use Rattle.ask_history.specs.Legal.{may_follow}
use Rattle.ask_history.specs.declared.events.Event.TheVariants.{Checked}
use Rattle.ask_desk.specs.Driving.{Checks}
use Rattle.ask_desk.specs.declared.driving.CheckNoted.TheVariants as noted
use Rattle.ask_desk.proofs.Working.{engines_pass, due_led, checks_call, checks_shut, works_none}
use Rattle.ask_desk.proofs.locked.Locked.check.Goals as goal

pub check-requires-clause-due : goal.check-requires-clause-due
check-requires-clause-due g c =
    let old : View = c.pass.inside.seat in
    let engine : old.name.number ≡ Some engine_number = ap (λ (v : View). v.name.number) c.pass.view_is ∙ c.requires.engine in
    let pass : IsPass old engine_number = engines_pass old c.pass.inside.number c.pass.invariant engine in
    due_led c.self.inside.books.queue c.self.inside.books.cells g.B.Room.limits old c.self.inside.scribe c.take_lead.new.seat c.take_lead.ensures pass c.self.invariant.1
    c.args.file.now (sym c.is_closed.ensures ∙ c.if-is_closed.false) (subst (λ (v : View). IsTrue (may_follow (journal_of v.seen) (Checked c.args.file.now))) (sym c.pass.view_is) c.requires.due)

pub returns-then-is_closed : goal.returns-then-is_closed
returns-then-is_closed g c =
    let old : View = c.pass.inside.seat in
    let engine : old.name.number ≡ Some engine_number = ap (λ (v : View). v.name.number) c.pass.view_is ∙ c.requires.engine in
    let pass : IsPass old engine_number = engines_pass old c.pass.inside.number c.pass.invariant engine in
    record {
      checks = subst (λ (v : View). Checks v c.give_lead.new.seat c.args.file.now c.args.problems.now noted.ShutDown) c.pass.view_is
          (checks_shut c.self.inside.books.queue c.self.inside.books.cells g.B.Room.limits old c.self.inside.scribe c.take_lead.new.seat c.take_lead.ensures pass c.self.invariant.1
          c.give_lead.new.seat c.give_lead.new.scribe c.args.file.now c.args.problems.now (sym c.is_closed.ensures ∙ c.if-is_closed.true) c.give_lead.ensures);
    }

pub returns-in-Ok : goal.returns-in-Ok
returns-in-Ok g c =
    let old : View = c.pass.inside.seat in
    let engine : old.name.number ≡ Some engine_number = ap (λ (v : View). v.name.number) c.pass.view_is ∙ c.requires.engine in
    let pass : IsPass old engine_number = engines_pass old c.pass.inside.number c.pass.invariant engine in
    record {
      checks = subst (λ (v : View). Checks v c.give_lead-in-Ok.new.seat c.args.file.now c.args.problems.now noted.Noted) c.pass.view_is
          (checks_call c.self.inside.books.queue c.self.inside.books.cells g.B.Room.limits old c.self.inside.scribe c.take_lead.new.seat c.take_lead.ensures pass c.self.invariant.1
          c.check.new.seat c.give_lead-in-Ok.new.seat c.give_lead-in-Ok.new.scribe c.args.file.now c.args.problems.now (sym c.is_closed.ensures ∙ c.if-is_closed.false)
          c.in-Ok.ensures.ok c.give_lead-in-Ok.ensures);
    }

pub returns-in-Err : goal.returns-in-Err
returns-in-Err g c =
    let old : View = c.pass.inside.seat in
    let engine : old.name.number ≡ Some engine_number = ap (λ (v : View). v.name.number) c.pass.view_is ∙ c.requires.engine in
    let pass : IsPass old engine_number = engines_pass old c.pass.inside.number c.pass.invariant engine in
    record {
      checks = subst (λ (v : View). Checks v c.give_lead-in-Err.new.seat c.args.file.now c.args.problems.now noted.NoMemory) c.pass.view_is (
        c.self.inside.scribe.seen,
        works_none c.self.inside.books.queue c.self.inside.books.cells g.B.Room.limits old c.self.inside.scribe c.take_lead.new.seat c.take_lead.ensures pass c.self.invariant.1
            c.give_lead-in-Err.new.seat c.give_lead-in-Err.new.scribe
            (subst (λ (v : View). GivesLead v c.give_lead-in-Err.new.seat c.give_lead-in-Err.new.scribe) c.in-Err.ensures.err c.give_lead-in-Err.ensures),
      );
    }
