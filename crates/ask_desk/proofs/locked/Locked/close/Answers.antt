use Rattle.std.proofs.Common.{◌∙◌, ap, subst}
use Rattle.counting_word.specs.declared.view.View.{View}
use Rattle.counting_word.specs.History.{journal_of}
use Rattle.ask_desk.specs.Answers.{closing}
use Rattle.ask_desk.specs.Passes.{Closes}
use Rattle.ask_desk.proofs.Passing.{written-leaves, stays_pass, closes_call}
use Rattle.ask_desk.proofs.locked.Locked.close.Goals as goal

pub give_lead-requires : goal.give_lead-requires
give_lead-requires g c =
    let led : View = c.take_lead.new.seat in
    ap (λ (v : View). v.leads) c.close-index.ensures.seat ∙ (written-leaves led (closing (journal_of led.seen))).leads ∙ ap (λ (v : View). v.leads) c.take_lead.ensures.view

pub invariant_of-pass : goal.invariant_of-pass
invariant_of-pass g c =
    let led : View = c.take_lead.new.seat in
    stays_pass c.pass.inside.seat c.self.inside.scribe led c.close-index.new.seat c.give_lead.new.seat c.give_lead.new.scribe (closing (journal_of led.seen))
    c.take_lead.ensures c.close-index.ensures.seat c.give_lead.ensures c.pass.inside.number c.pass.invariant

pub returns : goal.returns
returns g c = record {
  closes = subst (λ (v : View). Closes v c.give_lead.new.seat c.close-index.result) c.pass.view_is
      (closes_call c.pass.inside.seat c.self.inside.scribe c.take_lead.new.seat c.close-index.new.seat c.give_lead.new.seat c.give_lead.new.scribe c.close-index.result
      c.take_lead.ensures c.close-index.ensures.seat c.give_lead.ensures c.close-index.ensures.index c.close-index.ensures.settled);
}
