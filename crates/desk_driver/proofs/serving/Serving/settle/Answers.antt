use Rattle.std.proofs.Common.{IsTrue, ◌∙◌, sym, ap, subst}
use Rattle.counting_word.specs.declared.view.View.{View}
use Rattle.counting_word.specs.History.{journal_of}
use Rattle.ask_history.specs.Journal.{is_open}
use Rattle.ask_history.specs.Legal.{is_next}
use Rattle.ask_desk.specs.Driving.{Settles}
use Rattle.desk_driver.proofs.Keeping.{serves_settled}
use Rattle.desk_driver.proofs.serving.Serving.settle.Goals as goal

pub settle-requires-clause-engine : goal.settle-requires-clause-engine
settle-requires-clause-engine g c = c.self.invariant.0.engine

pub settle-requires-clause-unanswered : goal.settle-requires-clause-unanswered
settle-requires-clause-unanswered g c = subst (λ (v : View). IsTrue (is_open (journal_of v.seen) c.args.ticket)) (sym c.self.view_is) c.requires.unanswered

pub settle-requires-clause-next : goal.settle-requires-clause-next
settle-requires-clause-next g c = subst (λ (v : View). IsTrue (is_next (journal_of v.seen) c.args.ticket)) (sym c.self.view_is) c.requires.next

pub invariant_of-self : goal.invariant_of-self
invariant_of-self g c = (
  serves_settled g.M.Begun.begun c.self.inside.pass.pass c.settle.new.engine.pass c.args.ticket c.args.what c.settle.result c.self.invariant.0 c.settle.ensures.settles,
  c.settle.ensures.made ∙ c.self.invariant.1,
)

pub returns-clause-settles : goal.returns-clause-settles
returns-clause-settles g c = subst (λ (v : View). Settles v c.settle.new.engine.pass c.args.ticket c.args.what c.settle.result) c.self.view_is c.settle.ensures.settles

pub returns-clause-engine : goal.returns-clause-engine
returns-clause-engine g c = ap (λ (v : View). v.name.number) (sym c.self.view_is) ∙ c.self.invariant.0.engine
