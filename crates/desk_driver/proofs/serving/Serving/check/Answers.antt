use Rattle.std.proofs.Common.{IsTrue, ◌∙◌, sym, ap, subst}
use Rattle.counting_word.specs.declared.view.View.{View}
use Rattle.counting_word.specs.History.{journal_of}
use Rattle.ask_history.specs.Legal.{may_follow}
use Rattle.ask_history.specs.declared.events.Event.TheVariants.{Checked}
use Rattle.ask_desk.specs.Driving.{Checks}
use Rattle.desk_driver.proofs.Keeping.{serves_checked}
use Rattle.desk_driver.proofs.serving.Serving.check.Goals as goal

pub check-requires-clause-engine : goal.check-requires-clause-engine
check-requires-clause-engine g c = c.self.invariant.0.engine

pub check-requires-clause-due : goal.check-requires-clause-due
check-requires-clause-due g c = subst (λ (v : View). IsTrue (may_follow (journal_of v.seen) (Checked c.args.file.now))) (sym c.self.view_is) c.requires

pub invariant_of-self : goal.invariant_of-self
invariant_of-self g c = (
  serves_checked g.M.Begun.begun c.self.inside.pass.pass c.check.new.engine.pass c.args.file.now c.args.problems.now c.check.result c.self.invariant.0 c.check.ensures.checks,
  c.check.ensures.made ∙ c.self.invariant.1,
)

pub returns-clause-checks : goal.returns-clause-checks
returns-clause-checks g c =
    subst (λ (v : View). Checks v c.check.new.engine.pass c.args.file.now c.args.problems.now c.check.result) c.self.view_is c.check.ensures.checks

pub returns-clause-engine : goal.returns-clause-engine
returns-clause-engine g c = ap (λ (v : View). v.name.number) (sym c.self.view_is) ∙ c.self.invariant.0.engine
