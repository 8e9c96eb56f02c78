use Rattle.std.proofs.Common.{◌<◌, ◌∙◌, sym, subst}
use Rattle.counting_word.specs.declared.view.View.{View}
use Rattle.counting_word.specs.History.{journal_of}
use Rattle.ask_history.specs.Journal.{accepted}
use Rattle.ask_desk.specs.Driving.{Finds}
use Rattle.desk_driver.proofs.Keeping.{serves_looked}
use Rattle.desk_driver.proofs.serving.Serving.posted.Goals as goal

pub posted-requires-clause-engine : goal.posted-requires-clause-engine
posted-requires-clause-engine g c = c.self.invariant.0.engine

pub posted-requires-clause-there : goal.posted-requires-clause-there
posted-requires-clause-there g c = subst (λ (v : View). c.args.ticket < accepted (journal_of v.seen)) (sym c.self.view_is) c.requires

pub invariant_of-self : goal.invariant_of-self
invariant_of-self g c = (
  serves_looked g.M.Begun.begun c.self.inside.pass.pass c.posted.new.engine.pass c.self.invariant.0 c.posted.ensures.finds.works,
  c.posted.ensures.made ∙ c.self.invariant.1,
)

pub returns : goal.returns
returns g c = subst (λ (v : View). Finds v c.posted.new.engine.pass c.args.ticket c.posted.result) c.self.view_is c.posted.ensures.finds
