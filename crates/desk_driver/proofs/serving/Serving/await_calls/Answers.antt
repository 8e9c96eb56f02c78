use Rattle.std.proofs.Common.{◌∙◌, subst}
use Rattle.counting_word.specs.declared.view.View.{View}
use Rattle.ask_desk.specs.Driving.{Looks}
use Rattle.desk_driver.proofs.Keeping.{serves_looked}
use Rattle.desk_driver.proofs.serving.Serving.await_calls.Goals as goal

pub await_calls-requires : goal.await_calls-requires
await_calls-requires g c = c.self.invariant.0.engine

pub invariant_of-self : goal.invariant_of-self
invariant_of-self g c = (
  serves_looked g.M.Begun.begun c.self.inside.pass.pass c.await_calls.new.engine.pass c.self.invariant.0 c.await_calls.ensures.looks.works,
  c.await_calls.ensures.made ∙ c.self.invariant.1,
)

pub returns-clause-looks : goal.returns-clause-looks
returns-clause-looks g c = subst (λ (v : View). Looks v c.await_calls.new.engine.pass c.await_calls.result) c.self.view_is c.await_calls.ensures.looks
