use Rattle.std.proofs.Common.{◌∙◌, subst}
use Rattle.counting_word.specs.declared.view.View.{View}
use Rattle.ask_desk.specs.Driving.{Looks}
use Rattle.desk_driver.proofs.Keeping.{serves_looked}
use Rattle.desk_driver.proofs.serving.Serving.look_over.Goals as goal

pub look_over-requires : goal.look_over-requires
look_over-requires g c = c.self.invariant.0.engine

pub invariant_of-self : goal.invariant_of-self
invariant_of-self g c = (
  serves_looked g.M.Begun.begun c.self.inside.pass.pass c.look_over.new.engine.pass c.self.invariant.0 c.look_over.ensures.looks.works,
  c.look_over.ensures.made ∙ c.self.invariant.1,
)

pub returns-clause-looks : goal.returns-clause-looks
returns-clause-looks g c = subst (λ (v : View). Looks v c.look_over.new.engine.pass c.look_over.result.0) c.self.view_is c.look_over.ensures.looks
