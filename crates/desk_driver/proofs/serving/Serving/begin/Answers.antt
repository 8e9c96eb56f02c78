use Rattle.std.proofs.Common.{◌∙◌, subst}
use Rattle.counting_word.specs.declared.view.View.{View}
use Rattle.desk_driver.specs.Serves.{Serves}
use Rattle.desk_driver.proofs.Keeping.{serves_begun}
use Rattle.desk_driver.proofs.serving.Serving.begin.Goals as goal

pub invariant_of-result : goal.invariant_of-result
invariant_of-result g c = (
  subst (λ (v : View). Serves v c.look.new.engine.pass) c.requires.begun (serves_begun c.args.pass.pass c.look.new.engine.pass c.requires.engine c.look.ensures.looks.works),
  c.look.ensures.made ∙ c.requires.count,
)
