use Rattle.std.proofs.Common.{sym, subst}
use Rattle.counting_word.specs.declared.view.View.{View}
use Rattle.ask_desk.specs.Facts.{IsPass}
use Rattle.ask_desk.proofs.pass.Pass.known.Goals as goal

pub returns : goal.returns
returns g c = (c.self.inside.number, subst (λ (view : View). IsPass view c.self.inside.number) c.self.view_is c.self.invariant)
