use Rattle.std.proofs.Common.{IsTrue, subst}
use Rattle.ask_history.specs.Legal.{is_legal}
use Rattle.counting_word.specs.declared.view.View.{View}
use Rattle.counting_word.specs.History.{journal_of}
use Rattle.desk_driver.proofs.serving.Serving.law_legal.Goals as goal

pub returns : goal.returns
returns g c = subst (λ (v : View). IsTrue (is_legal (journal_of v.seen))) c.self.view_is c.self.invariant.0.legal
