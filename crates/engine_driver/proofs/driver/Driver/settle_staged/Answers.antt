use Rattle.std.proofs.Common.{◌+◌, sym, subst}
use Rattle.ask_history.specs.Engine.{EngineState}
use Rattle.engine_driver.specs.History.{journal_of}
use Rattle.engine_driver.specs.Serving.{Drives}
use Rattle.engine_driver.proofs.Replies.{found_done}
use Rattle.engine_driver.proofs.Settlings.{drives_staged, adds_settled}
use Rattle.engine_driver.proofs.driver.Driver.settle_staged.Goals as goal

pub returns-clause-drives : goal.returns-clause-drives
returns-clause-drives g c =
    subst (λ (s : EngineState). Drives (journal_of (g.B.Board.history c.settle-effect.new.self)) s (c.args.self.now.next + 1) c.args.self.now.opened.items) (sym c.settled.ensures)
    (drives_staged _ _ _ _ _ _ _ c.requires.staging c.settle-effect.ensures)

pub returns-clause-adds : goal.returns-clause-adds
returns-clause-adds g c =
    adds_settled g.E.Engine.answer_of g.E.Engine.problems_of _ _ _ _ _
    (found_done g.E.Engine.answer_of (g.B.Board.history c.args.board.now) c.args.self.now.next c.requires.staging.call c.requires.staging.called c.requires.staging.mutates) c.settle-effect.ensures
