use Rattle.engine_driver.proofs.Replies.{found_none}
use Rattle.engine_driver.proofs.Settlings.{drives_unfed, adds_settled}
use Rattle.engine_driver.proofs.driver.Driver.settle_unfed.Goals as goal

pub returns-clause-drives : goal.returns-clause-drives
returns-clause-drives g c = λ state drives. drives_unfed _ _ state _ _ _ drives c.settle.ensures

pub returns-clause-adds : goal.returns-clause-adds
returns-clause-adds g c =
    adds_settled g.E.Engine.answer_of g.E.Engine.problems_of _ _ _ _ _ (found_none g.E.Engine.answer_of (g.B.Board.history c.args.board.now) c.args.self.now.next) c.settle.ensures
