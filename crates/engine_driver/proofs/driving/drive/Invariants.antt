use Rattle.report_hub.specs.Hub.{reporters_of, of_box, IsToldMost, OfEach}
use Rattle.engine_driver.specs.History.{journal_of}
use Rattle.engine_driver.specs.Serving.{Drives}
use Rattle.engine_driver.specs.Runs.{Made}
use Rattle.engine_driver.proofs.driving.drive.Given as goal

abbrev pub invariant-loop : goal.invariant-loop
invariant-loop g l = record {
  drives : Drives (journal_of (g.B.Board.history l.board)) (g.E.Engine.state l.engine) l.driver.next l.driver.opened.items;
  made : Made g.E.Engine.answer_of g.E.Engine.problems_of
      (λ findings. OfEach (IsToldMost (of_box (λ z. (goal.Reporter-dyn g z).told z.1)) (of_box (λ z. (goal.Reporter-dyn g z).faults z.1)) findings) (reporters_of l.initial.hub) (reporters_of l.hub))
      (g.B.Board.history l.initial.board) (g.B.Board.history l.board) l.initial.found.items l.found.items;
}
