use Rattle.std.proofs.Common.{IsTrue, sym, subst}
use Rattle.ask_history.specs.Legal.{may_follow}
use Rattle.ask_history.specs.declared.events.Event.TheVariants.{Checked}
use Rattle.engine_driver.specs.Board.{Checks}
use Rattle.desk_driver.specs.Seen.{seen_history}
use Rattle.desk_driver.proofs.Seen.{journal_seen, checks_seen}
use Rattle.desk_driver.proofs.board.DeskBoardBoard.check.Goals as goal

pub check-noted-requires : goal.check-noted-requires
check-noted-requires g c = subst (λ js. IsTrue (may_follow js (Checked c.args.file.now))) (journal_seen c.args.self.now.serving.seen) c.requires

pub returns : goal.returns
returns g c =
    subst (Checks (seen_history c.args.self.now.serving.seen) (seen_history c.check-noted.new.self.seen) c.args.file.now c.args.problems.now) (sym c.noted_of.ensures)
    (checks_seen c.args.self.now.serving c.check-noted.new.self c.args.file.now c.args.problems.now c.check-noted.ensures.engine c.check-noted.result c.check-noted.ensures.checks)
