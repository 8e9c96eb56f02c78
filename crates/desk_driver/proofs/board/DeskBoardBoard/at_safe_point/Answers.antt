use Rattle.desk_driver.proofs.Seen.{same_seen}
use Rattle.desk_driver.proofs.board.DeskBoardBoard.at_safe_point.Goals as goal

pub returns : goal.returns
returns g c = same_seen c.args.self.now.serving.seen c.law_legal.ensures
