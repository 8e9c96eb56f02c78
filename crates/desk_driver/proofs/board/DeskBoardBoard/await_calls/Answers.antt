use Rattle.desk_driver.proofs.Seen.{awaits_seen}
use Rattle.desk_driver.proofs.board.DeskBoardBoard.await_calls.Goals as goal

pub returns : goal.returns
returns g c = awaits_seen c.args.self.now.serving c.await_calls.new.self c.await_calls.result c.args.count c.await_calls.ensures.looks c.await_calls.ensures.more
