use Rattle.std.proofs.Common.{refl}
use Rattle.desk_driver.proofs.Seen.{looks_seen}
use Rattle.desk_driver.proofs.board.DeskBoardBoard.look.Goals as goal

pub returns : goal.returns
returns g c =
    looks_seen c.args.self.now.serving c.look_over-found.new.self c.look_over-found.result.0 c.look_over-found.result.1 c.args.opened.now
    (record { accepted = c.look_over-found.result.0.accepted; is_closed = c.look_over-found.result.0.is_closed; cancelled = c.look_over-found.result.1 })
    c.look_over-found.ensures.looks c.look_over-found.ensures.cancelled refl
