use Rattle.std.proofs.Common.{◌<◌, subst}
use Rattle.ask_history.specs.Journal.{accepted}
use Rattle.desk_driver.proofs.Seen.{journal_seen, finds_later, finds_seen}
use Rattle.desk_driver.proofs.board.DeskBoardBoard.posted.Goals as goal

pub posted-found-requires : goal.posted-found-requires
posted-found-requires g c = subst (λ js. c.args.ticket < accepted js) (journal_seen c.args.self.now.serving.seen) c.requires

pub returns-clause-later : goal.returns-clause-later
returns-clause-later g c = finds_later c.args.self.now.serving c.posted-found.new.self c.args.ticket c.posted-found.result c.posted-found.ensures

pub returns-clause-finds : goal.returns-clause-finds
returns-clause-finds g c = finds_seen c.posted-found.new.self.seen c.args.ticket c.posted-found.result c.posted_of.result c.posted_of.ensures c.posted-found.ensures.finds
