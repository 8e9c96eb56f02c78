use Rattle.std.proofs.Common.{IsTrue, subst}
use Rattle.ask_history.specs.Journal.{is_open}
use Rattle.ask_history.specs.Legal.{is_next}
use Rattle.ask_desk.specs.Driving.{Settles}
use Rattle.desk_driver.proofs.Seen.{journal_seen, settles_seen}
use Rattle.desk_driver.proofs.board.DeskBoardBoard.settle.Goals as goal

pub settle-requires-clause-unanswered : goal.settle-requires-clause-unanswered
settle-requires-clause-unanswered g c = subst (λ js. IsTrue (is_open js c.args.ticket)) (journal_seen c.args.self.now.serving.seen) c.requires.unanswered

pub settle-requires-clause-next : goal.settle-requires-clause-next
settle-requires-clause-next g c = subst (λ js. IsTrue (is_next js c.args.ticket)) (journal_seen c.args.self.now.serving.seen) c.requires.next

pub returns : goal.returns
returns g c =
    settles_seen c.args.self.now.serving c.settle.new.self c.args.ticket c.args.found c.settle.result c.settle.ensures.engine
    (subst (λ what. Settles c.args.self.now.serving c.settle.new.self c.args.ticket what c.settle.result) c.settling_of-what.ensures c.settle.ensures.settles)
