use Rattle.std.proofs.Common.{◌∙◌, sym, ap}
use Rattle.ask_history.specs.Legal.{is_legal}
use Rattle.desk_driver.proofs.Seen.{journal_seen}
use Rattle.desk_driver.proofs.Drives.{can_later, served_seen, drives_seen}
use Rattle.desk_driver.proofs.driving.drive_begun.Goals as goal

pub drive-requires-clause-legal : goal.drive-requires-clause-legal
drive-requires-clause-legal g c = ap is_legal (journal_seen c.begin-serving.result.seen) ∙ c.begin-serving.ensures.legal

pub drive-requires-clause-can : goal.drive-requires-clause-can
drive-requires-clause-can g c = can_later c.args.pass.pass.seen c.begin-serving.result.seen _ c.begin-serving.ensures.later c.begin-serving.ensures.legal c.requires.can

pub returns-clause-served : goal.returns-clause-served
returns-clause-served g c = served_seen c.into_pass.result.pass c.drive.new.board.serving _ c.into_pass.ensures.pass c.drive.ensures.served

pub returns-clause-drives : goal.returns-clause-drives
returns-clause-drives g c =
    drives_seen g.E.Engine.answer_of g.E.Engine.problems_of _ c.args.pass.pass g.M.Begun.begun c.into_pass.result.pass c.drive.new.board.serving c.begin-serving.result.seen _ _
    c.requires.begun c.into_pass.ensures.pass c.begin-serving.ensures.later c.begin-serving.ensures.legal c.into_pass.ensures.serves c.drive.ensures.made

pub returns-clause-made : goal.returns-clause-made
returns-clause-made g c = c.into_pass.ensures.made ∙ sym c.requires.count
