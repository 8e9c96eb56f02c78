use Rattle.report_hub.proofs.Reports.{OfEach-told_none}
use Rattle.session_threads.proofs.session.play_told.Goals as goal

pub returns-in-Err-clause-told : goal.returns-in-Err-clause-told
returns-in-Err-clause-told g c = rw (c.unopened.ensures.hub, c.unopened.ensures.journal) (OfEach-told_none _ _ _)
