use Rattle.report_hub.proofs.Reports.{OfEach-told_none}
use Rattle.session_threads.proofs.session.play_at.Goals as goal

pub returns-in-Err-clause-told : goal.returns-in-Err-clause-told
returns-in-Err-clause-told g c = rw (c.unopened.ensures.hub, c.unopened.ensures.journal) (OfEach-told_none _ _ _)

pub returns-clause-told : goal.returns-clause-told
returns-clause-told g c =
    let left = c.left_of.ensures.left c.args.scripts (c.play_parts-parts.ensures.parts c.args.scripts c.in-Ok.ensures) in
    rw (c.left_of.ensures.hub, ← left.told) c.play_parts-parts.ensures.told
