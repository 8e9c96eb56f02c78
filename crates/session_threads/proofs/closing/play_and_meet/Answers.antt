use Rattle.std.proofs.Common.{◌∙◌}
use Rattle.session_threads.proofs.Joining.{met_itself, all_have_played, scripts_stay}
use Rattle.session_threads.proofs.closing.play_and_meet.Goals as goal

pub returns-in-Some-clause-scripts : goal.returns-in-Some-clause-scripts
returns-in-Some-clause-scripts g c = scripts_stay _ _ _ _ c.meet_all.ensures.clients ∙ c.in-Some.ensures.scripts

pub returns-in-Some-clause-played : goal.returns-in-Some-clause-played
returns-in-Some-clause-played g c = all_have_played _ _ _ _ c.meet_all.ensures.clients c.in-Some.ensures.played

pub returns-in-None-clause-closing : goal.returns-in-None-clause-closing
returns-in-None-clause-closing g c = met_itself _
