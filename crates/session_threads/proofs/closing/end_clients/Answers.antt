use Rattle.session_threads.proofs.Joining.{have_ended}
use Rattle.session_threads.proofs.closing.end_clients.Goals as goal

pub returns-clause-ended : goal.returns-clause-ended
returns-clause-ended g c = have_ended c.args.closing c.play_and_meet-clients.new.closing _ _ _ _ c.requires.closing c.play_and_meet-clients.ensures.closing c.close.ensures c.known-2.ensures.1 c.play_and_meet-clients.ensures.played
