use Rattle.session_threads.proofs.Readable.{are_found, few_found, can_play_all}
use Rattle.session_threads.proofs.reading.read_scripts.Goals as goal

pub returns-in-Ok-clause-few : goal.returns-in-Ok-clause-few
returns-in-Ok-clause-few g c = few_found _ _ (are_found _ _ _ c.in-Ok.ensures.comes)

pub returns-in-Ok-clause-can : goal.returns-in-Ok-clause-can
returns-in-Ok-clause-can g c = can_play_all _ _ (are_found _ _ _ c.in-Ok.ensures.comes)
