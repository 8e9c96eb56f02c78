use Rattle.std.proofs.Common.{refl, ap}
use Rattle.ask_history.specs.Journal.{findings}
use Rattle.session_run.proofs.SessionLemmas.{nothing_told}
use Rattle.session_threads.proofs.session.play_session.Goals as goal

pub returns-in-Err-clause-told : goal.returns-in-Err-clause-told
returns-in-Err-clause-told g c =
    rw c.nothing.ensures.reporter ((refl, refl), nothing_told _ _ (ap (findings g.N.Engine.problems_of) c.nothing.ensures.journal))

pub returns-in-Err-attach-clause-told : goal.returns-in-Err-attach-clause-told
returns-in-Err-attach-clause-told g c =
    rw (c.nothing-in-Err-attach.ensures.reporter, c.in-Err-attach.ensures.handed_back)
    ((refl, refl), nothing_told _ _ (ap (findings g.N.Engine.problems_of) c.nothing-in-Err-attach.ensures.journal))
