use Rattle.std.proofs.Common.{refl, ap}
use Rattle.ask_history.specs.Journal.{findings}
use Rattle.session_run.proofs.SessionLemmas.{nothing_told}
use Rattle.session_run.proofs.reported.play_reported.Goals as goal

pub returns-in-Err-clause-told : goal.returns-in-Err-clause-told
returns-in-Err-clause-told g c =
    ((refl, refl), nothing_told _ _ (ap (λ played. findings g.N.Engine.problems_of played.journal.events) c.nothing.ensures))

pub returns-in-Err-attach-clause-told : goal.returns-in-Err-attach-clause-told
returns-in-Err-attach-clause-told g c =
    rw c.in-Err-attach.ensures.handed_back
    ((refl, refl), nothing_told _ _ (ap (λ played. findings g.N.Engine.problems_of played.journal.events) c.nothing-in-Err-attach.ensures))
