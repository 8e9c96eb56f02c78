use Rattle.std.proofs.Common.{refl, sym, ap, ◌∙◌, subst}
use Rattle.ask_history.specs.Journal.{findings}
use Rattle.schedule_player.specs.SessionState.{SessionState}
use Rattle.schedule_player.proofs.Tellings.{told_still}
use Rattle.schedule_player.proofs.OnlySettling.{settles_find_nothing}
use Rattle.schedule_player.proofs.session.Session.finish.Goals as goal

pub returns-in-Ask-clause-told : goal.returns-in-Ask-clause-told
returns-in-Ask-clause-told g c = told_still (settles_find_nothing g.N.Engine.problems_of _ _ c.finish_ask.ensures.settles) refl

pub returns-in-Beside-clause-told : goal.returns-in-Beside-clause-told
returns-in-Beside-clause-told g c = told_still (ap {A = SessionState} (λ s. findings g.N.Engine.problems_of s.journal) c.pop.ensures) refl

pub returns-in-Passed-clause-told : goal.returns-in-Passed-clause-told
returns-in-Passed-clause-told g c = told_still (ap {A = SessionState} (λ s. findings g.N.Engine.problems_of s.journal) c.pop-in-Passed.ensures) refl
