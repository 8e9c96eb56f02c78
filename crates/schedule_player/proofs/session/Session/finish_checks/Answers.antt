use Rattle.std.proofs.Common.{◌≡◌, refl, sym, ap, ◌∙◌, subst}
use Rattle.ask_history.specs.Journal.{findings}
use Rattle.schedule_player.specs.Around.{asks_of, around, top_work}
use Rattle.schedule_player.specs.Steps.{Ends, IsOfChecks}
use Rattle.schedule_player.specs.SessionState.{SessionState}
use Rattle.schedule_player.proofs.Tellings.{told_still, told_then}
use Rattle.schedule_player.proofs.Checking.{settled_alone}
use Rattle.schedule_player.proofs.CheckRuns.{checks_ended, checks_kept}
use Rattle.schedule_player.proofs.Transitions.{alone_in, settled_in}
use Rattle.schedule_player.proofs.session.Session.finish_checks.Goals as goal

pub check_all-requires-clause-alone : goal.check_all-requires-clause-alone
check_all-requires-clause-alone g c = alone_in c.args.self.now c.requires.in_step c.requires.line

pub returns-in-Err-clause-keeps : goal.returns-in-Err-clause-keeps
returns-in-Err-clause-keeps g c = record {
  keeps = checks_kept _ _ _ c.requires.line (settled_in c.args.self.now c.requires.in_step c.requires.line)
      (settled_in c.check_all.new.self c.check_all.ensures.in_step (subst (λ fs. IsOfChecks (top_work fs)) (sym c.check_all.ensures.same.outers) c.requires.line)) c.check_all.ensures.goes_on;
  outers = c.check_all.ensures.same.outers;
  tickets = c.check_all.ensures.same.tickets;
}

pub returns-in-Ok-clause-ends : goal.returns-in-Ok-clause-ends
returns-in-Ok-clause-ends g c = record {
  ends = subst (λ s. Ends (top_work c.args.self.now.outers) c.args.self.now.journal s.journal) (sym c.pop.ensures)
      (checks_ended _ _ _ c.requires.line (settled_in c.args.self.now c.requires.in_step c.requires.line) c.check_all.ensures.goes_on c.in-Ok.ensures.over);
  outers = ap {A = SessionState} (λ s. s.outers) c.pop.ensures ∙ ap around c.check_all.ensures.same.outers;
  tickets = ap {A = SessionState} (λ s. s.tickets) c.pop.ensures ∙ c.check_all.ensures.same.tickets;
}

pub returns-in-Ok-clause-told : goal.returns-in-Ok-clause-told
returns-in-Ok-clause-told g c = told_then c.check_all.ensures.told (told_still (ap {A = SessionState} (λ s. findings g.N.Engine.problems_of s.journal) c.pop.ensures) refl)
