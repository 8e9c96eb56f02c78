use Rattle.std.proofs.Common.{◌≡◌, ◌+◌, false, refl, sym, ap, ◌∙◌, subst}
use Rattle.std.proofs.lemmas.Bool.{eqb-true, false_from_ne_true}
use Rattle.ask_history.specs.Journal.{findings}
use Rattle.schedule_player.specs.Around.{with_work}
use Rattle.schedule_player.specs.SessionState.{SessionState}
use Rattle.schedule_player.specs.declared.outers.Work.TheVariants.{Checks}
use Rattle.schedule_player.proofs.Tellings.{told_still, told_then}
use Rattle.schedule_player.proofs.Arrivals.{reach_then}
use Rattle.schedule_player.proofs.Transitions.{left}
use Rattle.schedule_player.proofs.session.Session.check_from.Goals as goal

pub returns-clause-reaches : goal.returns-clause-reaches
returns-clause-reaches g c =
    reach_then _ _ c.set_work.new.self _
    (left c.args.number c.args.ended c.requires.line.0 c.args.self.now c.check.new.self _ c.requires.line.1
    (false_from_ne_true _ (λ e. c.requires.other (eqb-true c.args.ended c.args.number e))) c.check.ensures.same c.in_ok-check.ensures.done
    (c.set_work.ensures ∙ ap (λ n. record c.check.new.self { outers = with_work (Checks n) c.check.new.self.outers }) (ap (λ n. n + 1) c.from-next.ensures)))
    c.check_to.ensures.reaches

pub returns-clause-told : goal.returns-clause-told
returns-clause-told g c =
    told_then (told_then c.check.ensures.told (told_still (ap {A = SessionState} (λ s. findings g.N.Engine.problems_of s.journal) c.set_work.ensures) refl)) c.check_to.ensures.told
