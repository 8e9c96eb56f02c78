use Rattle.std.proofs.Common.{◌≡◌, refl, sym, ap, ◌∙◌, subst}
use Rattle.ask_history.specs.Journal.{findings}
use Rattle.schedule_player.proofs.Tellings.{told_still, told_then}
use Rattle.schedule_player.proofs.Arrivals.{reach_then}
use Rattle.schedule_player.proofs.Transitions.{turns_reach, turns_come}
use Rattle.schedule_player.proofs.session.Session.arrive.Goals as goal

pub returns-clause-reaches : goal.returns-clause-reaches
returns-clause-reaches g c =
    reach_then _ _ c.reach.new.self _ c.reach.ensures.reaches
    (reach_then _ _ c.wait_in_ask.new.self _ (turns_reach _ _ _ c.wait_in_ask.ensures.same) (turns_reach _ _ _ c.wait_in_check.ensures.same))

pub returns-clause-come : goal.returns-clause-come
returns-clause-come g c = turns_come _ c.wait_in_ask.new.self _ c.wait_in_check.ensures.same (turns_come _ c.reach.new.self _ c.wait_in_ask.ensures.same c.in_ok-reach.ensures.come)

pub returns-clause-told : goal.returns-clause-told
returns-clause-told g c =
    told_then c.reach.ensures.told (told_still (ap (findings g.N.Engine.problems_of) (c.wait_in_check.ensures.same.journal ∙ c.wait_in_ask.ensures.same.journal)) refl)

pub returns-in_err-wait_in_check-clause-reaches : goal.returns-in_err-wait_in_check-clause-reaches
returns-in_err-wait_in_check-clause-reaches g c =
    reach_then _ _ c.reach.new.self _ c.reach.ensures.reaches
    (reach_then _ _ c.wait_in_ask.new.self _ (turns_reach _ _ _ c.wait_in_ask.ensures.same) (turns_reach _ _ _ c.wait_in_check.ensures.same))

pub returns-in_err-wait_in_check-clause-told : goal.returns-in_err-wait_in_check-clause-told
returns-in_err-wait_in_check-clause-told g c =
    told_then c.reach.ensures.told (told_still (ap (findings g.N.Engine.problems_of) (c.wait_in_check.ensures.same.journal ∙ c.wait_in_ask.ensures.same.journal)) refl)
