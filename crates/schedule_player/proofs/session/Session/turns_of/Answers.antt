use Rattle.std.proofs.Common.{◌≡◌, refl, sym, ap, ◌∙◌}
use Rattle.schedule_player.specs.Around.{asks_of}
use Rattle.schedule_player.proofs.Checking.{same_found, same_journal, same_closed, same_outers}
use Rattle.schedule_player.proofs.session.Session.turns_of.Goals as goal

pub loop-turns-init : goal.loop-turns-init
loop-turns-init g c = record { in_step = c.requires.in_step; checks = c.requires.checks; same = record { same = refl } }

pub turn_check-requires-clause-in_step : goal.turn_check-requires-clause-in_step
turn_check-requires-clause-in_step g c = c.loop-turns.invariant.in_step

pub turn_check-requires-clause-checks : goal.turn_check-requires-clause-checks
turn_check-requires-clause-checks g c = c.loop-turns.invariant.checks

pub turn_check-requires-clause-live : goal.turn_check-requires-clause-live
turn_check-requires-clause-live g c = same_closed c.loop-turns.invariant.same ∙ c.requires.live

pub turn_check-requires-clause-alone : goal.turn_check-requires-clause-alone
turn_check-requires-clause-alone g c = ap asks_of (same_outers c.loop-turns.invariant.same) ∙ c.requires.alone

pub returns-in_err-turn_check-clause-same : goal.returns-in_err-turn_check-clause-same
returns-in_err-turn_check-clause-same g c = same_found c.loop-turns.invariant.same c.turn_check.ensures.same

pub loop-turns-preserved : goal.loop-turns-preserved
loop-turns-preserved g c = record { in_step = c.turn_check.ensures.in_step; checks = c.in_ok-turn_check.ensures.checks; same = same_found c.loop-turns.invariant.same c.turn_check.ensures.same }

pub returns-after-loop-turns-clause-in_step : goal.returns-after-loop-turns-clause-in_step
returns-after-loop-turns-clause-in_step g c = c.loop-turns.invariant.in_step

pub returns-after-loop-turns-clause-checks : goal.returns-after-loop-turns-clause-checks
returns-after-loop-turns-clause-checks g c = c.loop-turns.invariant.checks

pub returns-after-loop-turns-clause-same : goal.returns-after-loop-turns-clause-same
returns-after-loop-turns-clause-same g c = c.loop-turns.invariant.same

pub returns-in_default : goal.returns-in_default
returns-in_default g c = record { in_step = c.turn_check.ensures.in_step; checks = c.in_ok-turn_check.ensures.checks; same = same_found c.loop-turns.invariant.same c.turn_check.ensures.same }
