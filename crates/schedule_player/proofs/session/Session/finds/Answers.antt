use Rattle.std.proofs.Common.{◌≡◌, refl, sym, ap, ◌∙◌}
use Rattle.ask_history.specs.Sources.{some_of}
use Rattle.ask_history.specs.Checks.{due}
use Rattle.schedule_player.specs.Around.{asks_of}
use Rattle.schedule_player.proofs.Checking.{same_found, same_journal, same_closed, same_outers}
use Rattle.schedule_player.proofs.session.Session.finds.Goals as goal

pub loop-init : goal.loop-init
loop-init g c = record { in_step = c.requires.in_step; checks = c.requires.checks; same = record { same = refl } }

pub turn_check-requires-clause-in_step : goal.turn_check-requires-clause-in_step
turn_check-requires-clause-in_step g c = c.loop.invariant.in_step

pub turn_check-requires-clause-checks : goal.turn_check-requires-clause-checks
turn_check-requires-clause-checks g c = c.loop.invariant.checks

pub turn_check-requires-clause-live : goal.turn_check-requires-clause-live
turn_check-requires-clause-live g c = same_closed c.loop.invariant.same ∙ c.requires.live

pub turn_check-requires-clause-alone : goal.turn_check-requires-clause-alone
turn_check-requires-clause-alone g c = ap asks_of (same_outers c.loop.invariant.same) ∙ c.requires.alone

pub returns-in_err-turn_check-clause-same : goal.returns-in_err-turn_check-clause-same
returns-in_err-turn_check-clause-same g c = same_found c.loop.invariant.same c.turn_check.ensures.same

pub loop-preserved : goal.loop-preserved
loop-preserved g c = record { in_step = c.turn_check.ensures.in_step; checks = c.in_ok-turn_check.ensures.checks; same = same_found c.loop.invariant.same c.turn_check.ensures.same }

pub returns-in-Found-clause-same : goal.returns-in-Found-clause-same
returns-in-Found-clause-same g c = same_found c.loop.invariant.same c.turn_check.ensures.same

pub returns-in-NothingDue-clause-same : goal.returns-in-NothingDue-clause-same
returns-in-NothingDue-clause-same g c = same_found c.loop.invariant.same c.turn_check.ensures.same
