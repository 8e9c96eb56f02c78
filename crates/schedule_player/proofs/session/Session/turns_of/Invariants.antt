use Rattle.std.proofs.Common.{◌-◌}
use Rattle.schedule_player.proofs.Checking.{Turning}
use Rattle.schedule_player.proofs.session.Session.turns_of.Given as goal

abbrev pub invariant-loop-turns : goal.invariant-loop-turns
invariant-loop-turns g l = Turning g.N.Engine.answer_of g.N.Engine.problems_of l.initial.self l.self (g.N.Engine.state l.engine)

abbrev pub decreases-loop-turns : goal.decreases-loop-turns
decreases-loop-turns g l = l.until - l.turns
