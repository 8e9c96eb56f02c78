use Rattle.schedule_player.proofs.Checking.{Turning}
use Rattle.schedule_player.proofs.session.Session.finds.Given as goal

abbrev pub invariant-loop : goal.invariant-loop
invariant-loop g l = Turning g.N.Engine.answer_of g.N.Engine.problems_of l.initial.self l.self (g.N.Engine.state l.engine)

abbrev pub decreases-loop : goal.decreases-loop
decreases-loop g l = g.N.Engine.left l.engine
