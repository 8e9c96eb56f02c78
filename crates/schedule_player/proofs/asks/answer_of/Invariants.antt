use Rattle.schedule_player.proofs.Turns.{TurnsKeep}
use Rattle.schedule_player.proofs.asks.answer_of.Given as goal

abbrev pub invariant-loop-found : goal.invariant-loop-found
invariant-loop-found g l = TurnsKeep (g.N.Engine.state l.initial.engine) (g.N.Engine.state l.engine)

abbrev pub decreases-loop-found : goal.decreases-loop-found
decreases-loop-found g l = g.N.Engine.left l.engine
