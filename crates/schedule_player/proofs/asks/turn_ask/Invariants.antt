use Rattle.std.proofs.Common.{◌-◌}
use Rattle.schedule_player.proofs.Turns.{TurnsKeep}
use Rattle.schedule_player.proofs.asks.turn_ask.Given as goal

abbrev pub invariant-loop-turns : goal.invariant-loop-turns
invariant-loop-turns g l = TurnsKeep (g.N.Engine.state l.initial.engine) (g.N.Engine.state l.engine)

abbrev pub decreases-loop-turns : goal.decreases-loop-turns
decreases-loop-turns g l = l.until - l.turns
