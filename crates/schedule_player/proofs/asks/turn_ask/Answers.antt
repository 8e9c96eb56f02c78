use Rattle.schedule_player.proofs.Turns.{keep_start, keep_more}
use Rattle.schedule_player.proofs.asks.turn_ask.Goals as goal

pub loop-turns-init : goal.loop-turns-init
loop-turns-init g c = keep_start _ c.requires

pub turn_on_top-requires : goal.turn_on_top-requires
turn_on_top-requires g c = c.loop-turns.invariant.staged

pub loop-turns-preserved : goal.loop-turns-preserved
loop-turns-preserved g c = keep_more _ _ _ c.loop-turns.invariant c.turn_on_top.ensures.staged c.turn_on_top.ensures.same

pub returns-after-loop-turns : goal.returns-after-loop-turns
returns-after-loop-turns g c = c.loop-turns.invariant.same

pub returns-then-is_some : goal.returns-then-is_some
returns-then-is_some g c = (keep_more _ _ _ c.loop-turns.invariant c.turn_on_top.ensures.staged c.turn_on_top.ensures.same).same
