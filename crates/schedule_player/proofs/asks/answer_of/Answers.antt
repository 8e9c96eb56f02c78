use Rattle.schedule_player.specs.Steps.{Finds}
use Rattle.schedule_player.proofs.Turns.{keep_start, keep_more, found_after}
use Rattle.schedule_player.proofs.asks.answer_of.Goals as goal

pub loop-found-init : goal.loop-found-init
loop-found-init g c = keep_start _ c.requires

pub turn_on_top-requires : goal.turn_on_top-requires
turn_on_top-requires g c = c.loop-found.invariant.staged

pub returns-in-Some-clause-same : goal.returns-in-Some-clause-same
returns-in-Some-clause-same g c = (keep_more _ _ _ c.loop-found.invariant c.turn_on_top.ensures.staged c.turn_on_top.ensures.same).same

pub returns-in-Some-clause-finds : goal.returns-in-Some-clause-finds
returns-in-Some-clause-finds g c = λ ask top. found_after g.N.Engine.answer_of (Finds _) _ _ ask c.loop-found.invariant top c.in-Some.ensures.finds

pub loop-found-preserved : goal.loop-found-preserved
loop-found-preserved g c = keep_more _ _ _ c.loop-found.invariant c.turn_on_top.ensures.staged c.turn_on_top.ensures.same
