use Rattle.std.proofs.Common.{get_or, ap}
use Rattle.std.proofs.lemmas.List.Edits.{map_over_more}
use Rattle.safe_points.specs.Stack.{marked}
use Rattle.safe_points.proofs.Tickets.{AreDistinct-all_stale, all_stale-whole}
use Rattle.safe_points.proofs.stack.Stack.stale_all.Goals as goal

pub invariant_of-self : goal.invariant_of-self
invariant_of-self g c =
    let is = all_stale-whole c.self.inside.tasks.items c.loop-ticketed.ticketed-items c.self.inside.tasks.len c.loop-ticketed.ticketed-index c.self.inside.tasks.ok.0
    (rw c.deref_mut-ticketed-items.ensures.value at c.loop-ticketed-test.false) (rw c.deref_mut-ticketed-items.ensures.value at c.loop-ticketed.invariant) in
    rw is (AreDistinct-all_stale _ c.self.invariant)

pub returns : goal.returns
returns g c =
    rw (← c.self.view_is) (all_stale-whole c.self.inside.tasks.items c.loop-ticketed.ticketed-items c.self.inside.tasks.len c.loop-ticketed.ticketed-index c.self.inside.tasks.ok.0
    (rw c.deref_mut-ticketed-items.ensures.value at c.loop-ticketed-test.false) (rw c.deref_mut-ticketed-items.ensures.value at c.loop-ticketed.invariant))

pub loop-ticketed-preserved : goal.loop-ticketed-preserved
loop-ticketed-preserved g c =
    map_over_more marked c.deref_mut-ticketed-items.result.now c.loop-ticketed.ticketed-items c.loop-ticketed.ticketed-index _ c.loop-ticketed-test.true c.loop-ticketed.invariant
    (ap (get_or c.loop-ticketed.ticketed-items c.loop-ticketed.ticketed-index) c.ticketed-item.is)
