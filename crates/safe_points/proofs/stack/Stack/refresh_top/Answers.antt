use Rattle.std.proofs.Common.{ap, ◌∙◌}
use Rattle.safe_points.proofs.Tickets.{AreDistinct-set, top_changed-last, some_last}
use Rattle.safe_points.specs.Stack.{unmarked}
use Rattle.safe_points.proofs.stack.Stack.refresh_top.Goals as goal

pub invariant_of-self : goal.invariant_of-self
invariant_of-self g c = AreDistinct-set _ _ _ c.index_mut.result.now (ap (λ ticketed. ticketed.ticket) c.index_mut.ensures.value) c.self.invariant

pub returns : goal.returns
returns g c =
    let is = some_last _ c.len-last.result (rw (← c.self.view_is) at c.requires) (c.len-last.ensures ∙ c.self.inside.tasks.ok.0) in
    rw (← c.self.view_is) (top_changed-last unmarked _ _ c.index_mut.result.now is c.index_mut.ensures.value)
