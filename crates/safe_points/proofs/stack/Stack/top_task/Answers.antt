use Rattle.std.proofs.Common.{refl, ap, ◌∙◌}
use Rattle.std.specs.Option.{option_map}
use Rattle.safe_points.proofs.Tickets.{AreDistinct-set, top_of-last, top_changed-last, some_last}
use Rattle.safe_points.specs.Stack.{with_task}
use Rattle.safe_points.proofs.stack.Stack.top_task.Goals as goal

pub invariant_of-self-lent : goal.invariant_of-self-lent
invariant_of-self-lent g c w = AreDistinct-set _ _ _ c.index_mut.result.now (ap (λ ticketed. ticketed.ticket) c.index_mut.ensures.value) c.self.invariant

pub returns : goal.returns
returns g c =
    let is = some_last _ c.len-last.result (rw (← c.self.view_is) at c.requires) (c.len-last.ensures ∙ c.self.inside.tasks.ok.0) in
    rw (← c.self.view_is) (
      (refl, λ w. top_changed-last (with_task w) _ _ c.index_mut.result.now is c.index_mut.ensures.value),
      record {
        writes_back = tt;
        value = ap (option_map (λ ticketed. ticketed.task)) (top_of-last _ _ c.index_mut.result.now is c.index_mut.ensures.value);
      },
    )
