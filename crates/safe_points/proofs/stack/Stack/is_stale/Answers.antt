use Rattle.std.proofs.Common.{sym, ap, ◌∙◌}
use Rattle.safe_points.proofs.Tickets.{has_stale-at, has_stale-none}
use Rattle.safe_points.proofs.stack.Stack.is_stale.Goals as goal

pub returns-in-Some : goal.returns-in-Some
returns-in-Some g c =
    let at = rw c.as_slice.ensures.value at c.in-Some.ensures.found in
    rw (← c.self.view_is) (ap (λ ticketed. ticketed.stale) c.index.ensures ∙ sym (has_stale-at _ _ _ c.index.result.now c.self.invariant at))

pub returns-in-None : goal.returns-in-None
returns-in-None g c =
    let none = rw c.as_slice.ensures.value at c.in-None.ensures.absent in
    rw (← c.self.view_is) (sym (has_stale-none _ _ none))
