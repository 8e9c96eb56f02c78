use Rattle.std.proofs.Common.{Some, sym, ap, ◌∙◌, arith}
use Rattle.safe_points.specs.declared.ticketed.Ticketed.{Ticketed}
use Rattle.safe_points.proofs.Tickets.{AreDistinct-remove, within, removed-at, removed-none, task_of-at, task_of-none}
use Rattle.safe_points.proofs.stack.Stack.remove.Goals as goal

pub returns-in_err-index-clause-task : goal.returns-in_err-index-clause-task
returns-in_err-index-clause-task g c =
    let none = rw c.as_slice.ensures.value at c.in_err-index.ensures.absent in
    rw (← c.self.view_is) (c.from_residual.ensures ∙ sym (task_of-none _ _ none))

pub returns-in_err-index-clause-rest : goal.returns-in_err-index-clause-rest
returns-in_err-index-clause-rest g c =
    let none = rw c.as_slice.ensures.value at c.in_err-index.ensures.absent in
    rw (← c.self.view_is) (sym (removed-none _ _ none))

pub remove-task-requires : goal.remove-task-requires
remove-task-requires g c =
    let below = within c.as_slice.result.now c.in_ok-index.index c.args.ticket c.in_ok-index.ensures.found in omega (arith, below, c.as_slice.ensures.len)

pub invariant_of-self : goal.invariant_of-self
invariant_of-self g c = rw c.remove-task.ensures.items (AreDistinct-remove _ _ c.self.invariant)

pub returns-clause-task : goal.returns-clause-task
returns-clause-task g c =
    let at = rw c.as_slice.ensures.value at c.in_ok-index.ensures.found in
    rw (← c.self.view_is) (ap (λ (ticketed : Ticketed g.row.T.Denot). Some ticketed.task) c.remove-task.ensures.value ∙ sym (task_of-at _ _ _ c.remove-task.result c.self.invariant at))

pub returns-clause-rest : goal.returns-clause-rest
returns-clause-rest g c =
    let at = rw c.as_slice.ensures.value at c.in_ok-index.ensures.found in
    rw (← c.self.view_is, c.remove-task.ensures.items) (removed-at _ _ _ c.self.invariant at)
