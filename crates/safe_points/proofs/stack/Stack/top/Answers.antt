use Rattle.std.proofs.Common.{rules}
use Rattle.safe_points.proofs.Tickets.{slice_get-last}
use Rattle.safe_points.proofs.stack.Stack.top.Goals as goal

pub returns-clause-ticket : goal.returns-clause-ticket
returns-clause-ticket g c = rw (← c.self.view_is, ← slice_get-last c.self.inside.tasks.items) (search rules)
