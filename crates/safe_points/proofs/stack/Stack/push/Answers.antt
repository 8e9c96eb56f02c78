use Rattle.safe_points.proofs.Tickets.{AreDistinct-push}
use Rattle.safe_points.proofs.stack.Stack.push.Goals as goal

pub invariant_of-self-2 : goal.invariant_of-self-2
invariant_of-self-2 g c =
    rw c.in_ok-push.ensures.items (AreDistinct-push _ _ c.self.invariant (rw c.self.view_is c.requires))
