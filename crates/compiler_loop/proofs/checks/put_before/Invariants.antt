use Rattle.std.proofs.Common.{◌≡◌, ◌+◌, ◌≤◌, ◌++◌, length, deque_capacity}
use Rattle.compiler_loop.proofs.checks.put_before.Given as goal

abbrev pub invariant-loop-name : goal.invariant-loop-name
invariant-loop-name l =
    (l.again.items ++ l.due.items ≡ l.initial.again.items ++ l.initial.due.items)
    × (length l.again.items + length l.due.items ≤ deque_capacity l.due)
    × (deque_capacity l.due ≡ deque_capacity l.initial.due)

abbrev pub decreases-loop-name : goal.decreases-loop-name
decreases-loop-name l = length l.again.items
