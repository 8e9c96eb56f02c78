use Rattle.std.proofs.Common.{◌≡◌, [], length}
use Rattle.lazy_completion.specs.Memo.{locked}
use Rattle.lazy_completion.specs.Completion.{IsOf}
use Rattle.completion_checks.specs.Graph.{nodes, typing}
use Rattle.completion_checks.proofs.asks.ask_all.Given as goal

abbrev pub invariant-loop-node : goal.invariant-loop-node
invariant-loop-node l = record {
  unlocked : locked l.memo ≡ [];
  right : IsOf (nodes (length l.graph.needs.items)) (typing l.graph.needs.items) l.memo;
}
