use Rattle.std.proofs.Common.{◌≡◌, take}
use Rattle.std.specs.Str.{bytes_eq}
use Rattle.indexmap.specs.IndexMap.{get_by}
use Rattle.ask_history.specs.Sources.{Bytes}
use Rattle.work_queue.specs.Reloads.{longest}
use Rattle.work_queue.proofs.Counting.{IsCounted}
use Rattle.work_queue.proofs.tally.Tally.indexed_usage.Given as goal

abbrev pub invariant-loop-i : goal.invariant-loop-i
invariant-loop-i l = record {
  counted : IsCounted l.self l.pairs l.i l.usage;
  indexed : (name : Bytes) → get_by (λ k. bytes_eq name k.now) l.seen ≡ longest (take l.i l.pairs) name;
}
