use Rattle.std.proofs.Common.{◌≡◌, take}
use Rattle.ask_history.specs.Sources.{Bytes}
use Rattle.work_queue.specs.Reloads.{longest, longer}
use Rattle.work_queue.specs.Tally.{HasRoom, known}
use Rattle.work_queue.proofs.tally.Tally.take_in.Given as goal

abbrev pub invariant-loop-pair : goal.invariant-loop-pair
invariant-loop-pair l = record {
  longest : (name : Bytes) → known l.self name ≡ longer (known l.initial.self name) (longest (take l.pair-index l.pairs) name);
  room : HasRoom l.pairs l.self;
}
