use Rattle.std.proofs.Common.{◌≡◌, ◌≤◌, length, take}
use Rattle.work_queue.specs.Tally.{TellsSame, HasRoom}
use Rattle.work_queue.proofs.tally.Tally.make_room.Given as goal

abbrev pub invariant-loop-pair : goal.invariant-loop-pair
invariant-loop-pair l = record {
  same : TellsSame l.initial.self l.self;
  room : HasRoom (take l.pair-index l.pairs) l.self;
  names : take (length l.initial.self.longest.entries) l.self.longest.entries ≡ l.initial.self.longest.entries;
  more : length l.initial.self.longest.entries ≤ length l.self.longest.entries;
}
