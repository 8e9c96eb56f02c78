use Rattle.std.proofs.Common.{◌∙◌, Some, None, if◌then◌else◌, get_or}
use Rattle.std.specs.Str.{bytes_eq}
use Rattle.work_queue.specs.Reloads.{longer}
use Rattle.work_queue.specs.Tally.{known}
use Rattle.work_queue.proofs.Rooms.{longest-more, all_taken_in}
use Rattle.work_queue.proofs.tally.Tally.take_in.Goals as goal

pub loop-pair-preserved : goal.loop-pair-preserved
loop-pair-preserved c =
    let old = c.loop-pair.self in
    record {
      longest = longest-more (known c.args.self.now) (known old) (known c.raise.new.self) c.args.pairs.now c.loop-pair.pair-index c.pair-item.result
          c.loop-pair-test.true c.pair-item.is c.loop-pair.invariant.longest
          (λ name. c.raise.ensures.longest name ∙ (λ j. longer (known old name) (if bytes_eq (c.as_str.ensures j) name then Some (c.len.ensures j) else None)));
      room = λ k d h. c.raise.ensures.room (get_or c.args.pairs.now k d).0 (c.loop-pair.invariant.room k d h);
    }

pub returns : goal.returns
returns c = all_taken_in c.args.self.now _ c.args.pairs.now c.loop-pair.pair-index c.loop-pair-test.false c.loop-pair.invariant.longest
