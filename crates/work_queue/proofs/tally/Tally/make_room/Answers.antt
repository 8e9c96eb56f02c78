use Rattle.std.proofs.Common.{◌∙◌, length, sym, ap, subst, arith}
use Rattle.std.proofs.lemmas.List.{take_all}
use Rattle.work_queue.specs.Tally.{HasRoom, has_room}
use Rattle.work_queue.proofs.Results.{ok_from}
use Rattle.work_queue.proofs.Rooms.{same-again, has_room-more}
use Rattle.work_queue.proofs.tally.Tally.make_room.Goals as goal

pub loop-pair-preserved : goal.loop-pair-preserved
loop-pair-preserved c =
    let start = c.args.self.now in
    let room = ok_from c.make_room_for.result _ (sym c.is_err.ensures.value ∙ c.if-is_err.false) c.make_room_for.ensures.room in
    let same = c.make_room_for.ensures.same in
    let kept = c.loop-pair.invariant.more in
    let more = c.make_room_for.ensures.more in
    record {
      same = same-again start c.loop-pair.self c.make_room_for.new.self c.loop-pair.invariant.same same;
      room = has_room-more c.loop-pair.self c.make_room_for.new.self c.args.pairs.now c.loop-pair.pair-index c.pair-item.result same.room
          c.loop-pair-test.true c.pair-item.is c.loop-pair.invariant.room (ap (has_room c.make_room_for.new.self) (sym c.as_str.ensures) ∙ room);
      names = c.make_room_for.ensures.names (length start.longest.entries) kept ∙ c.loop-pair.invariant.names;
      more = omega arith;
    }

pub returns-clause-room : goal.returns-clause-room
returns-clause-room c =
    subst (λ es. HasRoom es c.loop-pair.self) (take_all c.loop-pair.pair-index c.args.pairs.now c.loop-pair-test.false) c.loop-pair.invariant.room
