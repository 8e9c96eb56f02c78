use Rattle.std.proofs.Common.{◌-◌, ap, refl, arith}
use Rattle.work_queue.proofs.Tickets.{settle_open}
use Rattle.work_queue.proofs.Logs.{ticket_within, some_left, room_left, has_room, log-settle}
use Rattle.work_queue.proofs.log.Log.settle.Goals as goal

pub index-was-requires : goal.index-was-requires
index-was-requires c = ticket_within c.self.inside c.self.invariant _ c.self.view_is c.args.ticket (settle_open c.args.self.now c.args.ticket c.args.mark c.requires)

pub index_mut-requires : goal.index_mut-requires
index_mut-requires c = ticket_within c.self.inside c.self.invariant _ c.self.view_is c.args.ticket (settle_open c.args.self.now c.args.ticket c.args.mark c.requires)

pub put-requires : goal.put-requires
put-requires c = has_room c.self.inside c.self.invariant _ c.self.view_is c.args.ticket c.index-was.result.now c.index-was.ensures (settle_open c.args.self.now c.args.ticket c.args.mark c.requires)

pub overflow_sub-self : goal.overflow_sub-self
overflow_sub-self c =
    let unanswered = settle_open c.args.self.now c.args.ticket c.args.mark c.requires in
    let some = some_left c.self.inside c.self.invariant _ c.self.view_is c.args.ticket c.index-was.result.now c.index-was.ensures unanswered in
    let left = room_left c.self.inside c.self.invariant _ c.self.view_is c.args.ticket c.index-was.result.now c.index-was.ensures unanswered in
    omega arith

pub invariant_of-self : goal.invariant_of-self
invariant_of-self c =
    log-settle c.self.inside c.self.invariant _ c.self.view_is c.args.ticket c.index-was.result.now c.index-was.ensures _ _ c.len-index.ensures refl
    c.args.mark c.requires (record { items = c.put.ensures.items; len = c.put.ensures.len; capacity = c.put.ensures.capacity }) refl (ap (λ n. c.self.inside.promised - n) c.events_left.ensures)

pub returns-clause-legal : goal.returns-clause-legal
returns-clause-legal c = (invariant_of-self c).noted.legal
