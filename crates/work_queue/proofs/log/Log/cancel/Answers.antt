use Rattle.std.proofs.Common.{refl, arith}
use Rattle.work_queue.proofs.Tickets.{cancel_open}
use Rattle.work_queue.proofs.Logs.{ticket_within, some_left, room_left, has_room, log-cancel}
use Rattle.work_queue.proofs.log.Log.cancel.Goals as goal

pub index-was-requires : goal.index-was-requires
index-was-requires c = ticket_within c.self.inside c.self.invariant _ c.self.view_is c.args.ticket (cancel_open c.args.self.now c.args.ticket c.requires)

pub index_mut-requires : goal.index_mut-requires
index_mut-requires c = ticket_within c.self.inside c.self.invariant _ c.self.view_is c.args.ticket (cancel_open c.args.self.now c.args.ticket c.requires)

pub put-requires : goal.put-requires
put-requires c = has_room c.self.inside c.self.invariant _ c.self.view_is c.args.ticket c.index-was.result.now c.index-was.ensures (cancel_open c.args.self.now c.args.ticket c.requires)

pub overflow_sub-self : goal.overflow_sub-self
overflow_sub-self c =
    let unanswered = cancel_open c.args.self.now c.args.ticket c.requires in
    let some = some_left c.self.inside c.self.invariant _ c.self.view_is c.args.ticket c.index-was.result.now c.index-was.ensures unanswered in
    let left = room_left c.self.inside c.self.invariant _ c.self.view_is c.args.ticket c.index-was.result.now c.index-was.ensures unanswered in
    omega arith

pub invariant_of-self : goal.invariant_of-self
invariant_of-self c =
    log-cancel c.self.inside c.self.invariant _ c.self.view_is c.args.ticket c.index-was.result.now c.index-was.ensures _ _ c.len-index.ensures refl
    c.requires (record { items = c.put.ensures.items; len = c.put.ensures.len; capacity = c.put.ensures.capacity }) refl refl

pub returns-clause-legal : goal.returns-clause-legal
returns-clause-legal c = (invariant_of-self c).noted.legal
