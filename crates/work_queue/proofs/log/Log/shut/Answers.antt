use Rattle.std.proofs.Common.{refl, arith}
use Rattle.work_queue.proofs.Logs.{shut_room, log-shut'}
use Rattle.work_queue.proofs.log.Log.shut.Goals as goal

pub put-requires : goal.put-requires
put-requires c = let one = shut_room c.self.inside c.self.invariant _ c.self.view_is c.requires in let room = c.self.invariant.room in omega arith

pub overflow_sub-self : goal.overflow_sub-self
overflow_sub-self c = shut_room c.self.inside c.self.invariant _ c.self.view_is c.requires

pub invariant_of-self : goal.invariant_of-self
invariant_of-self c =
    log-shut' c.self.inside c.self.invariant _ c.self.view_is c.requires _ _ c.len-index.ensures refl refl refl
    (record { items = c.put.ensures.items; len = c.put.ensures.len; capacity = c.put.ensures.capacity })

pub returns-clause-legal : goal.returns-clause-legal
returns-clause-legal c = (invariant_of-self c).noted.legal
