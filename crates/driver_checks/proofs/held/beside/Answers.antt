-- What the first closure captures may go to another thread: the handle, the allocator, the desk, the barrier and the caller's pass.
use mir.Syntax.{of_param}
use denote.Param.{param}
use denote.Param.Send.{IsSync, recorded_sync, sendable}
use Rattle.std.proofs.Crossing.{crosses}
use Rattle.std.specs.contracts.sync.Barrier as barrier
use Rattle.std.proofs.alloc.Global.TheSendSync as heap
use Rattle.ask_desk.proofs.Crossing.{desk_sync, leaving_if}
use Rattle.ask_desk.proofs.pass.Pass.TheSendSync as pass_crosses
use Rattle.driver_checks.proofs.held.beside.Goals as goal

meetings_sync : IsSync (barrier.the_field).row
meetings_sync = search (crosses, sendable) depth 12

barrier_sync : IsSync barrier.the_row
barrier_sync = search (recorded_sync, meetings_sync)

pub join-requires-send-F : goal.join-requires-send-F
join-requires-send-F g c κs within =
    let desk = desk_sync _ g.B.Room c.type_bounds.send-B c.type_bounds.sync-B in
    let handle = c.type_bounds.sync-R in record {
      owned = λ d vs vss. (
        tt,
        (
          (tt, handle.shared d.0.now d.0.ref_ptr.0 d.0.ref_ptr.1 _),
          (
            (tt, heap.the_sync.shared d.1.now d.1.ref_ptr.0 d.1.ref_ptr.1 κs.0),
            ((tt, desk.shared d.2.now d.2.ref_ptr.0 d.2.ref_ptr.1 _), ((tt, barrier_sync.shared d.3.now d.3.ref_ptr.0 d.3.ref_ptr.1 _), ((pass_crosses.the_send (param 0 g.row.B) g.B.Room).owned d.4 vss.1.1.1.1.0, tt))),
          ),
        ),
      );
      leaving = λ k. leaving_if (k (of_param 1)) _ (λ d w. (tt, (tt, (tt, (tt, (tt, tt))))));
    }
