-- What the closure captures may be shared: the handle, the allocator, the desk and the number of posts.
use denote.Builtin.{u64}
use denote.Param.Send.{IsSync, sendable}
use Rattle.std.proofs.alloc.Global.TheSendSync as heap
use Rattle.ask_desk.proofs.Crossing.{desk_sync}
use Rattle.desk_bench.proofs.through_desk.session_over.Goals as goal

number : IsSync u64
number = search sendable

pub map_vec-requires-sync-F : goal.map_vec-requires-sync-F
map_vec-requires-sync-F g c κs within =
    let desk = desk_sync _ g.B.Room c.type_bounds.send-B c.type_bounds.sync-B in
    let handle = c.type_bounds.sync-R in record {
      shared = λ d b o κ. (
        (
          ((λ q. tt), handle.shared d.0.now d.0.ref_ptr.0 d.0.ref_ptr.1 _),
          (((λ q. tt), heap.the_sync.shared d.1.now d.1.ref_ptr.0 d.1.ref_ptr.1 κ), (((λ q. tt), desk.shared d.2.now d.2.ref_ptr.0 d.2.ref_ptr.1 _), (((λ q. tt), number.shared d.3.now d.3.ref_ptr.0 d.3.ref_ptr.1 κ), tt))),
        ),
        λ q. tt,
      );
    }
