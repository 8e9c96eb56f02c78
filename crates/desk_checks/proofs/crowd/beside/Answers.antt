-- What the first closure captures may go to another thread: the handle, the desk and the engine's pass.
use mir.Syntax.{of_param}
use denote.Param.{param}
use Rattle.ask_desk.proofs.Crossing.{desk_sync, leaving_if}
use Rattle.ask_desk.proofs.pass.EnginePass.TheSendSync as engine_crosses
use Rattle.desk_checks.proofs.crowd.beside.Goals as goal

pub join-requires-send-F : goal.join-requires-send-F
join-requires-send-F g c κs within =
    let desk = desk_sync _ g.B.Room c.type_bounds.send-B c.type_bounds.sync-B in
    let handle = c.type_bounds.sync-R in record {
      owned = λ d vs vss. (
        tt,
        (
          (tt, handle.shared d.0.now d.0.ref_ptr.0 d.0.ref_ptr.1 _),
          ((tt, desk.shared d.1.now d.1.ref_ptr.0 d.1.ref_ptr.1 _), ((engine_crosses.the_send (param 0 g.row.B) g.B.Room).owned d.2 vss.1.1.0, tt)),
        ),
      );
      leaving = λ k. leaving_if (k (of_param 1)) _ (λ d w. (tt, (tt, ((tt, tt), tt))));
    }
