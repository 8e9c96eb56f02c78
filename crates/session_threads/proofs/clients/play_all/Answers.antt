-- What the closure captures may be shared: the handle, the allocator and the desk.
use mir.Syntax.{of_param}
use denote.Exit.{yes}
use denote.Param.{param}
use Rattle.std.proofs.Common.{sym, ◌∙◌, arith}
use Rattle.std.proofs.lemmas.Option.{slice_get_within, get_or_from_slice_get}
use Rattle.std.proofs.alloc.Global.TheSendSync as heap
use Rattle.ask_desk.proofs.Crossing.{desk_sync, leaving_if}
use Rattle.session_threads.proofs.Crossing.{played_send}
use Rattle.session_threads.proofs.Joining.{ready_at, HaveGiven, gives_at, given_scripts, given_played}
use Rattle.session_threads.proofs.clients.play_all.Goals as goal

pub map_vec-played-requires-send-X : goal.map_vec-played-requires-send-X
map_vec-played-requires-send-X g c κs within =
    let sent = played_send (param 0 g.row.B) g.B.Room in record { owned = λ d vs vss. sent.owned d vs vss; leaving = λ k. leaving_if (k (of_param 2)) _ (λ d w. sent.leaving yes d w) }

pub map_vec-played-requires-sync-F : goal.map_vec-played-requires-sync-F
map_vec-played-requires-sync-F g c κs within =
    let desk = desk_sync _ g.B.Room c.type_bounds.send-B c.type_bounds.sync-B in
    let handle = c.type_bounds.sync-R in record {
      shared = λ d b o κ. (
        (
          ((λ q. tt), handle.shared d.0.now d.0.ref_ptr.0 d.0.ref_ptr.1 _),
          (((λ q. tt), heap.the_sync.shared d.1.now d.1.ref_ptr.0 d.1.ref_ptr.1 κ), (((λ q. tt), desk.shared d.2.now d.2.ref_ptr.0 d.2.ref_ptr.1 _), tt)),
        ),
        λ q. tt,
      );
    }

pub map_vec-played-requires-after_bounds : goal.map_vec-played-requires-after_bounds
map_vec-played-requires-after_bounds g c κs within = ready_at c.args.clients.items c.requires.ready

-- each gave what `play_client` promises
gave : (g : _) (c : goal.In-Ok g) → HaveGiven c.args.clients.items c.in-Ok.played.items
gave g c = record {
  long = omega (arith, c.in-Ok.ensures.len, c.in-Ok.played.ok.0, c.args.clients.ok.0);
  each = λ i client played at_client at_played.
      let given = (c.in-Ok.ensures.each i played (slice_get_within c.args.clients.items i client at_client)).1 in
      gives_at given.job client _ played
      (sym (given.job_is client) ∙ get_or_from_slice_get c.args.clients.items i client client at_client)
      (get_or_from_slice_get c.in-Ok.played.items i played played at_played)
      (record { script = given.call.met.0; has = given.call.met.1 });
}

pub returns-in-Ok-clause-scripts : goal.returns-in-Ok-clause-scripts
returns-in-Ok-clause-scripts g c = given_scripts _ _ (gave g c)

pub returns-in-Ok-clause-played : goal.returns-in-Ok-clause-played
returns-in-Ok-clause-played g c = given_played _ _ c.requires.ready (gave g c)
