-- What the closures capture may go to other threads, and what they give may come back.
use mir.Syntax.{named, of_param}
use denote.Exit.{yes}
use denote.Param.{param}
use denote.Param.Object.{Vt, ghosts_of}
use denote.Param.Send.{IsSend, mut_send}
use Rattle.std.proofs.Common.{◌≡◌, Global, Vec, rules, length, ◌∙◌, sym, ap, subst}
use Rattle.std.proofs.Crossing.{Vec-send}
use Rattle.std.proofs.lemmas.List.{length-map}
use Rattle.std.proofs.alloc.Global.TheSendSync as heap
use Rattle.ask_desk.proofs.Crossing.{desk_sync, leaving_if}
use Rattle.ask_desk.proofs.pass.EnginePass.TheSendSync as engine_crosses
use Rattle.ask_desk.proofs.pass.Pass.TheSendSync as pass_crosses
use Rattle.std.specs.Prelude.{IfSome}
use Rattle.session_threads.specs.Clients.{scripts_played}
use Rattle.session_threads.specs.Ended.{HaveEnded}
use Rattle.session_threads.specs.Served.{HasServed}
use Rattle.session_threads.specs.contracts.clients.Client as client
use Rattle.session_threads.specs.declared.clients.Played.{Played}
use Rattle.session_threads.specs.contracts.session.play_parts.dyn-1 as table
use Rattle.session_threads.proofs.Sending.{client_send, ended_send, hub_send}
use Rattle.session_threads.proofs.session.play_parts.Goals as goal

pub beside-begun-requires-send-B : goal.beside-begun-requires-send-B
beside-begun-requires-send-B g c κs within =
    let sent = ended_send (param 0 g.row.B) g.B.Room in record { owned = λ d vs vss. sent.owned d vs vss; leaving = λ k. leaving_if (k (of_param 3)) _ (λ d w. sent.leaving yes d w) }

pub beside-begun-requires-send-F : goal.beside-begun-requires-send-F
beside-begun-requires-send-F g c κs within =
    let sends : (i : g.dyn-1.0.I) → IsSend (g.dyn-1.0.entry i).0 = search rules in
    let vtables : IsSend (Vt (table.slots g.row.B g.row.R g.row.S g.row.G g.row.N) g.dyn-1.0) = search rules in
    let desk = desk_sync _ g.B.Room c.type_bounds.send-B c.type_bounds.sync-B in
    let handle = c.type_bounds.sync-R in
    record {
      owned = λ d vs vss. (
        tt,
        (
          (tt, handle.shared d.0.now d.0.ref_ptr.0 d.0.ref_ptr.1 _),
          (
            (tt, heap.the_sync.shared d.1.now d.1.ref_ptr.0 d.1.ref_ptr.1 κs.0),
            (
              (tt, desk.shared d.2.now d.2.ref_ptr.0 d.2.ref_ptr.1 _),
              (
                (engine_crosses.the_send (param 0 g.row.B) g.B.Room).owned d.3 vss.1.1.1.0,
                (
                  (hub_send (Vt (table.slots g.row.B g.row.R g.row.S g.row.G g.row.N) g.dyn-1.0) (ghosts_of (table.slots g.row.B g.row.R g.row.S g.row.G g.row.N) g.dyn-1.0 g.dyn-1.1) sends vtables).owned d.4 vss.1.1.1.1.0,
                  (
                    (mut_send (named 0) κs.0 _ c.type_bounds.send-N).owned d.5 vss.1.1.1.1.1.0,
                    ((mut_send (named 0) κs.0 _ c.type_bounds.send-G).owned d.6 vss.1.1.1.1.1.1.0, tt),
                  ),
                ),
              ),
            ),
          ),
        ),
      );
      leaving = λ k. leaving_if (k (of_param 4)) _ (λ d w. (tt, (tt, (tt, ((tt, tt), ((tt, tt), (tt, (tt, tt))))))));
    }

pub beside-begun-requires-send-G : goal.beside-begun-requires-send-G
beside-begun-requires-send-G g c κs within =
    let desk = desk_sync _ g.B.Room c.type_bounds.send-B c.type_bounds.sync-B in
    let handle = c.type_bounds.sync-R in record {
      owned = λ d vs vss. (
        tt,
        (
          (tt, handle.shared d.0.now d.0.ref_ptr.0 d.0.ref_ptr.1 _),
          (
            (tt, heap.the_sync.shared d.1.now d.1.ref_ptr.0 d.1.ref_ptr.1 κs.0),
            ((tt, desk.shared d.2.now d.2.ref_ptr.0 d.2.ref_ptr.1 _), ((pass_crosses.the_send (param 0 g.row.B) g.B.Room).owned d.3 vss.1.1.1.0, ((Vec-send (client.the_row (param 0 g.row.B) g.B.Room) (client_send (param 0 g.row.B) g.B.Room)).owned d.4 vss.1.1.1.1.0, tt))),
          ),
        ),
      );
      leaving = λ k. leaving_if (k (of_param 5)) _ (λ d w. (tt, (tt, (tt, (tt, (tt, tt))))));
    }

pub returns-in-Ok-clause-parts : goal.returns-in-Ok-clause-parts
returns-in-Ok-clause-parts g c = λ scripts passes.
    let clients = c.args.passes.clients.items in
    record {
      served = subst (λ n. HasServed g.N.Engine.answer_of g.N.Engine.problems_of n c.in-Ok.both.0.pass.pass c.in-Ok.both.0.found) passes.engine.count_is c.in-Ok.ensures.first.0;
      clients = record {
        ended_is = subst (λ n. HaveEnded n c.in-Ok.both.1) (sym (length-map clients (λ client. client.script)) ∙ ap length passes.scripted) c.in-Ok.ensures.second.0;
        scripted = subst (λ ss. IfSome c.in-Ok.both.1.clients (λ (all : Vec (Played g.row.B.Denot) Global). scripts_played all.items ≡ ss)) passes.scripted c.in-Ok.ensures.second.1;
        spare_is = passes.spare;
      };
    }
