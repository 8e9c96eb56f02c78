-- What the clients' part of a session leaves goes from its thread to that which waits for both.
use denote.RattleType.{RattleType}
use denote.Param.Object.{Ghosts as Objects, table_of}
use denote.Param.Send.{IsSend, struct_send, enum_send, recorded_send}
use denote.Param.Sent.{Sends}
use denote.Struct.Declared as structs
use Rattle.std.proofs.Crossing.{Vec-send, dyn_box_send}
use Rattle.std.specs.contracts.alloc.Global as heap
use Rattle.std.specs.contracts.dyn_box.DynBox as dyn_box
use Rattle.std.specs.contracts.impls.GlobalAllocator.TheImpl.{ghosts}
use Rattle.std.specs.contracts.option.Option as option
use Rattle.report_hub.specs.contracts.hub.Hub as hub
use Rattle.counting_word.specs.declared.seat.Room.{Ghosts}
use Rattle.ask_desk.proofs.pass.Pass.TheSendSync as pass_crosses
use Rattle.session_threads.specs.contracts.clients.Played as played
use Rattle.session_threads.specs.contracts.clients.Client as client
use Rattle.session_threads.specs.contracts.closing.Ended as ended
use Rattle.session_threads.proofs.Crossing.{played_send, script_send}

module _ (B : RattleType) (room : Ghosts B.Denot) where
  ended_field_send : IsSend (ended.the_field B room).row
  ended_field_send =
      struct_send (structs.shape (ended.the_type B room))
      (pass_crosses.the_send B room, (search (enum_send, Vec-send (played.the_row B room) (played_send B room)) depth 8, tt))

  pub ended_send : IsSend (ended.the_row B room)
  ended_send = search (recorded_send, ended_field_send)

client_field_send : (B : RattleType) (room : Ghosts B.Denot) → IsSend (client.the_field B room).row
client_field_send B room = struct_send (structs.shape (client.the_type B room)) (pass_crosses.the_send B room, (script_send, tt))

pub client_send : (B : RattleType) (room : Ghosts B.Denot) → IsSend (client.the_row B room)
client_send B room = search (recorded_send, client_field_send B room)

-- ---- a hub

module _ (D : RattleType) (objects : Objects D.Denot) (sends : Sends (table_of D.Denot objects)) (vtables : IsSend D) where
  box_send : IsSend (dyn_box.the_row D heap.the_row objects ghosts)
  box_send = dyn_box_send D objects sends vtables

  slot_send : IsSend (option.the_row (dyn_box.the_row D heap.the_row objects ghosts))
  slot_send = search (recorded_send, enum_send, box_send) depth 8

  hub_field_send : IsSend (hub.the_field D objects).row
  hub_field_send = struct_send (structs.shape (hub.the_type D objects)) (Vec-send (option.the_row (dyn_box.the_row D heap.the_row objects ghosts)) slot_send, tt)

  pub hub_send : IsSend (hub.the_row D objects)
  hub_send = search (recorded_send, hub_field_send)
