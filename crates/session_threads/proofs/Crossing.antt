-- What a client leaves goes from its thread to that which waits for all.
use denote.RattleType.{RattleType}
use denote.Param.Send.{IsSend, struct_send, enum_send, recorded_send}
use denote.Struct.Declared as structs
use Rattle.pc_terms.proofs.row.Row.TheSendSync as row_crosses
use Rattle.ask_history.specs.contracts.answers.Answer as answer
use Rattle.ask_history.specs.contracts.script.Line as line
use Rattle.ask_history.specs.contracts.script.Script as script
use Rattle.ask_history.proofs.script.Line.TheSendSync as line_crosses
use Rattle.counting_word.specs.declared.seat.Room.{Ghosts}
use Rattle.ask_desk.proofs.pass.Pass.TheSendSync as pass_crosses
use Rattle.ask_desk.proofs.Crossing.{answer_send}
use Rattle.session_threads.specs.contracts.clients.Played as played

answer_row_send : IsSend answer.the_row
answer_row_send = search (recorded_send, answer_send)

pub script_send : IsSend (script.the_field).row
script_send = struct_send (structs.shape script.the_type) (row_crosses.the_send line.the_row line_crosses.the_send, tt)

module _ (B : RattleType) (room : Ghosts B.Denot) where
  played_field_send : IsSend (played.the_field B room).row
  played_field_send =
      struct_send (structs.shape (played.the_type B room))
      (pass_crosses.the_send B room, (script_send, (search (enum_send, row_crosses.the_send answer.the_row answer_row_send) depth 8, tt)))

  pub played_send : IsSend (played.the_row B room)
  played_send = search (recorded_send, played_field_send)
