use Rattle.std.proofs.Common.{take}
use Rattle.ask_desk.proofs.Shutdown.{IsWriting}
use Rattle.ask_desk.proofs.books.write_settlings.Given as goal

abbrev pub invariant-loop-event : goal.invariant-loop-event
invariant-loop-event g l = IsWriting l.initial.seat l.seat (take l.event-index l.events) l.cells g.B.Room.limits
