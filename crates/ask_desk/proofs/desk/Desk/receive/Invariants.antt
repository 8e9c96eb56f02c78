use Rattle.std.proofs.Common.{◌≡◌}
use Rattle.ask_desk.proofs.Waiting.{IsWaiting}
use Rattle.ask_desk.proofs.desk.Desk.receive.Given as goal

abbrev pub invariant-loop : goal.invariant-loop
invariant-loop g l = (l.ticket.ticket ≡ l.initial.ticket.ticket) × IsWaiting l.initial.pass l.pass l.initial.ticket.ticket
