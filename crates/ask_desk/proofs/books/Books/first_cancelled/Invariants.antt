use Rattle.std.proofs.Common.{◌≡◌, drop}
use Rattle.std.specs.List.{find}
use Rattle.ask_history.specs.Journal.{is_cancelled}
use Rattle.ask_desk.proofs.books.Books.first_cancelled.Given as goal

-- none of the tickets so far is cancelled
abbrev pub invariant-loop-ticket : goal.invariant-loop-ticket
invariant-loop-ticket l = find (is_cancelled l.self.queue.journal) l.tickets ≡ find (is_cancelled l.self.queue.journal) (drop l.ticket-index l.tickets)
