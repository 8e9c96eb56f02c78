use Rattle.std.proofs.Common.{◌≡◌, ℕ, ◌+◌, ◌-◌, ◌≤◌, length, sym, ap, ◌∙◌, subst, arith, length-append}
use Rattle.std.specs.Prelude.{List, replicate}
use Rattle.std.proofs.lemmas.List.{length-replicate}
use Rattle.ask_history.specs.Journal.{accepted}
use Rattle.response_cell.specs.declared.cells.Cell.{Cell}
use Rattle.response_cell.specs.declared.cells.Cell.TheVariants.{Empty}
use Rattle.response_cell.specs.Cells.{covered}
use Rattle.counting_word.specs.declared.view.View.{View}
use Rattle.counting_word.specs.History.{journal_of}
use Rattle.ask_desk.specs.Locked.{IsDesk}
use Rattle.ask_desk.proofs.Desks.{desk-cover}
use Rattle.ask_desk.proofs.books.Books.accept.Goals as goal

pub accept_covered-requires-clause-desk : goal.accept_covered-requires-clause-desk
accept_covered-requires-clause-desk g c =
    let seat : View = c.args.seat.now in
    subst (λ (cells : List Cell). IsDesk c.args.self.now.queue cells seat.seen seat.name.given g.B.Room.limits) (sym c.in-Ok.ensures.ok)
    (desk-cover c.args.self.now.queue c.args.self.now.cells seat.seen seat.name.given g.B.Room.limits c.requires.desk c.accepted-ticket.result)

pub accept_covered-requires-clause-covered : goal.accept_covered-requires-clause-covered
accept_covered-requires-clause-covered g c =
    let cells : List Cell = c.args.self.now.cells in
    let ticket : ℕ = c.accepted-ticket.result in
    let next : ticket ≡ accepted (journal_of c.args.seat.now.seen) = c.accepted-ticket.ensures ∙ ap accepted (sym c.requires.desk.journal) in
    let more : length (covered cells ticket) ≡ length cells + (ticket + 1 - length cells) =
    length-append cells (replicate (ticket + 1 - length cells) Empty) ∙ ap (λ n. length cells + n) (length-replicate (ticket + 1 - length cells) Empty) in
    subst (λ (cells : List Cell). accepted (journal_of c.args.seat.now.seen) + 1 ≤ length cells) (sym c.in-Ok.ensures.ok) (omega arith)
