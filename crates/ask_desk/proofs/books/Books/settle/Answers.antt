use Rattle.std.proofs.Common.{◌≡◌, ◌∙◌, ◌||◌, Bool, true, false, IsTrue, sym, ap, refl, subst}
use Rattle.std.specs.Prelude.{List, slice_set, unwrap_or}
use Rattle.std.proofs.lemmas.Bool.{eq-eqb}
use Rattle.ask_history.specs.Journal.{is_closed}
use Rattle.ask_history.specs.declared.answers.Answer.{Answer}
use Rattle.ask_history.specs.declared.events.Event.{Event}
use Rattle.ask_history.specs.declared.events.Event.TheVariants.{Settle}
use Rattle.ask_history.specs.declared.events.Mark.{Mark}
use Rattle.response_cell.specs.declared.cells.Cell.{Cell}
use Rattle.response_cell.specs.declared.cells.Cell.TheVariants.{Set}
use Rattle.work_queue.specs.Queue.{QueueState, mark_of}
use Rattle.counting_word.specs.declared.view.Entry.{Entry}
use Rattle.counting_word.specs.declared.view.View.{View}
use Rattle.counting_word.specs.declared.view.Found.TheVariants.{Answered}
use Rattle.counting_word.specs.Calls.{entry_of}
use Rattle.counting_word.specs.History.{journal_of, engine_number}
use Rattle.counting_word.specs.Views.{appended}
use Rattle.ask_desk.specs.Locked.{IsDesk}
use Rattle.ask_desk.proofs.Desks.{desk-settle, blank_there}
use Rattle.ask_desk.proofs.Working.{settled_within, settled_first, settled_ungiven}
use Rattle.ask_desk.proofs.books.Books.settle.Goals as goal

pub set-requires : goal.set-requires
set-requires g c =
    let seat : View = c.args.seat.now in
    blank_there c.args.self.now.queue c.args.self.now.cells seat.seen seat.name.given g.B.Room.limits c.requires.desk c.args.ticket
    (settled_within seat.seen seat.name.given c.args.ticket (mark_of c.args.what) c.requires.legal c.requires.unanswered c.requires.next)
    (settled_first seat.seen seat.name.given c.args.ticket (mark_of c.args.what) c.requires.legal c.requires.unanswered c.requires.next)

pub returns-clause-desk : goal.returns-clause-desk
returns-clause-desk g c =
    let seat : View = c.args.seat.now in
    let queue : QueueState = c.args.self.now.queue in
    let ticket = c.args.ticket in
    let mark : Mark = mark_of c.args.what in
    let event : Event = Settle ticket mark in
    let found : Answer = c.settle-effect.result.1 in
    let entry : Entry = entry_of seat.name event (Answered found) in
    let ok = c.settle-effect.ensures.queue in
    let here : c.last_event.result.now ≡ event = c.last_event.ensures queue.journal event (c.journal.ensures.journal ∙ ap (λ (q : QueueState). q.journal) ok) in
    let author : entry.author ≡ engine_number = ap (λ o. unwrap_or o 0) c.requires.engine in
    subst (λ (cs : List Cell). IsDesk c.settle-effect.new.self cs c.append_answer.new.seat.seen c.append_answer.new.seat.name.given g.B.Room.limits) (sym c.set.ensures)
    (subst (λ (v : View). IsDesk c.settle-effect.new.self (slice_set c.args.self.now.cells ticket (Set found)) v.seen v.name.given g.B.Room.limits)
    (sym (c.append_answer.ensures ∙ ap (λ e. appended seat (entry_of seat.name e (Answered found))) here))
    (desk-settle queue c.args.self.now.cells seat.seen seat.name.given g.B.Room.limits c.requires.desk c.settle-effect.new.self ticket mark entry.author found
    (ap (λ (q : QueueState). q.journal) ok) (ap (λ (q : QueueState). q.limits) ok)
    (settled_ungiven seat.seen seat.name.given ticket mark c.requires.legal c.requires.unanswered c.requires.next c.requires.given)
    (settled_first seat.seen seat.name.given ticket mark c.requires.legal c.requires.unanswered c.requires.next)
    (settled_within seat.seen seat.name.given ticket mark c.requires.legal c.requires.unanswered c.requires.next)
    (either (is_closed (journal_of seat.seen)) (eq-eqb entry.author engine_number author))))
  where
    either : (b : Bool) {d : Bool} → d ≡ true → IsTrue (b || d)
    either true e = refl
    either false e = e
