use Rattle.std.proofs.Common.{◌≡◌, ◌∙◌, sym, ap, refl, subst, arith}
use Rattle.ask_history.specs.declared.events.Event.{Event}
use Rattle.ask_history.specs.declared.events.Event.TheVariants.{Checked}
use Rattle.std.proofs.lemmas.Bool.{eq-eqb}
use Rattle.std.specs.Prelude.{unwrap_or}
use Rattle.ask_history.proofs.Pushes.{accepted-push}
use Rattle.work_queue.specs.Queue.{QueueState}
use Rattle.counting_word.specs.declared.view.Entry.{Entry}
use Rattle.counting_word.specs.declared.view.View.{View}
use Rattle.counting_word.specs.declared.view.Found.TheVariants.{Problems}
use Rattle.counting_word.specs.Calls.{entry_of}
use Rattle.counting_word.specs.History.{journal_of, engine_number}
use Rattle.counting_word.specs.Views.{appended}
use Rattle.ask_desk.specs.Locked.{IsDesk}
use Rattle.ask_desk.proofs.Desks.{desk-append}
use Rattle.ask_desk.proofs.books.Books.check.Goals as goal

pub returns-in-Ok-clause-desk : goal.returns-in-Ok-clause-desk
returns-in-Ok-clause-desk g c =
    let seat : View = c.args.seat.now in
    let queue : QueueState = c.args.self.now.queue in
    let event : Event = Checked c.args.file.now in
    let ok = c.in-Ok.ensures.ok in
    let entry : Entry = entry_of seat.name event (Problems c.args.problems.now) in
    let here : c.last_event.result.now ≡ event = c.last_event.ensures queue.journal event (c.journal.ensures.journal ∙ ap (λ (q : QueueState). q.journal) ok) in
    let author : entry.author ≡ engine_number = ap (λ o. unwrap_or o 0) c.requires.engine in
    let covered = c.requires.desk.covered in
    subst (λ (v : View). IsDesk c.checked.new.self c.args.self.now.cells v.seen v.name.given g.B.Room.limits)
    (sym (c.append_check.ensures ∙ ap (λ e. appended seat (entry_of seat.name e (Problems c.args.problems.now))) here))
    (desk-append queue c.args.self.now.cells seat.seen seat.name.given g.B.Room.limits c.requires.desk c.checked.new.self entry
    (ap (λ (q : QueueState). q.journal) ok) (ap (λ (q : QueueState). q.limits) ok) (λ t. refl) (eq-eqb entry.author engine_number author)
    (omega (arith, accepted-push (journal_of seat.seen) event)))
