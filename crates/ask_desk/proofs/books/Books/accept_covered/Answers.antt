use Rattle.std.proofs.Common.{◌≡◌, ◌+◌, ◌≤◌, length, sym, ap, ◌∙◌, refl, subst, arith}
use Rattle.ask_history.specs.Journal.{accepted}
use Rattle.ask_history.specs.declared.events.Event.{Event}
use Rattle.ask_history.specs.declared.events.Event.TheVariants.{Accept}
use Rattle.ask_history.proofs.Pushes.{accepted-push}
use Rattle.work_queue.specs.Queue.{QueueState}
use Rattle.counting_word.specs.declared.view.Found.TheVariants.{Nothing}
use Rattle.counting_word.specs.declared.view.View.{View}
use Rattle.counting_word.specs.History.{journal_of}
use Rattle.counting_word.specs.Views.{appended}
use Rattle.counting_word.specs.Calls.{entry_of}
use Rattle.ask_desk.specs.Locked.{IsDesk}
use Rattle.ask_desk.proofs.Desks.{desk-append}
use Rattle.ask_desk.proofs.books.Books.accept_covered.Goals as goal

pub returns-in-Ok-clause-desk : goal.returns-in-Ok-clause-desk
returns-in-Ok-clause-desk g c =
    let seat : View = c.args.seat.now in
    let queue : QueueState = c.args.self.now.queue in
    let event : Event = Accept c.in-Ok.ticket c.args.number c.args.tag c.args.call in
    let ok = c.in-Ok.ensures.ok in
    let here : c.last_event.result.now ≡ event = c.last_event.ensures queue.journal event (c.journal.ensures.journal ∙ ap (λ (q : QueueState). q.journal) ok) in
    let covered : accepted (journal_of seat.seen) + 1 ≤ length c.args.self.now.cells = c.requires.covered in
    subst (λ (v : View). IsDesk c.post.new.self c.args.self.now.cells v.seen v.name.given g.B.Room.limits)
    (sym (c.append.ensures ∙ ap (λ e. appended seat (entry_of seat.name e Nothing)) here))
    (desk-append queue c.args.self.now.cells seat.seen seat.name.given g.B.Room.limits c.requires.desk c.post.new.self (entry_of seat.name event Nothing)
    (ap (λ (q : QueueState). q.journal) ok) (ap (λ (q : QueueState). q.limits) ok) (λ t. refl) refl
    (omega (arith, accepted-push (journal_of seat.seen) event)))

pub returns-in-Err-clause-desk : goal.returns-in-Err-clause-desk
returns-in-Err-clause-desk g c =
    subst (λ (q : QueueState). IsDesk q c.args.self.now.cells c.args.seat.now.seen c.args.seat.now.name.given g.B.Room.limits) (sym c.in-Err.ensures.err) c.requires.desk
