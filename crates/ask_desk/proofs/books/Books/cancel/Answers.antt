use Rattle.std.proofs.Common.{◌≡◌, ◌<◌, ℕ, [], ◌∷◌, ◌++◌, length, sym, ap, ◌∙◌, refl, subst, arith}
use Rattle.ask_history.specs.declared.events.Event.TheVariants.{Cancel}
use Rattle.ask_history.proofs.Pushes.{accepted-push}
use Rattle.work_queue.specs.Queue.{QueueState, cancelling}
use Rattle.counting_word.specs.declared.view.Found.TheVariants.{Nothing}
use Rattle.counting_word.specs.declared.view.View.{View}
use Rattle.counting_word.specs.History.{journal_of}
use Rattle.counting_word.specs.Views.{appended}
use Rattle.counting_word.specs.Calls.{entry_of}
use Rattle.ask_desk.specs.Locked.{IsDesk}
use Rattle.ask_desk.proofs.Desks.{desk-append, cancelling-some}
use Rattle.ask_desk.proofs.books.Books.cancel.Goals as goal

pub returns-then-count-journal-clause-desk : goal.returns-then-count-journal-clause-desk
returns-then-count-journal-clause-desk g c =
    let seat : View = c.args.seat.now in
    let queue : QueueState = c.args.self.now.queue in
    let t : ℕ = c.args.ticket in
    let journal : c.cancel-seen.new.self.journal ≡ queue.journal ++ cancelling queue.journal t = ap (λ (q : QueueState). q.journal) c.cancel-seen.ensures.queue in
    let grew : length queue.journal < length (queue.journal ++ cancelling queue.journal t) =
    omega (arith, ap length c.journal-count.ensures.journal, ap length c.journal.ensures.journal, ap length journal) in
    let only : c.cancel-seen.new.self.journal ≡ queue.journal ++ Cancel t ∷ [] = journal ∙ ap (λ es. queue.journal ++ es) (cancelling-some queue.journal t grew) in
    let here : c.last_event.result.now ≡ Cancel t = c.last_event.ensures queue.journal (Cancel t) (c.journal-then-count-journal.ensures.journal ∙ only) in
    let covered = c.requires.desk.covered in
    subst (λ (v : View). IsDesk c.cancel-seen.new.self c.args.self.now.cells v.seen v.name.given g.B.Room.limits)
    (sym (c.append.ensures ∙ ap (λ e. appended seat (entry_of seat.name e Nothing)) here))
    (desk-append queue c.args.self.now.cells seat.seen seat.name.given g.B.Room.limits c.requires.desk c.cancel-seen.new.self (entry_of seat.name (Cancel t) Nothing)
    only (ap (λ (q : QueueState). q.limits) c.cancel-seen.ensures.queue) (λ t. refl) refl
    (omega (arith, accepted-push (journal_of seat.seen) (Cancel t))))
