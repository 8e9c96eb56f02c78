use Rattle.std.proofs.Common.{◌≡◌, ◌∙◌, ◌++◌, ◌∷◌, [], ◌||◌, ◌&&◌, ℕ, true, false, List, IsTrue, ap}
use Rattle.ask_history.specs.Sources.{Bytes}
use Rattle.ask_history.specs.Journal.{accepted}
use Rattle.ask_history.specs.Legal.{may_follow}
use Rattle.ask_history.specs.declared.calls.Call.{Call}
use Rattle.ask_history.specs.declared.calls.Call.TheVariants.{Reload}
use Rattle.ask_history.specs.declared.events.Mark.TheVariants as mark
use Rattle.ask_history.specs.declared.events.Event.{Event}
use Rattle.ask_history.specs.declared.events.Event.TheVariants.{Accept, Settle, Checked}
use Rattle.work_queue.specs.Queue.{QueueState}
use Rattle.work_queue.proofs.Usages.{bytes_eq_refl}
use Rattle.session_checks.proofs.queue.check.Goals as goal

-- a file that is reloaded and settled may be checked
may_check : (journal : List Event) (call : Call) (name text file : Bytes) (ticket : ℕ)
    → call ≡ Reload ((name, text) ∷ []) → ticket ≡ 0 → file ≡ name
    → journal ≡ Accept ticket 0 1 call ∷ Settle ticket mark.Done ∷ [] → IsTrue (may_follow journal (Checked file))
may_check journal call name text file ticket one first same is =
    ap (λ js. may_follow js (Checked file)) is
    ∙ (λ j. may_follow (Accept (first j) 0 1 (one j) ∷ Settle (first j) mark.Done ∷ []) (Checked (same j)))
    ∙ ap (λ b. ((b || false) && true) && true) (bytes_eq_refl name)

pub checked-requires : goal.checked-requires
checked-requires c =
    let journal = λ (q : QueueState). q.journal in
    let ticket = c.in_ok-ticket.ticket in
    may_check c.settle.new.self.journal c.in_ok-call.call c.args.name.now c.args.text.now c.in_ok-file.file ticket
    c.in_ok-call.ensures.is
    (c.in_ok-ticket.ensures.ticket ∙ ap accepted c.requires.fresh)
    c.in_ok-file.ensures
    (ap journal c.settle.ensures.queue
    ∙ ap (λ js. js ++ Settle ticket mark.Done ∷ [])
    (c.in_ok-ticket.ensures.ok ∙ ap (λ js. js ++ Accept ticket 0 1 c.in_ok-call.call ∷ []) c.requires.fresh))
