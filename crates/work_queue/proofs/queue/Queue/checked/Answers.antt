use Rattle.std.proofs.Common.{◌≡◌, ◌++◌, ◌∷◌, [], List, ℕ, Result, Ok, Err, OnOk, OnErr, IsTrue, refl}
use Rattle.ask_history.specs.Legal.{is_legal}
use Rattle.ask_history.specs.declared.events.Event.{Event}
use Rattle.ask_history.specs.declared.events.Event.TheVariants.{Checked}
use Rattle.work_queue.specs.QueueFacts.{IsQueue}
use Rattle.work_queue.specs.declared.queue.Queue.TheInside.{Inside}
use Rattle.work_queue.proofs.Queues.{queue-push, queue-room}
use Rattle.work_queue.proofs.queue.Queue.checked.Goals as goal

noted_or_not : {X Y : Type 0} (old : Inside) (file : List ℕ) (journal : List Event) (r : Result X Y) → IsQueue old → IsTrue (is_legal journal)
    → OnOk r (journal ≡ old.log ++ Checked file ∷ []) → OnErr r (journal ≡ old.log)
    → IsQueue (record { log = journal; tally = old.tally; limits = old.limits; given = old.given })
noted_or_not old file journal (Ok x) kept legal is same = queue-push old kept (Checked file) journal is refl refl refl legal
noted_or_not old file journal (Err y) kept legal is same = queue-room old kept old.tally journal same (λ before tallied. tallied)

pub invariant_of-self : goal.invariant_of-self
invariant_of-self c =
    noted_or_not c.self.inside c.in_ok-file.file c.check.new.self c.check.result c.self.invariant c.check.ensures.legal c.check.ensures.ok c.check.ensures.err
