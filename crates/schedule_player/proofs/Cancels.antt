-- What a cancel appends.
use Rattle.std.proofs.Common.{◌≡◌, ℕ, Bool, true, false, not, ◌||◌, ◌&&◌, if◌then◌else◌, List, [], ◌∷◌, ◌++◌, Some, is_some, refl, sym, ap, ◌∙◌}
use Rattle.std.proofs.lemmas.List.{append-nil}
use Rattle.ask_history.specs.Journal.{call_of, is_settled, is_cancelled}
use Rattle.ask_history.specs.Schedule.{cancel_ticket}
use Rattle.ask_history.specs.declared.events.Event.{Event}
use Rattle.ask_history.specs.declared.events.Event.TheVariants.{Cancel}
use Rattle.work_queue.specs.Queue.{cancelling}

by_tests : (journal : List Event) (event : Event) (called settled cancelled : Bool) → called ≡ true
    → journal ++ (if settled || cancelled then [] else event ∷ []) ≡ (if (called && not settled) && not cancelled then journal ++ event ∷ [] else journal)
by_tests journal event false settled cancelled h = absurd (cc)
by_tests journal event true true cancelled h = append-nil journal
by_tests journal event true false true h = append-nil journal
by_tests journal event true false false h = refl

-- the queue's cancel of an accepted ticket is that of a schedule
pub cancelling_is : (journal : List Event) (ticket : ℕ) → is_some (call_of journal ticket) ≡ true → journal ++ cancelling journal ticket ≡ cancel_ticket (Some ticket) journal
cancelling_is journal ticket h = by_tests journal (Cancel ticket) (is_some (call_of journal ticket)) (is_settled journal ticket) (is_cancelled journal ticket) h
