-- What the calls of a desk do to the pass that makes them.
use Rattle.std.specs.Prelude.{◌≡◌, ◌⊎◌, ℕ, ◌<◌, ◌≤◌, true, false, List, [], ◌∷◌, ◌++◌, length, Some, None, unwrap_or}
use mathlib.Core.List.{IsPrefix}
use Rattle.ask_history.specs.Journal.{accepted, is_settled}
use Rattle.ask_history.specs.declared.calls.Call.{Call}
use Rattle.ask_history.specs.declared.answers.Answer.{Answer}
use Rattle.ask_history.specs.declared.events.Event.{Event}
use Rattle.ask_history.specs.declared.events.Event.TheVariants.{Accept}
use Rattle.work_queue.specs.declared.limits.Limits.{Limits}
use Rattle.work_queue.specs.declared.limits.PostRefused.{PostRefused}
use Rattle.work_queue.specs.declared.limits.PostRefused.TheVariants.{NoMemory}
use Rattle.work_queue.specs.declared.limits.CancelSeen.{CancelSeen}
use Rattle.work_queue.specs.Refusal.{refusal}
use Rattle.work_queue.specs.Queue.{cancel_seen, cancelling}
use Rattle.counting_word.specs.declared.view.Entry.{Entry}
use Rattle.counting_word.specs.declared.view.View.{View}
use Rattle.counting_word.specs.History.{journal_of, taker_of, has}
use Rattle.work_queue.specs.Indexes.{close_index}
use Rattle.ask_desk.specs.Answers.{answer_of, entries_for, closing}

-- A call under the lock: the pass has seen more of the history, as much as the word said when it looked, and no less than
-- it knew of the word before. It keeps its number.
pub record Moves (old new : View) : Type 0 where
  pub begins : IsPrefix old.seen new.seen
  pub known : old.known ≤ length new.seen
  pub counted : new.known ≡ length new.seen
  pub loads : old.loads < new.loads
  pub number : new.name.number ≡ old.name.number
  pub made : new.name.made ≡ old.name.made

-- What a pass has seen after a call under the lock that appended these events of its own, after `before`.
pub record Writes (old : View) (before : List Entry) (events : List Event) (new : View) : Type 0 where
  pub moves : Moves old new
  pub seen : new.seen ≡ before ++ entries_for old.name events
  pub own : new.name.own ≡ old.name.own ++ entries_for old.name events
  pub got : new.name.got ≡ old.name.got
  pub begins : IsPrefix old.seen before
  pub known : old.known ≤ length before

-- A call is accepted under the next ticket. The ticket is the pass's, and its answer was not handed out.
pub record Accepts (limits : Limits) (old new : View) (ticket tag : ℕ) (call : Call) : Type 0 where
  pub before : List Entry
  pub next : ticket ≡ accepted (journal_of before)
  pub free : refusal limits (journal_of before) call ≡ None
  pub writes : Writes old before (Accept ticket (unwrap_or old.name.number 0) tag call ∷ []) new
  pub mine : taker_of new.seen ticket ≡ new.name.number
  pub fresh : has new.name.got ticket ≡ false

-- A call is refused for what the pass has then seen, or out of memory.
pub record Refuses (limits : Limits) (old new : View) (why : PostRefused) (call : Call) : Type 0 where
  pub writes : Writes old new.seen [] new
  pub cause : (why ≡ NoMemory) ⊎ (refusal limits (journal_of new.seen) call ≡ Some why)

-- A cancel is seen, with what it appended.
pub record Cancels (old new : View) (ticket : ℕ) (result : CancelSeen) : Type 0 where
  pub before : List Entry
  pub writes : Writes old before (cancelling (journal_of before) ticket) new
  pub seen : result ≡ cancel_seen (journal_of before) ticket

-- The session is shut down at this journal index. Every accepted ticket is settled in what the pass has then seen.
pub record Closes (old new : View) (at : ℕ) : Type 0 where
  pub before : List Entry
  pub writes : Writes old before (closing (journal_of before)) new
  pub index : close_index (journal_of new.seen) ≡ Some at
  pub settled : (ticket : ℕ) → ticket < accepted (journal_of new.seen) → is_settled (journal_of new.seen) ticket ≡ true

-- The answer of the ticket's settling is handed out, for the first time.
pub record Receives (old new : View) (ticket : ℕ) (answer : Answer) : Type 0 where
  pub moves : Moves old new
  pub own : new.name.own ≡ old.name.own
  pub got : new.name.got ≡ ticket ∷ old.name.got
  pub answer_seen : answer_of new.seen ticket ≡ Some answer

-- No settling of the ticket stands in what the pass has then seen. The ticket is still the pass's.
pub record FindsNone (old new : View) (ticket : ℕ) : Type 0 where
  pub writes : Writes old new.seen [] new
  pub unsettled : is_settled (journal_of new.seen) ticket ≡ false
  pub mine : taker_of new.seen ticket ≡ new.name.number
