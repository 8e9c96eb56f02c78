-- What a queue is seen as, and what its calls answer.
use Rattle.std.specs.Prelude.{ℕ, ◌+◌, ◌==◌, Bool, true, false, not, ◌&&◌, ◌||◌, if◌then◌else◌, List, [], ◌∷◌, ◌++◌, length, Option, Some, None, unwrap_or}
use Rattle.ask_history.specs.Journal.{accepted, is_closed, is_cancelled, is_settled}
use Rattle.ask_history.specs.declared.calls.Call.{Call}
use Rattle.ask_history.specs.declared.events.Mark.{Mark}
use Rattle.ask_history.specs.declared.events.Mark.TheVariants as mark
use Rattle.ask_history.specs.declared.events.Event.{Event}
use Rattle.ask_history.specs.declared.events.Event.TheVariants.{Cancel}
use Rattle.ask_history.specs.declared.answers.Answer.{Answer}
use Rattle.ask_history.specs.declared.answers.Answer.TheVariants as answer
use Rattle.ask_history.specs.declared.engine.Effect.{Effect}
use Rattle.ask_history.specs.declared.engine.Effect.TheVariants.{Applies, Dropped}
use Rattle.work_queue.specs.declared.limits.Limits.{Limits}
use Rattle.work_queue.specs.declared.limits.CancelSeen.{CancelSeen}
use Rattle.work_queue.specs.declared.limits.CancelSeen.TheVariants.{Marked, Late}
use Rattle.work_queue.specs.declared.limits.Settling.{Settling}
use Rattle.work_queue.specs.declared.limits.Settling.TheVariants.{Value, NoMemory}
use Rattle.work_queue.specs.Indexes.{cancel_index, settle_index}

-- What is seen of a queue: its journal, its limits, and how many tickets were given to be worked on.
pub record QueueState : Type 0 where
  pub journal : List Event
  pub limits : Limits
  pub given : ℕ

abbrev pub is_given_all : QueueState → Bool
is_given_all queue = is_closed queue.journal || (queue.given == accepted queue.journal)

-- the ticket that is given next
abbrev pub next_ticket : QueueState → Option ℕ
next_ticket queue = if is_given_all queue then None else Some queue.given

abbrev pub after_next : QueueState → QueueState
after_next queue = if is_given_all queue then queue else record queue { given = queue.given + 1 }

-- with these events at the end of the journal
abbrev pub with_events : QueueState → List Event → QueueState
with_events queue events = record queue { journal = queue.journal ++ events }

abbrev pub late_or_marked : Option ℕ → ℕ → CancelSeen
late_or_marked None marked = Marked marked
late_or_marked (Some index) marked = Late index

-- what a cancel comes to: late where the call is settled, and marked at the call's cancel, which stands or is appended
abbrev pub cancel_seen : List Event → ℕ → CancelSeen
cancel_seen journal ticket = late_or_marked (settle_index journal ticket) (unwrap_or (cancel_index journal ticket) (length journal))

-- what a cancel appends
abbrev pub cancelling : List Event → ℕ → List Event
cancelling journal ticket = if is_settled journal ticket || is_cancelled journal ticket then [] else Cancel ticket ∷ []

abbrev pub mark_of : Settling → Mark
mark_of (Value found) = mark.Done
mark_of NoMemory = mark.NoMemory

-- the value that was found; where none was, the mark gives the answer
abbrev pub value_of : Settling → Answer
value_of (Value found) = found
value_of NoMemory = answer.NoMemory

abbrev pub effect_of : Option Call → Effect
effect_of None = Dropped
effect_of (Some mutation) = Applies

-- what is answered, where a call is cancelled or not, and a mutation or not
abbrev pub answer_to : Bool → Bool → Settling → Answer
answer_to true mutates what = answer.Cancelled
answer_to false mutates NoMemory = answer.NoMemory
answer_to false true (Value found) = answer.Done
answer_to false false (Value found) = found

abbrev pub is_value : Settling → Bool
is_value (Value found) = true
is_value NoMemory = false

-- a mutation takes effect that is not cancelled and found its value
abbrev pub effect_to : Bool → Bool → Settling → Effect
effect_to cancelled mutates what = if not cancelled && is_value what && mutates then Applies else Dropped
