-- What the engine's pass does at a desk: it settles calls, and notes checks.
use Rattle.std.specs.Prelude.{◌≡◌, ℕ, ◌≤◌, true, false, IsTrue, if◌then◌else◌, List, [], ◌∷◌, ◌++◌, length, Option, Some, None, Result, Ok, Err}
use Rattle.ask_history.specs.Sources.{Bytes}
use Rattle.ask_history.specs.Journal.{accepted, is_closed, is_settled, reply, taking_effect}
use Rattle.ask_history.specs.Legal.{is_legal}
use Rattle.ask_history.specs.declared.calls.Call.{Call}
use Rattle.ask_history.specs.declared.engine.Effect.{Effect}
use Rattle.ask_history.specs.declared.events.Event.{Event}
use Rattle.ask_history.specs.declared.events.Event.TheVariants.{Settle, Checked}
use Rattle.journal_laws.specs.Others.{are_others}
use Rattle.journal_laws.specs.Waiting.{Waits, CanFeed}
use Rattle.pc_terms.specs.declared.errors.NoMemory.{NoMemory as WithoutMemory}
use Rattle.pc_terms.specs.declared.problems.Problem.{Problem}
use Rattle.work_queue.specs.Queue.{mark_of, value_of, effect_of}
use Rattle.work_queue.specs.declared.limits.Settling.{Settling}
use Rattle.counting_word.specs.declared.view.Entry.{Entry}
use Rattle.counting_word.specs.declared.view.Found.TheVariants.{Answered, Problems}
use Rattle.counting_word.specs.declared.view.Name.{Name}
use Rattle.counting_word.specs.declared.view.View.{View}
use Rattle.counting_word.specs.Calls.{entry_of}
use Rattle.counting_word.specs.History.{journal_of, entries_by, engine_number}
use Rattle.ask_desk.specs.Passes.{Moves}
use Rattle.ask_desk.specs.declared.driving.News.{News}
use Rattle.ask_desk.specs.declared.driving.CheckNoted.{CheckNoted}
use Rattle.ask_desk.specs.declared.driving.CheckNoted.TheVariants.{Noted, ShutDown, NoMemory}

-- What others did after what the engine's pass had seen: nothing of it is the engine's, and none of it is a check, or a
-- settling before the shutdown.
pub record IsLater (old now : List Entry) : Type 0 where
  pub others : List Entry
  pub behind : now ≡ old ++ others
  pub theirs : entries_by engine_number others ≡ []
  pub kinds : IsTrue (are_others (is_closed (journal_of old)) (journal_of others))

-- What the engine's pass has seen after a call under the lock that put these entries of its own after `before`.
pub record Works (old : View) (before entries : List Entry) (new : View) : Type 0 where
  pub moves : Moves old new
  pub later : IsLater old.seen before
  pub known : old.known ≤ length before
  pub seen : new.seen ≡ before ++ entries
  pub own : new.name.own ≡ old.name.own ++ entries
  pub got : new.name.got ≡ old.name.got
  pub legal : IsTrue (is_legal (journal_of new.seen))

-- the settling of a ticket after a journal: its answer is the reply there, with what was found in the value's place
abbrev pub settled_as : Name → List Event → ℕ → Settling → Entry
settled_as name journal ticket what =
    entry_of name (Settle ticket (mark_of what)) (Answered (reply (λ files call. value_of what) journal ticket (mark_of what)))

-- The settling of a ticket by the engine; none after the shutdown, where every call is settled.
abbrev pub settling : Name → List Event → ℕ → Settling → List Entry
settling name journal ticket what = if is_closed journal then [] else settled_as name journal ticket what ∷ []

-- A ticket is settled, and a mutation with it takes effect or not.
pub record Settles (old new : View) (ticket : ℕ) (what : Settling) (effect : Effect) : Type 0 where
  pub before : List Entry
  pub works : Works old before (settling old.name (journal_of before) ticket what) new
  pub becomes : effect ≡ effect_of (taking_effect (journal_of before) ticket (mark_of what))

-- the check of a file, with its problems
abbrev pub checking : Name → Bytes → List Problem → Entry
checking name file problems = entry_of name (Checked file) (Problems problems)

-- A check is noted, or not: after the shutdown, or out of memory.
abbrev pub ChecksBehind : List Entry → View → View → Bytes → List Problem → CheckNoted → Type 0
ChecksBehind before old new file problems Noted = (is_closed (journal_of before) ≡ false) × Works old before (checking old.name file problems ∷ []) new
ChecksBehind before old new file problems ShutDown = (is_closed (journal_of before) ≡ true) × Works old before [] new
ChecksBehind before old new file problems NoMemory = Works old before [] new

abbrev pub Checks : View → View → Bytes → List Problem → CheckNoted → Type 0
Checks old new file problems result = (before : List Entry) × ChecksBehind before old new file problems result

-- The engine's pass looks at the history: it writes nothing, and is told how many calls are accepted, and whether the session
-- is shut down.
pub record Looks (old new : View) (news : News) : Type 0 where
  pub works : Works old new.seen [] new
  pub accepted_calls : news.accepted ≡ accepted (journal_of new.seen)
  pub shut : news.is_closed ≡ is_closed (journal_of new.seen)

-- What is found of an accepted ticket: its call, where it waits to be fed, or that it is settled. Out of memory for a copy of
-- the call it waits.
abbrev pub IsPosted : List Event → ℕ → Result (Option Call) WithoutMemory → Type 0
IsPosted journal ticket (Ok (Some call)) = CanFeed journal ticket call
IsPosted journal ticket (Ok None) = is_settled journal ticket ≡ true
IsPosted journal ticket (Err refused) = Waits journal ticket

-- The engine's pass looks at the call of a ticket.
pub record Finds (old new : View) (ticket : ℕ) (found : Result (Option Call) WithoutMemory) : Type 0 where
  pub works : Works old new.seen [] new
  pub finds : IsPosted (journal_of new.seen) ticket found
