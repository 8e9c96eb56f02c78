-- What the calls of a board tell, and what they put into the history.
use Rattle.std.specs.Prelude.{◌≡◌, ◌⊎◌, ℕ, ◌<◌, true, IsTrue, if◌then◌else◌, List, [], ◌∷◌, ◌++◌, Option, Some, None}
use Rattle.std.specs.List.{find}
use Rattle.pc_terms.specs.declared.problems.Problem.{Problem}
use Rattle.ask_history.specs.Sources.{Bytes}
use Rattle.ask_history.specs.Journal.{accepted, is_closed, is_cancelled, is_settled, reply, taking_effect}
use Rattle.ask_history.specs.Legal.{is_legal}
use Rattle.ask_history.specs.declared.answers.Answer.{Answer}
use Rattle.ask_history.specs.declared.answers.Answer.TheVariants as answer
use Rattle.ask_history.specs.declared.calls.Call.{Call}
use Rattle.ask_history.specs.declared.engine.Effect.{Effect}
use Rattle.ask_history.specs.declared.engine.Effect.TheVariants.{Applies, Dropped}
use Rattle.ask_history.specs.declared.events.Event.{Event}
use Rattle.ask_history.specs.declared.events.Event.TheVariants.{Settle, Checked}
use Rattle.ask_history.specs.declared.events.Mark.{Mark}
use Rattle.ask_history.specs.declared.events.Mark.TheVariants as mark
pub use Rattle.journal_laws.specs.Waiting.{Waits, CanFeed}
use Rattle.engine_driver.specs.History.{Entry, journal_of, IsLater}
use Rattle.engine_driver.specs.declared.board.News.{News}
use Rattle.engine_driver.specs.declared.board.Posted.{Posted}
use Rattle.engine_driver.specs.declared.board.Posted.TheVariants as posted
use Rattle.engine_driver.specs.declared.board.CheckNoted.{CheckNoted}
use Rattle.engine_driver.specs.declared.board.CheckNoted.TheVariants.{Noted, ShutDown}

-- ---- looks

-- A look: how many calls are accepted, whether the session is shut down, and the first of the open tickets of which a cancel
-- stands.
pub record Looks (old new : List Entry) (opened : List ℕ) (news : News) : Type 0 where
  pub later : IsLater old new
  pub accepted_calls : news.accepted ≡ accepted (journal_of new)
  pub shut : news.is_closed ≡ is_closed (journal_of new)
  pub cancelled : news.cancelled ≡ find (is_cancelled (journal_of new)) opened

-- More calls than these are accepted, or the session is shut down.
pub record Awaits (old new : List Entry) (count : ℕ) : Type 0 where
  pub later : IsLater old new
  pub more : (is_closed (journal_of new) ≡ true) ⊎ (count < accepted (journal_of new))

-- ---- calls

-- what is found of an accepted ticket
abbrev pub Finds : List Event → ℕ → Posted → Type 0
Finds journal ticket (posted.Call call) = CanFeed journal ticket call
Finds journal ticket posted.NoMemory = Waits journal ticket
Finds journal ticket posted.Settled = is_settled journal ticket ≡ true

-- ---- settlings

abbrev pub mark_of : Option Answer → Mark
mark_of (Some found) = mark.Done
mark_of None = mark.NoMemory

-- the value that was found; where none was, the mark gives the answer
abbrev pub value_of : Option Answer → Answer
value_of (Some found) = found
value_of None = answer.NoMemory

abbrev pub effect_of : Option Call → Effect
effect_of None = Dropped
effect_of (Some mutation) = Applies

-- the settling of a ticket after a journal, by the driver: its answer is the reply there, with what was found in the
-- value's place
abbrev pub settled_as : List Event → ℕ → Option Answer → Entry
settled_as journal ticket found = record {
  event = Settle ticket (mark_of found);
  answer = Some (reply (λ files call. value_of found) journal ticket (mark_of found));
  problems = None;
  mine = true;
}

-- After the shutdown every call is settled, and nothing is written.
abbrev pub settling : List Event → ℕ → Option Answer → List Entry
settling journal ticket found = if is_closed journal then [] else settled_as journal ticket found ∷ []

-- A ticket is settled after what others did, and a mutation with it takes effect or not.
pub record Settles (old new : List Entry) (ticket : ℕ) (found : Option Answer) (effect : Effect) : Type 0 where
  pub before : List Entry
  pub later : IsLater old before
  pub written : new ≡ before ++ settling (journal_of before) ticket found
  pub becomes : effect ≡ effect_of (taking_effect (journal_of before) ticket (mark_of found))
  pub legal : IsTrue (is_legal (journal_of new))

-- ---- checks

abbrev pub checking : Bytes → List Problem → Entry
checking file problems = record { event = Checked file; answer = None; problems = Some problems; mine = true }

-- what is written of a check
abbrev pub noting : Bytes → List Problem → CheckNoted → List Entry
noting file problems Noted = checking file problems ∷ []
noting file problems _ = []

-- A check is noted after what others did, or it is not: after the shutdown, or out of memory.
pub record Checks (old new : List Entry) (file : Bytes) (problems : List Problem) (noted : CheckNoted) : Type 0 where
  pub before : List Entry
  pub later : IsLater old before
  pub written : new ≡ before ++ noting file problems noted
  pub shut : noted ≡ ShutDown → is_closed (journal_of before) ≡ true
  pub legal : IsTrue (is_legal (journal_of new))
