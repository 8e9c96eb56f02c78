-- The history of a session as a client knows it.
use Rattle.std.specs.Prelude.{◌≡◌, ℕ, Bool, false, ◌==◌, IsTrue, is_some, if◌then◌else◌, List, [], ◌∷◌, ◌++◌, map, Option, Some, None}
use Rattle.std.specs.List.{list_any}
use Rattle.ask_history.specs.Journal.{call_under, settles}
use Rattle.ask_history.specs.Legal.{is_legal}
use Rattle.ask_history.specs.declared.answers.Answer.{Answer}
use Rattle.ask_history.specs.declared.events.Event.{Event}
use Rattle.ask_history.specs.declared.events.Event.TheVariants.{Accept}

-- An event of the history, with the number of the pass that made it, and the answer of a settling.
pub record Entry : Type 0 where
  pub event : Event
  pub author : ℕ
  pub answer : Option Answer

-- the journal that a history tells
abbrev pub journal_of : List Entry → List Event
journal_of history = map (λ entry. entry.event) history

-- an event as its author signs it: an accepted call is its author's
abbrev pub signed_by : ℕ → Event → Event
signed_by author (Accept ticket client tag call) = Accept ticket author tag call
signed_by author event = event

-- The journal with each call under the number of the pass that posted it. A client knows what its own number made; that others
-- post under their own numbers is known only once all have ended.
abbrev pub signed_journal : List Entry → List Event
signed_journal history = map (λ entry. signed_by entry.author entry.event) history

-- the answer with which a ticket is settled
abbrev pub answer_of : List Entry → ℕ → Option Answer
answer_of [] ticket = None
answer_of (entry ∷ history) ticket = if settles ticket entry.event then entry.answer else answer_of history ticket

-- who posted the call of a ticket: the author of its first Accept
abbrev pub taker_of : List Entry → ℕ → Option ℕ
taker_of [] ticket = None
taker_of (entry ∷ history) ticket = if is_some (call_under ticket entry.event) then Some entry.author else taker_of history ticket

-- whether one of these entries is of this number
abbrev pub has_entry_of : ℕ → List Entry → Bool
has_entry_of c entries = list_any (λ entry. entry.author == c) entries

-- The history went on by others than this client.
pub record IsLater (c : ℕ) (old now : List Entry) : Type 0 where
  pub others : List Entry
  pub behind : now ≡ old ++ others
  pub theirs : has_entry_of c others ≡ false
  pub legal : IsTrue (is_legal (journal_of now))
