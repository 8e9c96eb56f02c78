-- What the calls of a client's pass do.
use Rattle.std.specs.Prelude.{◌≡◌, ⊤, ℕ, ◌==◌, ◌<◌, true, false, Bool, IsTrue, if◌then◌else◌, List, [], ◌∷◌, ◌++◌, map, Some, None}
use Rattle.std.specs.List.{list_any}
use Rattle.ask_history.specs.Closing.{open_tickets}
use Rattle.ask_history.specs.Journal.{accepted, is_closed, is_settled}
use Rattle.ask_history.specs.Legal.{is_legal}
use Rattle.ask_history.specs.declared.answers.Answer.{Answer}
use Rattle.ask_history.specs.declared.answers.Answer.TheVariants as answer
use Rattle.ask_history.specs.declared.calls.Call.{Call}
use Rattle.ask_history.specs.declared.events.Event.{Event}
use Rattle.ask_history.specs.declared.events.Event.TheVariants.{Accept, Close, Settle}
use Rattle.ask_history.specs.declared.events.Mark.TheVariants as mark
use Rattle.work_queue.specs.Queue.{cancelling}
use Rattle.work_queue.specs.declared.limits.PostRefused.{PostRefused}
use Rattle.work_queue.specs.declared.limits.PostRefused.TheVariants.{Closed}
use Rattle.client_scripts.specs.History.{Entry, journal_of, answer_of, taker_of, IsLater}

-- What is known of a pass: its number, what it has seen of the history, and the tickets whose answers it was handed.
pub record PassState : Type 0 where
  pub number : ℕ
  pub history : List Entry
  pub got : List ℕ

abbrev pub has : List ℕ → ℕ → Bool
has tickets ticket = list_any (λ other. other == ticket) tickets

-- a pass that has then seen this
abbrev pub seeing : PassState → List Entry → PassState
seeing pass history = record pass { history = history }

-- an event of a client that answers nothing
abbrev pub made_by : ℕ → Event → Entry
made_by c event = record { event = event; author = c; answer = None }

-- the settling of an open ticket at the shutdown
abbrev pub closed_by : ℕ → ℕ → Entry
closed_by c ticket = record { event = Settle ticket mark.Done; author = c; answer = Some answer.Closed }

-- what a client's shutdown puts after a journal: Close where none stands, and then the settlings of the open tickets
abbrev pub closing_by : ℕ → List Event → List Entry
closing_by c journal = if is_closed journal then [] else made_by c Close ∷ map (closed_by c) (open_tickets journal)

-- A pass wrote these entries after what others did.
pub record Writes (old : PassState) (before entries : List Entry) (new : PassState) : Type 0 where
  pub later : IsLater old.number old.history before
  pub written : new ≡ seeing old (before ++ entries)
  pub legal : IsTrue (is_legal (journal_of new.history))

-- A ticket is a pass's, and its answer was not handed out.
pub record IsDue (pass : PassState) (ticket : ℕ) : Type 0 where
  pub mine : taker_of pass.history ticket ≡ Some pass.number
  pub fresh : has pass.got ticket ≡ false

-- A call is accepted under the next ticket, in the pass's name.
pub record Accepts (old new : PassState) (ticket tag : ℕ) (call : Call) : Type 0 where
  pub before : List Entry
  pub next : ticket ≡ accepted (journal_of before)
  pub writes : Writes old before (made_by old.number (Accept ticket old.number tag call) ∷ []) new
  pub due : IsDue new ticket

-- A call is refused. Where the reason is that the session is shut down, it is.
pub record Refuses (old new : PassState) (why : PostRefused) : Type 0 where
  pub writes : Writes old new.history [] new
  pub shut : (index : ℕ) → why ≡ Closed index → is_closed (journal_of new.history) ≡ true

-- A client may stop where a call is refused for such a reason: for every one but that the session is shut down.
abbrev pub MayStop : PostRefused → Type 0
MayStop (Closed index) = ⊥
MayStop _ = ⊤

-- A ticket is cancelled, unless it is settled or cancelled.
pub record Cancels (old new : PassState) (ticket : ℕ) : Type 0 where
  pub before : List Entry
  pub writes : Writes old before (map (made_by old.number) (cancelling (journal_of before) ticket)) new

-- The answer of a ticket's settling is handed out.
pub record Receives (old new : PassState) (ticket : ℕ) (found : Answer) : Type 0 where
  pub later : IsLater old.number old.history new.history
  pub got : new ≡ record old { history = new.history; got = ticket ∷ old.got }
  pub answered : answer_of new.history ticket ≡ Some found

-- The session is shut down, and every accepted ticket is settled.
pub record Closes (old new : PassState) : Type 0 where
  pub before : List Entry
  pub writes : Writes old before (closing_by old.number (journal_of before)) new
  pub settled : (ticket : ℕ) → ticket < accepted (journal_of new.history) → is_settled (journal_of new.history) ticket ≡ true
