-- What holds of a client between two lines of its script.
use Rattle.std.specs.Prelude.{◌≡◌, ◌⊎◌, ⊤, ℕ, ◌+◌, ◌<◌, Bool, true, false, IsTrue, List, [], ◌∷◌, ◌++◌, length, slice_get, Option, Some, None}
use Rattle.ask_history.specs.Journal.{accepted, ticket_of, is_closed, is_settled}
use Rattle.ask_history.specs.Legal.{is_legal}
use Rattle.ask_history.specs.declared.answers.Answer.{Answer}
use Rattle.ask_history.specs.declared.calls.Call.{Call}
use Rattle.ask_history.specs.declared.script.Line.{Line}
use Rattle.work_queue.specs.declared.limits.PostRefused.TheVariants.{Closed}
use Rattle.client_scripts.specs.declared.client.Client.{Client}
use Rattle.client_scripts.specs.declared.client.Held.{Held}
use Rattle.client_scripts.specs.declared.client.Held.TheVariants.{Due, Had}
use Rattle.client_scripts.specs.Lines.{next_number}
use Rattle.client_scripts.specs.Clients.{calls_of, Stands}
use Rattle.client_scripts.specs.History.{journal_of, signed_journal, answer_of}
use Rattle.client_scripts.specs.Passes.{PassState, Writes, IsDue, Accepts, Refuses, Cancels, Receives}
use Rattle.client_scripts.specs.Runs.{Runs}

-- the ticket of the accepted call at an index, from 0
abbrev pub ticket_at : PassState → ℕ → Option ℕ
ticket_at pass index = ticket_of (signed_journal pass.history) pass.number (index + 1)

module _ {T : Type 0} (number_of : T → ℕ) where
  -- what a client holds of its call that was accepted under a ticket: the right to its answer, or the answer
  abbrev pub Holds : PassState → Option ℕ → Held T → Type 0
  Holds pass None held = ⊥
  Holds pass (Some t) (Due ticket) = (number_of ticket ≡ t) × IsDue pass t
  Holds pass (Some t) (Had found) = answer_of pass.history t ≡ Some found

  -- A client holds something of each of its accepted calls, in order. The tickets of these are apart.
  pub record IsHolding (pass : PassState) (held : List (Held T)) : Type 0 where
    pub legal : IsTrue (is_legal (journal_of pass.history))
    pub counted : length held ≡ length (calls_of pass.number (signed_journal pass.history))
    pub each : (index : ℕ) (one : Held T) → slice_get held index ≡ Some one → Holds pass (ticket_at pass index) one
    pub apart : (i j t : ℕ) → ticket_at pass i ≡ Some t → ticket_at pass j ≡ Some t → i ≡ j
    pub below : (i t : ℕ) → ticket_at pass i ≡ Some t → t < accepted (journal_of pass.history)

  -- A client is past these lines of its script, or the session is shut down.
  pub record IsPlaying (c : ℕ) (lines above : List Line) (pass : PassState) (client : Client T) : Type 0 where
    pub named : pass.number ≡ c
    pub holding : IsHolding pass client.held.items
    pub runs : Runs c lines pass.history
    pub behind : (is_closed (journal_of pass.history) ≡ true) ⊎ Stands c (signed_journal pass.history) above
    pub counts : client.next ≡ next_number 1 above

  -- ---- steps

  -- the answer may be received, or is there
  abbrev pub CanReceive : PassState → Held T → Type 0
  CanReceive pass (Due ticket) = IsDue pass (number_of ticket)
  CanReceive pass (Had found) = ⊤

  -- The answer is received, or was there.
  abbrev pub Gives : PassState → PassState → Held T → Answer → Type 0
  Gives old new (Due ticket) found = Receives old new (number_of ticket) found
  Gives old new (Had answer) found = (new ≡ old) × (found ≡ answer)

  -- A call line is posted: it is accepted, or the session is shut down.
  abbrev pub Posts : PassState → PassState → Client T → Client T → Call → Type 0
  Posts old new client client' call =
      (client'.next ≡ client.next + 1)
      × (((ticket : T) × Accepts old new (number_of ticket) client.next call × (client'.held.items ≡ client.held.items ++ Due ticket ∷ []))
      ⊎ ((index : ℕ) × Refuses old new (Closed index) × (client'.held.items ≡ client.held.items)))

-- A pass was left, or others went on.
abbrev pub Rests : PassState → PassState → Type 0
Rests old new = (new ≡ old) ⊎ Writes old new.history [] new

-- The call at an index is cancelled, where it is not settled.
pub record CancelsAt (old new : PassState) (index : ℕ) : Type 0 where
  pub ticket : ℕ
  pub is : ticket_at old index ≡ Some ticket
  pub done : Cancels old new ticket ⊎ ((new ≡ old) × (is_settled (signed_journal old.history) ticket ≡ true))

-- The answer of the call at an index is there.
pub record ReceivesAt (old new : PassState) (index : ℕ) : Type 0 where
  pub ticket : ℕ
  pub is : ticket_at old index ≡ Some ticket
  pub rests : Rests old (record new { got = old.got })
  pub settled : is_settled (signed_journal new.history) ticket ≡ true

-- What a client leaves that was stopped: each entry that it made is that of a line.
pub record HasStopped (c : ℕ) (lines : List Line) (pass : PassState) : Type 0 where
  pub named : pass.number ≡ c
  pub runs : Runs c lines pass.history

-- ---- answers

abbrev pub is_had : {T : Type 0} → Held T → Bool
is_had (Due ticket) = false
is_had (Had found) = true

abbrev pub had_answer : {T : Type 0} → Held T → Option Answer
had_answer (Due ticket) = None
had_answer (Had found) = Some found
