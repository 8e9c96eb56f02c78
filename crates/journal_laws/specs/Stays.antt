-- What stays where others go on with a journal.
use Rattle.std.specs.Prelude.{◌≡◌, ◌≤◌, ℕ, IsTrue, List, Some}
use Rattle.ask_history.specs.Journal.{accepted, after, checked, call_of, is_settled, is_cancelled}
use Rattle.ask_history.specs.Legal.{is_next}
use Rattle.ask_history.specs.declared.calls.Call.{Call}
use Rattle.ask_history.specs.declared.events.Event.{Event}

-- What stays until the shutdown: the sources and the checked files, who is settled, the calls, who is cancelled, and which
-- calls may be settled.
pub record Stays (before now : List Event) : Type 0 where
  pub sources : after now ≡ after before
  pub files : checked now ≡ checked before
  pub settled : (t : ℕ) → is_settled now t ≡ is_settled before t
  pub calls : (t : ℕ) (call : Call) → call_of before t ≡ Some call → call_of now t ≡ Some call
  pub cancels : (t : ℕ) → IsTrue (is_cancelled before t) → IsTrue (is_cancelled now t)
  pub more : accepted before ≤ accepted now
  pub next : (t : ℕ) → t ≤ accepted before → IsTrue (is_next before t) → IsTrue (is_next now t)
