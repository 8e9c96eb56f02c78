-- What a queue keeps beside its journal.
use Rattle.std.specs.Prelude.{◌≡◌, ℕ, ◌<◌, ◌≤◌, true, IsTrue, Some}
use Rattle.ask_history.specs.Engine.{HasFileSizes, has_file_names}
use Rattle.ask_history.specs.Journal.{accepted, call_of, is_closed, is_settled}
use Rattle.ask_history.specs.Legal.{is_legal}
use Rattle.ask_history.specs.declared.calls.Call.{Call}
use Rattle.work_queue.specs.Reloads.{reloads}
use Rattle.work_queue.specs.Refusal.{IsWithin}
use Rattle.work_queue.specs.Tally.{IsTally}
use Rattle.work_queue.specs.declared.queue.Queue.TheInside.{Inside}

-- No limit is passed, also by the texts of the accepted calls, and after the shutdown every call is settled.
pub record IsQueue (queue : Inside) : Type 0 where
  pub legal : IsTrue (is_legal queue.log)
  pub answered : is_closed queue.log ≡ true → (t : ℕ) → t < accepted queue.log → is_settled queue.log t ≡ true
  pub given : queue.given ≤ accepted queue.log
  pub within : IsWithin queue.limits
  pub tally : IsTally (reloads queue.log) queue.tally
  pub sizes : (t : ℕ) (call : Call) → call_of queue.log t ≡ Some call → HasFileSizes call
  pub named : (t : ℕ) (call : Call) → call_of queue.log t ≡ Some call → has_file_names call ≡ true
  pub calls : accepted queue.log ≤ queue.limits.calls
  pub text : queue.tally.usage.text ≤ queue.limits.text
  pub names : queue.tally.usage.names ≤ queue.limits.names
  pub map : queue.tally.usage.map ≤ queue.limits.map
