-- Which calls are refused.
use Rattle.std.specs.Prelude.{ℕ, ◌==◌, ◌≤◌, nat_lt, if◌then◌else◌, List, [], ◌∷◌, ◌++◌, length, Option, Some, None}
use Rattle.std.specs.Option.{option_or, option_map}
use Rattle.pc_terms.specs.Bytes.{Bytes, max_source_bytes}
use Rattle.ask_history.specs.Journal.{accepted}
use Rattle.ask_history.specs.declared.calls.Call.{Call}
use Rattle.ask_history.specs.declared.events.Event.{Event}
use Rattle.work_queue.specs.declared.limits.Limits.{Limits}
use Rattle.work_queue.specs.declared.limits.PostRefused.{PostRefused}
use Rattle.work_queue.specs.declared.limits.PostRefused.TheVariants.{TooLarge, CallsFull, TextFull, Closed, NamesFull, MapFull}
use Rattle.work_queue.specs.declared.usage.Usage.{Usage}
use Rattle.work_queue.specs.Indexes.{close_index}
use Rattle.work_queue.specs.Reloads.{reloaded_by, reloads, usage_of}

-- No limit is above what any session may take on.
pub record IsWithin (limits : Limits) : Type 0 where
  pub calls : limits.calls ≤ 65536
  pub text : limits.text ≤ 268435456
  pub names : limits.names ≤ 1024
  pub map : limits.map ≤ 16777216
  pub file : limits.file ≤ max_source_bytes

-- the length of the first text that is longer than a file may be
abbrev pub too_large : ℕ → List (Bytes × Bytes) → Option ℕ
too_large limit [] = None
too_large limit (pair ∷ pairs) = if nat_lt limit (length pair.1) then Some (length pair.1) else too_large limit pairs

-- a number that is above its limit
abbrev pub above : ℕ → ℕ → Option ℕ
above limit n = if nat_lt limit n then Some n else None

-- the first limit that would be passed
abbrev pub overfull : Limits → Usage → Option PostRefused
overfull limits usage =
    option_or (option_map TextFull (above limits.text usage.text))
    (option_or (option_map NamesFull (above limits.names usage.names)) (option_map MapFull (above limits.map usage.map)))

-- Why a call is refused after a journal, memory aside: the session is shut down, a text is too long, all calls
-- are taken, or with this call the reloads would take up more than they may.
abbrev pub refusal : Limits → List Event → Call → Option PostRefused
refusal limits journal call =
    option_or (option_map Closed (close_index journal))
    (option_or (option_map TooLarge (too_large limits.file (reloaded_by call)))
    (option_or (if accepted journal == limits.calls then Some (CallsFull (accepted journal)) else None)
    (overfull limits (usage_of (reloads journal ++ reloaded_by call)))))
