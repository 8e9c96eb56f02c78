-- What is kept of the lines above.
use Rattle.std.specs.Prelude.{◌≡◌, ℕ, false, nat_eq, List, [], ◌∷◌, slice_get, count_by}
use Rattle.std.specs.Option.{option_map}
use Rattle.std.specs.List.{list_any}
use Rattle.ask_history.specs.declared.script.Order.{Order}
use Rattle.ask_history.specs.declared.script.Order.TheVariants as order
use Rattle.ask_history.specs.declared.script.Line.{Line}
use Rattle.script_text.specs.declared.above.Open.{Open}
use Rattle.script_text.specs.declared.above.Above.{Above}
use Rattle.script_text.specs.Standing.{holder_of, numbers_in, latest, is_call_line, cancelled}

abbrev pub open_of : Line → Open
open_of line = record { holder = holder_of line.order; numbers = numbers_in line }

pub record IsAbove (above : Above) : Type 0 where
  pub levels : (level : ℕ) → slice_get above.levels.items level ≡ option_map open_of (latest level above.lines)
  pub calls : above.calls ≡ count_by is_call_line above.lines
  pub cancels : above.cancelled.keys ≡ cancelled above.lines

-- a `cancel` names none of these
abbrev pub IsNewCancel : List ℕ → Order → Type 0
IsNewCancel keys (order.Cancel k) = list_any (nat_eq k) keys ≡ false
IsNewCancel keys _ = Unit {0}

abbrev pub calls_in : Order → ℕ
calls_in (order.Call call) = 1
calls_in _ = 0

abbrev pub cancels_in : Order → List ℕ
cancels_in (order.Cancel k) = k ∷ []
cancels_in _ = []
