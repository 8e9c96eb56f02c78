-- The call lines of a script, and what its lines ask of the lines above them.
use Rattle.std.specs.Prelude.{◌≡◌, ⊤, ℕ, ◌<◌, ◌^◌, Bool, true, false, List, [], ◌∷◌, ◌++◌, length}
use Rattle.std.specs.List.{list_any}
use Rattle.ask_history.specs.Engine.{has_file_names}
use Rattle.ask_history.specs.Nested.{number_after}
use Rattle.ask_history.specs.declared.calls.Call.{Call}
use Rattle.ask_history.specs.declared.script.Order.{Order}
use Rattle.ask_history.specs.declared.script.Order.TheVariants as order
use Rattle.ask_history.specs.declared.script.Line.{Line}
use Rattle.script_text.specs.declared.kinds.ScriptKind.TheVariants as kind
use Rattle.script_text.specs.Standing.{is_meant}
use Rattle.work_queue.specs.Reloads.{reloaded_by}

-- the call that a line asks for, with this number
abbrev pub call_under : ℕ → Order → List (ℕ × Call)
call_under number (order.Call call) = (number, call) ∷ []
call_under number _ = []

-- The calls of lines, each with the number of its call line; the next call line has this one.
abbrev pub call_lines : ℕ → List Line → List (ℕ × Call)
call_lines number [] = []
call_lines number (line ∷ lines) = call_under number line.order ++ call_lines (number_after line.order number) lines

-- the number of the next call line after these
abbrev pub next_number : ℕ → List Line → ℕ
next_number number [] = number
next_number number (line ∷ lines) = next_number (number_after line.order number) lines

abbrev pub is_close_line : Order → Bool
is_close_line order.Close = true
is_close_line _ = false

abbrev pub has_close : List Line → Bool
has_close lines = list_any (λ line. is_close_line line.order) lines

-- Each line may stand after those above it in a client's script: a `cancel` and a `wait` name a call line above.
abbrev pub AreMeant : List Line → Type 0
AreMeant lines = (above below : List Line) (line : Line) → lines ≡ above ++ line ∷ below → is_meant kind.Client above line.order ≡ true

-- A line's call has names that files may have, and not too many.
abbrev pub MayPost : Order → Type 0
MayPost (order.Call call) = (has_file_names call ≡ true) × (length (reloaded_by call) < 2 ^ 32)
MayPost _ = ⊤

-- Each call of the script may be posted.
abbrev pub AllMayPost : List Line → Type 0
AllMayPost lines = (above below : List Line) (line : Line) → lines ≡ above ++ line ∷ below → MayPost line.order
