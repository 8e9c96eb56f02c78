-- Where a line may stand, and which line: the conditions on the lines above it, and those on it alone.
use Rattle.std.specs.Prelude.{ℕ, ◌-◌, Bool, true, false, not, ◌&&◌, ◌||◌, ◌==◌, nat_eq, nat_lt, nat_le, if◌then◌else◌, List, [], ◌∷◌, ◌++◌, fold, count_by, option_and_then, Option, Some, None}
use Rattle.std.specs.Option.{option_map}
use Rattle.std.specs.List.{list_any, list_all, filter_map}
use Rattle.std.specs.Str.{bytes_eq}
use Rattle.ask_history.specs.Engine.{asked}
use Rattle.ask_history.specs.Sources.{is_mutation}
use Rattle.ask_history.specs.declared.calls.Call.{Call}
use Rattle.ask_history.specs.declared.calls.Call.TheVariants.{Reload, Remove}
use Rattle.ask_history.specs.declared.script.Order.{Order}
use Rattle.ask_history.specs.declared.script.Order.TheVariants as order
use Rattle.ask_history.specs.declared.script.Line.{Line}
use Rattle.script_text.specs.declared.kinds.Holder.{Holder}
use Rattle.script_text.specs.declared.kinds.Holder.TheVariants as holder
use Rattle.script_text.specs.declared.kinds.Numbers.{Numbers}
use Rattle.script_text.specs.declared.kinds.ScriptKind.{ScriptKind}
use Rattle.script_text.specs.declared.kinds.ScriptKind.TheVariants as kind
use Rattle.script_text.specs.Words.{Bytes, is_word, is_name, is_number}

-- ---- levels

-- Lines stand under an ask and under an `idle`.
abbrev pub holder_of : Order → Option Holder
holder_of (order.Call call) = if is_mutation call then None else Some holder.Ask
holder_of order.Idle = Some holder.Idle
holder_of _ = None

abbrev pub latest_step : ℕ → Option Line → Line → Option Line
latest_step level found line = if line.level == level then Some line else (if nat_lt line.level level then None else found)

-- The last line of a level, where no line of a lower level stands after it.
abbrev pub latest : ℕ → List Line → Option Line
latest level lines = fold (latest_step level) None lines

-- What a line of this level stands under: the nearest line above with one level less.
abbrev pub holder_at : List Line → ℕ → Option Holder
holder_at lines level = if level == 0 then None else option_and_then (λ above. holder_of above.order) (latest (level - 1) lines)

abbrev pub numbers_in : Line → Numbers
numbers_in line = record { check = line.check; turn = line.turn }

-- the numbers of the line above that stands under the same line
abbrev pub sibling_at : List Line → ℕ → Option Numbers
sibling_at lines level = option_map numbers_in (latest level lines)

-- no lower check, and in one check no lower turn, than the sibling before has
abbrev pub does_not_fall : Option Numbers → Numbers → Bool
does_not_fall None numbers = true
does_not_fall (Some before) numbers =
    nat_lt before.check numbers.check || (before.check == numbers.check && nat_le before.turn numbers.turn)

abbrev pub is_held : Option Holder → Option Numbers → Numbers → Bool
is_held None sibling numbers = false
is_held (Some holder.Ask) sibling numbers = numbers.check == 0 && does_not_fall sibling numbers
is_held (Some holder.Idle) sibling numbers = does_not_fall sibling numbers

-- A line of level 0 stands anywhere. An inner one stands in a schedule alone, under an ask or an `idle`.
abbrev pub is_placed : ScriptKind → List Line → Line → Bool
is_placed kind.Client lines line = (line.level == 0) && (line.check == 0) && (line.turn == 0)
is_placed kind.Schedule lines line =
    if line.level == 0 then (line.check == 0) && (line.turn == 0)
    else is_held (holder_at lines line.level) (sibling_at lines line.level) (numbers_in line)

-- ---- orders

abbrev pub is_call : Order → Bool
is_call (order.Call call) = true
is_call _ = false

abbrev pub is_call_line : Line → Bool
is_call_line line = is_call line.order

-- the K-th call line stands above
abbrev pub is_call_above : List Line → ℕ → Bool
is_call_above lines k = nat_lt 0 k && nat_le k (count_by is_call_line lines)

abbrev pub cancelled_number : Order → Option ℕ
cancelled_number (order.Cancel k) = Some k
cancelled_number _ = None

abbrev pub cancelled_by : Line → Option ℕ
cancelled_by line = cancelled_number line.order

-- the numbers of the cancelled call lines
abbrev pub cancelled : List Line → List ℕ
cancelled lines = filter_map cancelled_by lines

abbrev pub is_clients : ScriptKind → Bool
is_clients kind.Client = true
is_clients kind.Schedule = false

-- `cancel K` names a call line above, once; `wait` is of clients' scripts alone, and `idle` of schedules alone.
abbrev pub is_meant : ScriptKind → List Line → Order → Bool
is_meant script lines (order.Cancel k) = is_call_above lines k && not (list_any (nat_eq k) (cancelled lines))
is_meant script lines (order.Wait k) = is_clients script && is_call_above lines k
is_meant script lines order.Idle = not (is_clients script)
is_meant script lines _ = true

-- ---- a line by itself

-- one pair more: a name that is none of those before it, and a path
abbrev pub is_next_pair : List Bytes → Bytes → Bytes → Bool
is_next_pair names name path = is_name name && is_word path && not (list_any (bytes_eq name) names)

-- pairs of distinct names and of paths, after these names
abbrev pub are_pairs : List Bytes → List (Bytes × Bytes) → Bool
are_pairs names [] = true
are_pairs names (pair ∷ pairs) = is_next_pair names pair.0 pair.1 && are_pairs (names ++ pair.0 ∷ []) pairs

abbrev pub is_some_list : {A : Type 0} → List A → Bool
is_some_list [] = false
is_some_list (x ∷ xs) = true

abbrev pub is_written_offset : Option ℕ → Bool
is_written_offset None = true
is_written_offset (Some offset) = is_number offset

abbrev pub is_written_call : Call → Bool
is_written_call (Reload pairs) = is_some_list pairs && are_pairs [] pairs
is_written_call (Remove names) = is_some_list names && list_all is_name names
is_written_call ask = is_name (asked ask).file && is_written_offset (asked ask).offset

abbrev pub is_written : Order → Bool
is_written (order.Call call) = is_written_call call
is_written (order.Cancel k) = is_number k
is_written (order.Wait k) = is_number k
is_written _ = true

-- Whether a line may stand after these lines.
abbrev pub may_stand : ScriptKind → List Line → Line → Bool
may_stand script lines line =
    is_number line.level && is_number line.check && is_number line.turn && is_written line.order
    && is_placed script lines line && is_meant script lines line.order
