-- What the reloads of a journal take up.
use Rattle.std.specs.Prelude.{ℕ, ◌+◌, ◌-◌, max, if◌then◌else◌, List, [], ◌∷◌, ◌++◌, length, fold, Option, Some, None, is_some, unwrap_or}
use Rattle.std.specs.List.{flat_map, list_any, sum_by}
use Rattle.std.specs.Str.{bytes_eq}
use Rattle.ask_history.specs.Sources.{Bytes}
use Rattle.ask_history.specs.declared.calls.Call.{Call}
use Rattle.ask_history.specs.declared.calls.Call.TheVariants.{Reload}
use Rattle.ask_history.specs.declared.events.Event.{Event}
use Rattle.ask_history.specs.declared.events.Event.TheVariants.{Accept}
use Rattle.work_queue.specs.declared.usage.Usage.{Usage}

-- the names and texts that a call reloads
abbrev pub reloaded_by : Call → List (Bytes × Bytes)
reloaded_by (Reload pairs) = pairs
reloaded_by _ = []

abbrev pub reloaded_in : Event → List (Bytes × Bytes)
reloaded_in (Accept ticket client tag call) = reloaded_by call
reloaded_in _ = []

-- All names and texts that accepted calls reload, in the order of the calls.
abbrev pub reloads : List Event → List (Bytes × Bytes)
reloads journal = flat_map reloaded_in journal

-- The bytes of all texts.
abbrev pub text_bytes : List (Bytes × Bytes) → ℕ
text_bytes pairs = sum_by (λ pair. length pair.1) pairs

abbrev pub longer : Option ℕ → Option ℕ → Option ℕ
longer None b = b
longer (Some a) None = Some a
longer (Some a) (Some b) = Some (max a b)

-- the length of a pair's text, where it is of this name
abbrev pub length_for : Bytes × Bytes → Bytes → Option ℕ
length_for pair name = if bytes_eq pair.0 name then Some (length pair.1) else None

-- The length of a name's longest text, where one is reloaded.
abbrev pub longest : List (Bytes × Bytes) → Bytes → Option ℕ
longest [] name = None
longest (pair ∷ pairs) name = longer (length_for pair name) (longest pairs name)

abbrev pub with_name : List Bytes → Bytes × Bytes → List Bytes
with_name names pair = if list_any (bytes_eq pair.0) names then names else names ++ pair.0 ∷ []

-- The names, each once.
abbrev pub names_of : List (Bytes × Bytes) → List Bytes
names_of pairs = fold with_name [] pairs

-- The longest texts of all names, together.
abbrev pub map_bytes : List (Bytes × Bytes) → ℕ
map_bytes pairs = sum_by (λ name. unwrap_or (longest pairs name) 0) (names_of pairs)

abbrev pub usage_of : List (Bytes × Bytes) → Usage
usage_of pairs = record { text = text_bytes pairs; names = length (names_of pairs); map = map_bytes pairs }

-- with one text more, of this length, where the longest text of its name is this long so far
abbrev pub with_text : Usage → Option ℕ → ℕ → Usage
with_text usage most len = record { text = usage.text + len; names = usage.names + (if is_some most then 0 else 1); map = usage.map + (len - unwrap_or most 0) }
