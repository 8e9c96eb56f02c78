-- A script with the texts of its paths.
use Rattle.std.specs.Prelude.{List, map, unwrap_or}
use Rattle.ask_history.specs.Sources.{text_of}
use Rattle.ask_history.specs.declared.calls.Call.{Call}
use Rattle.ask_history.specs.declared.calls.Call.TheVariants.{Reload}
use Rattle.ask_history.specs.declared.script.Order.{Order}
use Rattle.ask_history.specs.declared.script.Order.TheVariants as order
use Rattle.ask_history.specs.declared.script.Line.{Line}
use Rattle.ask_history.specs.declared.script.Script.{Script}
use Rattle.script_text.specs.Words.{Bytes}

-- the text of a path, where the sources have it, and else the path itself
abbrev pub text_at : List (Bytes × Bytes) → Bytes → Bytes
text_at sources path = unwrap_or (text_of sources path) path

abbrev pub pair_with : List (Bytes × Bytes) → Bytes × Bytes → Bytes × Bytes
pair_with sources pair = (pair.0, text_at sources pair.1)

abbrev pub call_with : List (Bytes × Bytes) → Call → Call
call_with sources (Reload pairs) = Reload (map (pair_with sources) pairs)
call_with sources call = call

abbrev pub order_with : List (Bytes × Bytes) → Order → Order
order_with sources (order.Call call) = order.Call (call_with sources call)
order_with sources order = order

abbrev pub line_with : List (Bytes × Bytes) → Line → Line
line_with sources line = record line { order = order_with sources line.order }

abbrev pub script_with : List (Bytes × Bytes) → Script → Script
script_with sources script = record script { lines = map (line_with sources) script.lines }
