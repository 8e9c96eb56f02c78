-- The lines of a session, as far as they are printed.
use Rattle.std.specs.Prelude.{[]}
use Rattle.ask_history.specs.declared.calls.Call.TheVariants.{Remove}
use Rattle.ask_history.specs.declared.script.Order.{Order}
use Rattle.ask_history.specs.declared.script.Order.TheVariants as order
use Rattle.ask_history.specs.declared.script.Line.{Line}

-- What a call asks for is not printed with its answer, so no text of it is copied.
abbrev pub shown_order : Order → Order
shown_order (order.Call call) = order.Call (Remove [])
shown_order order = order

abbrev pub shown_line : Line → Line
shown_line line = record { level = 0; check = 0; turn = 0; order = shown_order line.order }
