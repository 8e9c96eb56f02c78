-- How a line of a script is written. Numbers are written in one way, and one space stands between two words.
use Rattle.std.specs.Prelude.{ℕ, ◌*◌, List, [], ◌∷◌, ◌++◌, codes, replicate, Option, Some, None}
use Rattle.std.specs.List.{join_with_byte}
use Rattle.std.specs.Fmt.{decimal}
use Rattle.ask_history.specs.Engine.{asked}
use Rattle.ask_history.specs.declared.calls.Call.{Call}
use Rattle.ask_history.specs.declared.calls.Call.TheVariants.{Reload, Remove}
use Rattle.ask_history.specs.declared.script.Order.{Order}
use Rattle.ask_history.specs.declared.script.Order.TheVariants as order
use Rattle.ask_history.specs.declared.script.Line.{Line}
use Rattle.script_text.specs.declared.kinds.Holder.{Holder}
use Rattle.script_text.specs.declared.kinds.Holder.TheVariants as holder
use Rattle.script_text.specs.declared.kinds.Numbers.{Numbers}
use Rattle.pc_terms.specs.Bytes.{space}
use Rattle.script_text.specs.Characters.{full_stop, at_sign}
use Rattle.script_text.specs.Words.{Bytes}
use Rattle.script_text.specs.Standing.{numbers_in}

-- NAME PATH NAME PATH ..
abbrev pub pair_words : List (Bytes × Bytes) → List Bytes
pair_words [] = []
pair_words (pair ∷ pairs) = pair.0 ∷ pair.1 ∷ pair_words pairs

abbrev pub offset_words : Option ℕ → List Bytes
offset_words None = []
offset_words (Some offset) = decimal offset ∷ []

-- The text of a reloaded file stands for its path here.
abbrev pub call_words : Call → List Bytes
call_words (Reload pairs) = codes "reload" ∷ pair_words pairs
call_words (Remove names) = codes "remove" ∷ names
call_words ask = (asked ask).word ∷ (asked ask).file ∷ offset_words (asked ask).offset

abbrev pub order_words : Order → List Bytes
order_words (order.Call call) = call_words call
order_words (order.Cancel k) = codes "cancel" ∷ decimal k ∷ []
order_words order.Close = codes "close" ∷ []
order_words (order.Wait k) = codes "wait" ∷ decimal k ∷ []
order_words order.Idle = codes "idle" ∷ []

-- `@T` under an ask, and `@N.T` under an `idle`
abbrev pub number_word : Holder → Numbers → Bytes
number_word holder.Ask numbers = at_sign ∷ decimal numbers.turn
number_word holder.Idle numbers = at_sign ∷ decimal numbers.check ++ full_stop ∷ decimal numbers.turn

-- Nothing stands before the order of a line of level 0.
abbrev pub number_words : Option Holder → Line → List Bytes
number_words None line = []
number_words (Some above) line = number_word above (numbers_in line) ∷ []

-- Two spaces for each level, and then the words.
abbrev pub line_text : Option Holder → Line → Bytes
line_text above line = replicate (2 * line.level) space ++ join_with_byte space (number_words above line ++ order_words line.order)
