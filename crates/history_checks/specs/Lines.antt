-- Lines of schedules, and what is printed of a schedule without an engine.
use Rattle.std.specs.Prelude.{ℕ, List, [], ◌∷◌, codes}
use Rattle.pc_terms.specs.Bytes.{Bytes}
use Rattle.pc_terms.specs.declared.problems.Problem.{Problem}
use Rattle.ask_history.specs.Schedule.{journal_of}
use Rattle.ask_history.specs.declared.answers.Answer.{Answer}
use Rattle.ask_history.specs.declared.calls.Call.TheVariants.{Reload, Remove, TypeAt}
use Rattle.ask_history.specs.declared.script.Line.{Line}
use Rattle.ask_history.specs.declared.script.Order.{Order}
use Rattle.ask_history.specs.declared.script.Order.TheVariants as order
use Rattle.transcript.specs.Transcript.{session_text}

abbrev pub a_scala : Bytes
a_scala = codes "A.scala"

-- 22 bytes
abbrev pub text_a : Bytes
text_a = codes "object A { val x = 1 }"

-- 24 bytes
abbrev pub text_a2 : Bytes
text_a2 = codes "object A { val x = \"s\" }"

-- 33 bytes
abbrev pub text_b : Bytes
text_b = codes "object B { val a = b; val b = 1 }"

-- ---- what lines ask for

abbrev pub reload_a : Order
reload_a = order.Call (Reload ((a_scala, text_a) ∷ []))

abbrev pub reload_a2 : Order
reload_a2 = order.Call (Reload ((a_scala, text_a2) ∷ []))

abbrev pub reload_both : Order
reload_both = order.Call (Reload ((a_scala, text_a) ∷ (codes "B.scala", text_b) ∷ []))

abbrev pub remove_a : Order
remove_a = order.Call (Remove (a_scala ∷ []))

abbrev pub type_a : ℕ → Order
type_a offset = order.Call (TypeAt a_scala offset)

-- ---- lines

-- a line of level 0
abbrev pub line : Order → Line
line what = record { level = 0; check = 0; turn = 0; order = what }

-- a line of this level under an ask: `@TURN what`
abbrev pub inner : ℕ → ℕ → Order → Line
inner level turn what = record { level = level; check = 0; turn = turn; order = what }

-- a line of this level under an `idle`: `@CHECK.TURN what`
abbrev pub in_check : ℕ → ℕ → ℕ → Order → Line
in_check level check turn what = record { level = level; check = check; turn = turn; order = what }

-- What is printed of a schedule with these lines, answers and problems, where these tickets found no memory.
abbrev pub printed : List ℕ → List Line → List Answer → List (List Problem) → Bytes
printed without lines answers problems = session_text (record { lines = lines } ∷ []) (journal_of without lines) (answers ∷ []) problems
