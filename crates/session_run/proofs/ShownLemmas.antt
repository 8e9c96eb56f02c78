-- What a call asks for is not printed with its answer.
use Rattle.std.proofs.Common.{◌≡◌, ℕ, List, [], ◌∷◌, ◌++◌, length, codes, map, refl, ap, ◌∙◌}
use Rattle.pc_terms.specs.Bytes.{line_end}
use Rattle.pc_terms.specs.declared.problems.Problem.{Problem}
use Rattle.ask_history.specs.Nested.{number_after}
use Rattle.ask_history.specs.declared.script.Order.{Order}
use Rattle.ask_history.specs.declared.script.Order.TheVariants as order
use Rattle.ask_history.specs.declared.script.Line.{Line}
use Rattle.ask_history.specs.declared.answers.Answer.{Answer}
use Rattle.ask_history.specs.declared.events.Event.{Event}
use Rattle.transcript.specs.Printed.{count_line, events_text}
use Rattle.transcript.specs.Transcript.{line_printed, answers_after, lines_printed}
use Rattle.session_run.specs.Printed.{session_of}
use Rattle.session_run.specs.Shown.{shown_order, shown_line}

line-shown : (journal : List Event) (client number : ℕ) (answers : List Answer) (o : Order) → line_printed journal client number answers (shown_order o) ≡ line_printed journal client number answers o
line-shown journal client number answers (order.Call call) = refl
line-shown journal client number answers (order.Cancel k) = refl
line-shown journal client number answers order.Close = refl
line-shown journal client number answers (order.Wait k) = refl
line-shown journal client number answers order.Idle = refl

number-shown : (number : ℕ) (o : Order) → number_after (shown_order o) number ≡ number_after o number
number-shown number (order.Call call) = refl
number-shown number (order.Cancel k) = refl
number-shown number order.Close = refl
number-shown number (order.Wait k) = refl
number-shown number order.Idle = refl

answers-shown : (journal : List Event) (client number : ℕ) (answers : List Answer) (o : Order) → answers_after journal client number answers (shown_order o) ≡ answers_after journal client number answers o
answers-shown journal client number answers (order.Call call) = refl
answers-shown journal client number answers (order.Cancel k) = refl
answers-shown journal client number answers order.Close = refl
answers-shown journal client number answers (order.Wait k) = refl
answers-shown journal client number answers order.Idle = refl

lines-shown : (journal : List Event) (client number : ℕ) (answers : List Answer) (lines : List Line)
    → lines_printed journal client number answers (map shown_line lines) ≡ lines_printed journal client number answers lines
lines-shown journal client number answers [] = refl
lines-shown journal client number answers (line ∷ lines) =
    (λ i. line-shown journal client number answers line.order i
    ++ lines_printed journal client (number-shown number line.order i) (answers-shown journal client number answers line.order i) (map shown_line lines))
    ∙ ap (λ rest. line_printed journal client number answers line.order ++ rest)
    (lines-shown journal client (number_after line.order number) (answers_after journal client number answers line.order) lines)

-- what is printed of the shown lines is what is printed of the lines
pub session-shown : (lines : List Line) (journal : List Event) (answers : List Answer) (problems : List (List Problem))
    → session_of (map shown_line lines) journal answers problems ≡ session_of lines journal answers problems
session-shown lines journal answers problems =
    ap (λ printed. count_line (codes "journal") (length journal) ++ events_text 0 problems journal ++ (count_line (codes "client") 0 ++ printed ++ []) ++ codes "end" ++ line_end)
    (lines-shown journal 0 1 answers lines)
