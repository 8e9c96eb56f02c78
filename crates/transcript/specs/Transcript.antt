-- What is printed of a session: its journal, and what became of each line of its clients.
use Rattle.std.specs.Prelude.{ℕ, ◌+◌, if◌then◌else◌, List, [], ◌∷◌, ◌++◌, length, codes, Option, Some, None, is_some}
use Rattle.std.specs.Fmt.{decimal}
use Rattle.pc_terms.specs.Bytes.{Bytes, line_end}
use Rattle.pc_terms.specs.declared.problems.Problem.{Problem}
use Rattle.ask_history.specs.Journal.{ticket_of}
use Rattle.ask_history.specs.Indices.{cancel_index, settle_index, close_index}
use Rattle.ask_history.specs.Nested.{number_after}
use Rattle.ask_history.specs.declared.answers.Answer.{Answer}
use Rattle.ask_history.specs.declared.events.Event.{Event}
use Rattle.ask_history.specs.declared.script.Order.{Order}
use Rattle.ask_history.specs.declared.script.Order.TheVariants.{Call, Cancel, Close}
use Rattle.ask_history.specs.declared.script.Line.{Line}
use Rattle.ask_history.specs.declared.script.Script.{Script}
use Rattle.transcript.specs.Printed.{next, without_first, count_line, events_text, answer_text}

-- ---- what is printed of a line

-- NUMBER¦ANSWER, of the first answer that is left; nothing where none is
abbrev pub answered_text : ℕ → List Answer → Bytes
answered_text number [] = []
answered_text number (first ∷ answers) = decimal number ++ next ++ answer_text first

-- NUMBER¦refused¦closed¦INDEX, with the journal index of Close; nothing where none stands
abbrev pub refused_text : ℕ → Option ℕ → Bytes
refused_text number None = []
refused_text number (Some index) = decimal number ++ next ++ codes "refused" ++ next ++ codes "closed" ++ next ++ decimal index ++ line_end

-- What the call line of a number prints, by its ticket: its answer where it was accepted and is settled.
abbrev pub call_text : List Event → ℕ → List Answer → Option ℕ → Bytes
call_text journal number answers None = refused_text number (close_index journal)
call_text journal number answers (Some ticket) = if is_some (settle_index journal ticket) then answered_text number answers else []

-- marked¦INDEX of the ticket's Cancel, else late¦INDEX of its Settle, else none
abbrev pub cancel_outcome : Option ℕ → Option ℕ → Bytes
cancel_outcome (Some cancel) settle = codes "marked" ++ next ++ decimal cancel
cancel_outcome None (Some settle) = codes "late" ++ next ++ decimal settle
cancel_outcome None None = codes "none"

abbrev pub outcome_of : List Event → Option ℕ → Bytes
outcome_of journal None = codes "none"
outcome_of journal (Some ticket) = cancel_outcome (cancel_index journal ticket) (settle_index journal ticket)

-- cancel¦NUMBER¦OUTCOME
abbrev pub cancel_text : ℕ → Bytes → Bytes
cancel_text number outcome = codes "cancel" ++ next ++ decimal number ++ next ++ outcome ++ line_end

-- close¦INDEX; nothing where no Close stands
abbrev pub close_text : Option ℕ → Bytes
close_text None = []
close_text (Some index) = codes "close" ++ next ++ decimal index ++ line_end

-- What a client's line prints, where its call lines so far and itself are so many. `wait` and `idle` print nothing.
abbrev pub line_printed : List Event → ℕ → ℕ → List Answer → Order → Bytes
line_printed journal client number answers (Call call) = call_text journal number answers (ticket_of journal client number)
line_printed journal client number answers (Cancel tag) = cancel_text tag (outcome_of journal (ticket_of journal client tag))
line_printed journal client number answers Close = close_text (close_index journal)
line_printed _ _ _ _ _ = []

-- ---- what is printed of a client

-- the answers that are left after a call line, by its ticket
abbrev pub answers_left : List Event → List Answer → Option ℕ → List Answer
answers_left journal answers None = answers
answers_left journal answers (Some ticket) = if is_some (settle_index journal ticket) then without_first answers else answers

abbrev pub answers_after : List Event → ℕ → ℕ → List Answer → Order → List Answer
answers_after journal client number answers (Call call) = answers_left journal answers (ticket_of journal client number)
answers_after _ _ _ answers _ = answers

-- What these lines print in order. The next call line has this number, and these are the answers of the calls from
-- there on that are accepted and settled.
abbrev pub lines_printed : List Event → ℕ → ℕ → List Answer → List Line → Bytes
lines_printed journal client number answers [] = []
lines_printed journal client number answers (line ∷ lines) =
    line_printed journal client number answers line.order
    ++ lines_printed journal client (number_after line.order number) (answers_after journal client number answers line.order) lines

-- client¦C, and what the lines of its script print. `answers` has a row for each client, of which this is the first one's.
abbrev pub first_answers : List (List Answer) → List Answer
first_answers [] = []
first_answers (answers ∷ rows) = answers

abbrev pub clients_text : List Event → ℕ → List (List Answer) → List Script → Bytes
clients_text journal client rows [] = []
clients_text journal client rows (script ∷ scripts) =
    count_line (codes "client") client ++ lines_printed journal client 1 (first_answers rows) script.lines
    ++ clients_text journal (client + 1) (without_first rows) scripts

-- ---- the session

-- The journal, and then each client in order. `answers` has a row for each client: the answers of its calls that were
-- accepted and are settled, in the order of its script. `problems` has a row for each check in order.
abbrev pub session_text : List Script → List Event → List (List Answer) → List (List Problem) → Bytes
session_text scripts journal answers problems =
    count_line (codes "journal") (length journal) ++ events_text 0 problems journal
    ++ clients_text journal 0 answers scripts
    ++ codes "end" ++ line_end
