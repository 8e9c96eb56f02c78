-- What a journal says: its calls, what became of each, the sources that stand after it, and the answer of a call
-- that settles after it. A journal is the list of its events; an event's position in it, from 0, is its journal index.
use Rattle.std.specs.Prelude.{ℕ, Bool, true, false, not, ◌&&◌, if◌then◌else◌, ◌==◌, List, [], ◌∷◌, ◌++◌, count_by, Option, Some, None, is_some, is_none, unwrap_or}
use Rattle.std.specs.List.{list_any, list_all}
use Rattle.std.specs.Option.{option_or}
use Rattle.pc_terms.specs.declared.problems.Problem.{Problem}
use Rattle.ask_history.specs.Sources.{Bytes, Sources, is_mutation, mutated}
use Rattle.ask_history.specs.Walk.{along}
use Rattle.ask_history.specs.declared.calls.Call.{Call}
use Rattle.ask_history.specs.declared.events.Mark.{Mark}
use Rattle.ask_history.specs.declared.events.Mark.TheVariants as mark
use Rattle.ask_history.specs.declared.events.Event.{Event}
use Rattle.ask_history.specs.declared.events.Event.TheVariants.{Accept, Cancel, Close, Settle, Checked}
use Rattle.ask_history.specs.declared.answers.Answer.{Answer}
use Rattle.ask_history.specs.declared.answers.Answer.TheVariants as answer

-- ---- single events

abbrev pub is_accept : Event → Bool
is_accept (Accept ticket client tag call) = true
is_accept _ = false

abbrev pub is_close : Event → Bool
is_close Close = true
is_close _ = false

abbrev pub cancels : ℕ → Event → Bool
cancels t (Cancel ticket) = ticket == t
cancels _ _ = false

abbrev pub settles : ℕ → Event → Bool
settles t (Settle ticket mark) = ticket == t
settles _ _ = false

-- the call that an event accepts under a ticket
abbrev pub call_under : ℕ → Event → Option Call
call_under t (Accept ticket client tag call) = if ticket == t then Some call else None
call_under _ _ = None

-- ---- calls and what became of them

abbrev pub first_of_two : Option Call → Option Call → Option Call
first_of_two (Some call) later = Some call
first_of_two None later = later

-- The call of a ticket, where one was accepted.
abbrev pub call_of : List Event → ℕ → Option Call
call_of [] t = None
call_of (event ∷ journal) t = first_of_two (call_under t event) (call_of journal t)

-- the ticket under which an event accepts the call of a client with a tag
abbrev pub ticket_under : ℕ → ℕ → Event → Option ℕ
ticket_under c k (Accept ticket client tag call) = if (client == c) && (tag == k) then Some ticket else None
ticket_under _ _ _ = None

-- The ticket of the call of a client with a tag, where it was accepted.
abbrev pub ticket_of : List Event → ℕ → ℕ → Option ℕ
ticket_of [] c k = None
ticket_of (event ∷ journal) c k = option_or (ticket_under c k event) (ticket_of journal c k)

-- How many calls were accepted; the next ticket.
abbrev pub accepted : List Event → ℕ
accepted journal = count_by is_accept journal

abbrev pub is_closed : List Event → Bool
is_closed journal = list_any is_close journal

abbrev pub is_cancelled : List Event → ℕ → Bool
is_cancelled journal t = list_any (cancels t) journal

abbrev pub is_settled : List Event → ℕ → Bool
is_settled journal t = list_any (settles t) journal

-- A ticket is open where its call was accepted and is not settled.
abbrev pub is_open : List Event → ℕ → Bool
is_open journal t = is_some (call_of journal t) && not (is_settled journal t)

-- The tickets of the accepted calls, in order.
abbrev pub tickets : List Event → List ℕ
tickets [] = []
tickets (Accept ticket client tag call ∷ journal) = ticket ∷ tickets journal
tickets (_ ∷ journal) = tickets journal

-- Every accepted call is settled.
abbrev pub all_settled : List Event → Bool
all_settled journal = list_all (is_settled journal) (tickets journal)

-- The tickets whose settling is marked out of memory.
abbrev pub out_of_memory : List Event → List ℕ
out_of_memory [] = []
out_of_memory (Settle ticket mark.NoMemory ∷ journal) = ticket ∷ out_of_memory journal
out_of_memory (_ ∷ journal) = out_of_memory journal

-- ---- sources and answers

abbrev pub by_mark : Mark → Option Answer
by_mark mark.Done = None
by_mark mark.NoMemory = Some answer.NoMemory

-- What is answered in place of what was found, for a call that settles after this journal: `Closed` where the
-- session is shut down, else `Cancelled` where the call is cancelled, else `NoMemory` where its mark says so.
abbrev pub forestalled : List Event → ℕ → Mark → Option Answer
forestalled journal t m = if is_closed journal then Some answer.Closed else (if is_cancelled journal t then Some answer.Cancelled else by_mark m)

abbrev pub mutation_only : Option Call → Option Call
mutation_only None = None
mutation_only (Some call) = if is_mutation call then Some call else None

-- The mutation that a settling after this journal puts in force, if it does: one whose answer is Done.
abbrev pub taking_effect : List Event → ℕ → Mark → Option Call
taking_effect journal t m = if is_none (forestalled journal t m) then mutation_only (call_of journal t) else None

abbrev pub changed : Sources → Option Call → Sources
changed files None = files
changed files (Some call) = mutated files call

-- what an event does to the sources, after the events before it
abbrev pub sources_step : List Event → Sources → Event → Sources
sources_step before files (Settle ticket m) = changed files (taking_effect before ticket m)
sources_step before files _ = files

-- The sources after a journal: the mutations whose answer is Done, applied in the order of their settling.
abbrev pub after : List Event → Sources
after journal = along sources_step [] journal

-- what an event does to the files that are checked
abbrev pub checked_step : List Event → List Bytes → Event → List Bytes
checked_step before files (Settle ticket m) = if is_some (taking_effect before ticket m) then [] else files
checked_step before files (Checked file) = files ++ file ∷ []
checked_step before files _ = files

-- The files that were checked since a mutation last took effect.
abbrev pub checked : List Event → List Bytes
checked journal = along checked_step [] journal

abbrev pub found : (Sources → Call → Answer) → Sources → Option Call → Answer
found answer_of files None = answer.NoUnit
found answer_of files (Some call) = if is_mutation call then answer.Done else answer_of files call

-- The answer of a call that settles after this journal. `answer_of` says what an ask is answered over given sources.
abbrev pub reply : (Sources → Call → Answer) → List Event → ℕ → Mark → Answer
reply answer_of journal t m = unwrap_or (forestalled journal t m) (found answer_of (after journal) (call_of journal t))

-- what an event gives a ticket, after the events before it
abbrev pub reply_step : (Sources → Call → Answer) → ℕ → List Event → Option Answer → Event → Option Answer
reply_step answer_of t before given (Settle ticket m) = if ticket == t then Some (reply answer_of before t m) else given
reply_step answer_of t before given _ = given

-- The answer of a ticket in a journal, where it is settled there.
abbrev pub reply_in : (Sources → Call → Answer) → List Event → ℕ → Option Answer
reply_in answer_of journal t = along (reply_step answer_of t) None journal

abbrev pub onto : Option Answer → List Answer → List Answer
onto None answers = answers
onto (Some given) answers = given ∷ answers

abbrev pub replies_to : (Sources → Call → Answer) → List Event → List ℕ → List Answer
replies_to answer_of journal [] = []
replies_to answer_of journal (t ∷ ts) = onto (reply_in answer_of journal t) (replies_to answer_of journal ts)

-- The answers of the settled calls of a journal, in the order in which they were accepted.
abbrev pub replies : (Sources → Call → Answer) → List Event → List Answer
replies answer_of journal = replies_to answer_of journal (tickets journal)

-- ---- checks

-- what an event adds to what was found, after the events before it
abbrev pub finding_step : (Sources → Bytes → List Problem) → List Event → List (Bytes × List Problem) → Event → List (Bytes × List Problem)
finding_step problems_of before found (Checked file) = found ++ (file, problems_of (after before) file) ∷ []
finding_step problems_of before found _ = found

-- The checked files of a journal in order, each with its problems over the sources in force there. `problems_of` says what
-- the problems of a file are over given sources.
abbrev pub findings : (Sources → Bytes → List Problem) → List Event → List (Bytes × List Problem)
findings problems_of journal = along (finding_step problems_of) [] journal
