-- The journal of a schedule: its lines are played in order, on a journal that starts empty.
use Rattle.std.specs.Prelude.{ℕ, ◌+◌, ◌-◌, not, ◌&&◌, ◌==◌, if◌then◌else◌, List, [], ◌∷◌, ◌++◌, length, Option, Some, None}
use Rattle.ask_history.specs.Sources.{is_mutation}
use Rattle.ask_history.specs.Journal.{accepted, is_closed, is_cancelled, is_open, ticket_of}
use Rattle.ask_history.specs.Closing.{after_close}
use Rattle.ask_history.specs.Checks.{due, check_begins, check_done, checks_alone}
use Rattle.ask_history.specs.Nested.{Nested, End, Then, nested}
use Rattle.ask_history.specs.Plain.{mark_of}
use Rattle.ask_history.specs.declared.calls.Call.{Call}
use Rattle.ask_history.specs.declared.events.Mark.{Mark}
use Rattle.ask_history.specs.declared.events.Event.{Event}
use Rattle.ask_history.specs.declared.events.Event.TheVariants.{Accept, Settle}
use Rattle.ask_history.specs.declared.events.Event.TheVariants as event
use Rattle.ask_history.specs.declared.script.Order.{Order}
use Rattle.ask_history.specs.declared.script.Order.TheVariants as order
use Rattle.ask_history.specs.declared.script.Line.{Line}

-- What is made of the journal so far where lines are played on it.
abbrev pub Play : Type 0
Play = List Event → List Event

-- Inner lines of one check, played in order. The lines under an ask, and those of level 0, are of check 0.
pub record Part : Type 0 where
  pub check : ℕ
  pub play : Play

abbrev pub all_of : List Part → Play
all_of [] journal = journal
all_of (part ∷ parts) journal = all_of parts (part.play journal)

-- a line before the parts of the lines after it
abbrev pub before : ℕ → Play → List Part → List Part
before check play [] = record { check = check; play = play } ∷ []
before check play (part ∷ parts) =
    if check == part.check then record { check = check; play = λ journal. part.play (play journal) } ∷ parts
    else record { check = check; play = play } ∷ part ∷ parts

-- ---- what each line does

abbrev pub settle_open : ℕ → Mark → Play
settle_open ticket mark journal = if is_open journal ticket then journal ++ Settle ticket mark ∷ [] else journal

-- Under the next ticket a mutation is settled at once; an ask plays its inner lines, and is settled if it is open still.
abbrev pub accept_call : ℕ → Mark → ℕ → Call → Play → Play
accept_call ticket mark tag call inner journal =
    if is_mutation call then (journal ++ Accept ticket 0 tag call ∷ []) ++ Settle ticket mark ∷ []
    else settle_open ticket mark (inner (journal ++ Accept ticket 0 tag call ∷ []))

-- Where Close stands a call adds nothing, and its inner lines are played in its place. The mark is `NoMemory` for the
-- tickets of `without`.
abbrev pub play_call : List ℕ → ℕ → Call → Play → Play
play_call without tag call inner journal =
    if is_closed journal then inner journal
    else accept_call (accepted journal) (mark_of without (accepted journal)) tag call inner journal

-- A cancel is added where the ticket is open, once.
abbrev pub cancel_ticket : Option ℕ → Play
cancel_ticket None journal = journal
cancel_ticket (Some ticket) journal =
    if is_open journal ticket && not (is_cancelled journal ticket) then journal ++ event.Cancel ticket ∷ [] else journal

-- The checks from this number on, with the inner lines that are left. A check plays its own ones and is then done. Where
-- no further check begins, all that are left are played in order.
abbrev pub play_checks : ℕ → List Part → Play
play_checks next [] journal = checks_alone (length (due journal)) journal
play_checks next (part ∷ parts) journal =
    let reached : List Event = checks_alone (part.check - next) journal in
    if check_begins reached then play_checks (part.check + 1) parts (check_done (part.play reached)) else all_of (part ∷ parts) reached

-- A line with its number and its inner lines. `wait` is of the scripts of clients, and adds nothing.
abbrev pub play_line : List ℕ → ℕ → Order → List Part → Play
play_line without number (order.Call call) inner journal = play_call without number call (all_of inner) journal
play_line without number (order.Cancel tag) inner journal = cancel_ticket (ticket_of journal 0 tag) journal
play_line without number order.Close inner journal = after_close journal
play_line without number (order.Wait tag) inner journal = journal
play_line without number order.Idle inner journal = play_checks 0 inner journal

-- ---- the whole

abbrev pub parts_of : List ℕ → Nested → List Part
parts_of without End = []
parts_of without (Then number line inner rest) =
    before line.check (play_line without number line.order (parts_of without inner)) (parts_of without rest)

-- The journal of a schedule with these lines, in which the tickets of `without` are marked out of memory.
abbrev pub journal_of : List ℕ → List Line → List Event
journal_of without lines = all_of (parts_of without (nested 1 lines)) []
