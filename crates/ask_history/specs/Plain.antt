-- The journal of call lines without inner lines.
use Rattle.std.specs.Prelude.{ℕ, ◌+◌, if◌then◌else◌, ◌==◌, List, [], ◌∷◌, ◌++◌}
use Rattle.std.specs.List.{list_any}
use Rattle.ask_history.specs.Journal.{accepted}
use Rattle.ask_history.specs.declared.calls.Call.{Call}
use Rattle.ask_history.specs.declared.events.Mark.{Mark}
use Rattle.ask_history.specs.declared.events.Mark.TheVariants as mark
use Rattle.ask_history.specs.declared.events.Event.{Event}
use Rattle.ask_history.specs.declared.events.Event.TheVariants.{Accept, Settle}
use Rattle.ask_history.specs.declared.script.Order.TheVariants as order
use Rattle.ask_history.specs.declared.script.Line.{Line}

-- the mark of a ticket, where memory ran out for these
abbrev pub mark_of : List ℕ → ℕ → Mark
mark_of without ticket = if list_any (λ t. t == ticket) without then mark.NoMemory else mark.Done

-- One call line, played on the journal so far: its call is accepted for client 0 under the next ticket, and settled.
abbrev pub play_call : List ℕ → List Event → ℕ → Call → List Event
play_call without journal tag call =
    (journal ++ Accept (accepted journal) 0 tag call ∷ []) ++ Settle (accepted journal) (mark_of without (accepted journal)) ∷ []

-- Call lines, played in order on the journal so far. Their tags count up from the first one's.
abbrev pub play : List ℕ → List Event → ℕ → List Call → List Event
play without journal tag [] = journal
play without journal tag (call ∷ calls) = play without (play_call without journal tag call) (tag + 1) calls

-- The journal of these call lines, in which the tickets of `without` are marked out of memory.
abbrev pub plain_journal : List ℕ → List Call → List Event
plain_journal without calls = play without [] 1 calls

-- a call as a line of a script
abbrev pub plain_line : Call → Line
plain_line call = record { level = 0; check = 0; turn = 0; order = order.Call call }
