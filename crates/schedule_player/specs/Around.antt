-- What becomes of the lines that are left, where some stand under others that are played.
use Rattle.std.specs.Prelude.{◌≡◌, ⊤, ℕ, ◌+◌, ◌==◌, Bool, true, false, not, ◌&&◌, ◌||◌, if◌then◌else◌, nat_lt, nat_le, List, [], ◌∷◌, ◌++◌, All, Option, Some, None}
use Rattle.std.specs.List.{list_any}
use Rattle.ask_history.specs.Journal.{is_closed, is_open}
use Rattle.ask_history.specs.Checks.{check_done}
use Rattle.ask_history.specs.Nested.{Nested, End, Then, deeper, others}
use Rattle.ask_history.specs.Plain.{mark_of}
use Rattle.ask_history.specs.Schedule.{Part, Play, all_of, settle_open, play_checks, parts_of, journal_of}
use Rattle.ask_history.specs.declared.events.Mark.{Mark}
use Rattle.ask_history.specs.declared.events.Event.{Event}
use Rattle.ask_history.specs.declared.events.Event.TheVariants.{Settle}
use Rattle.ask_history.specs.declared.script.Line.{Line}
use Rattle.schedule_player.specs.declared.outers.Work.{Work}
use Rattle.schedule_player.specs.declared.outers.Work.TheVariants.{Ask, Checks, Check, Beside, Passed}
use Rattle.schedule_player.specs.declared.outers.Outer.{Outer}

-- ---- lines that are left under one

-- Parts that are left, where the check of this number has begun.
abbrev pub in_check : ℕ → List Part → Play
in_check number [] journal = play_checks (number + 1) [] (check_done journal)
in_check number (part ∷ parts) journal =
    if number == part.check then play_checks (number + 1) parts (check_done (part.play journal))
    else play_checks (number + 1) (part ∷ parts) (check_done journal)

-- The parts that are left under a line, and then its end.
abbrev pub ending : List ℕ → Work → List Part → Play
ending without (Ask ticket is_fed turns) parts journal = settle_open ticket (mark_of without ticket) (all_of parts journal)
ending without (Checks next) parts journal = play_checks next parts journal
ending without (Check number turns) parts journal = in_check number parts journal
ending without Beside parts journal = all_of parts journal
ending without Passed parts journal = journal

-- The lines that are left, some of them under lines that are played. The innermost of these is first.
abbrev pub resume : List ℕ → List Outer → Nested → Play
resume without [] rest journal = all_of (parts_of without rest) journal
resume without (outer ∷ outers) rest journal =
    resume without outers (others outer.level rest) (ending without outer.work (parts_of without (deeper outer.level rest)) journal)

-- ---- marks

-- an event has the mark that the tickets out of memory give it
abbrev pub HasMark : List ℕ → Event → Type 0
HasMark without (Settle ticket mark) = mark_of without ticket ≡ mark
HasMark without _ = ⊤

abbrev pub HasMarks : List ℕ → List Event → Type 0
HasMarks without journal = All (HasMark without) journal

-- Whatever is out of memory, if the journal so far is right in that: what is left makes it the journal of the schedule.
pub record LeadsTo (lines : List Line) (outers : List Outer) (rest : Nested) (journal : List Event) : Type 0 where
  pub leads : (without : List ℕ) → HasMarks without journal → resume without outers rest journal ≡ journal_of without lines

-- No line of this level or a deeper one is next.
pub record ComesAt (level : ℕ) (rest : Nested) : Type 0 where
  pub none : (at : ℕ) → nat_le level at ≡ true → deeper at rest ≡ End

-- ---- the asks around

abbrev pub ask_onto : Work → List ℕ → List ℕ
ask_onto (Ask ticket is_fed turns) tickets = ticket ∷ tickets
ask_onto _ tickets = tickets

-- The asks around the next line, the innermost first.
abbrev pub asks_of : List Outer → List ℕ
asks_of [] = []
asks_of (outer ∷ outers) = ask_onto outer.work (asks_of outers)

abbrev pub fed_after : Work → List ℕ → List ℕ
fed_after (Ask ticket is_fed turns) tickets = if is_fed then tickets ++ ticket ∷ [] else tickets
fed_after _ tickets = tickets

-- Those that the engine has, the innermost last.
abbrev pub fed_of : List Outer → List ℕ
fed_of [] = []
fed_of (outer ∷ outers) = fed_after outer.work (fed_of outers)

abbrev pub is_ask : Work → Bool
is_ask (Ask ticket is_fed turns) = true
is_ask _ = false

abbrev pub top_under_ask : List Outer → Bool
top_under_ask [] = false
top_under_ask (outer ∷ outers) = outer.under_ask

abbrev pub top_work : List Outer → Work
top_work [] = Beside
top_work (outer ∷ outers) = outer.work

-- An ask has a ticket of its own, and checks stand under no ask.
abbrev pub StandsOn : Work → List ℕ → Type 0
StandsOn (Ask ticket is_fed turns) asks = list_any (λ u. u == ticket) asks ≡ false
StandsOn (Checks next) asks = asks ≡ []
StandsOn (Check number turns) asks = asks ≡ []
StandsOn _ asks = ⊤

abbrev pub AreStacked : List Outer → Type 0
AreStacked [] = ⊤
AreStacked (outer ∷ outers) =
    StandsOn outer.work (asks_of outers) × (outer.under_ask ≡ (top_under_ask outers || is_ask outer.work)) × AreStacked outers

-- ---- the innermost line

abbrev pub first_of : List Outer → Option Outer
first_of [] = None
first_of (outer ∷ outers) = Some outer

-- the lines around the innermost one
abbrev pub around : List Outer → List Outer
around [] = []
around (outer ∷ outers) = outers

-- a line around those to come, of which nothing was played
abbrev pub onto : ℕ → List Outer → List Outer
onto level outers = record { level = level; under_ask = top_under_ask outers; work = Passed } ∷ outers

-- something else becomes of the lines under the innermost one
abbrev pub with_work : Work → List Outer → List Outer
with_work work [] = []
with_work work (outer ∷ outers) = record outer { under_ask = outer.under_ask || is_ask work; work = work } ∷ outers
