-- What playing a schedule owes.
use Rattle.std.specs.Prelude.{◌≡◌, ◌<◌, ◌^◌, ⊤, ℕ, Bool, true, false, List, [], ◌++◌, length, map, All, Option, None, IsTrue}
use Rattle.std.specs.List.{list_all}
use Rattle.pc_terms.specs.declared.problems.Problem.{Problem}
use Rattle.ask_history.specs.Sources.{Bytes, Sources}
use Rattle.ask_history.specs.Journal.{all_settled, out_of_memory, after, replies, findings}
use Rattle.ask_history.specs.Legal.{is_legal}
use Rattle.ask_history.specs.Engine.{EngineState, has_file_names}
use Rattle.ask_history.specs.Schedule.{journal_of}
use Rattle.ask_history.specs.declared.calls.Call.{Call}
use Rattle.ask_history.specs.declared.answers.Answer.{Answer}
use Rattle.ask_history.specs.declared.events.Event.{Event}
use Rattle.ask_history.specs.declared.events.Event.TheVariants.{Settle}
use Rattle.ask_history.specs.declared.script.Order.{Order}
use Rattle.ask_history.specs.declared.script.Order.TheVariants as order
use Rattle.ask_history.specs.declared.script.Line.{Line}
use Rattle.work_queue.specs.Reloads.{reloaded_by}
use Rattle.schedule_player.specs.declared.played.Played.{Played}

-- ---- what a line may be

-- A call names files by names that files may have, and reloads fewer than 2^32 pairs.
pub record CanPost (call : Call) : Type 0 where
  pub names : has_file_names call ≡ true
  pub few : length (reloaded_by call) < 2 ^ 32

abbrev pub CanPlay : Order → Type 0
CanPlay (order.Call call) = CanPost call
CanPlay _ = ⊤

abbrev pub CanPlayAll : List Line → Type 0
CanPlayAll lines = All (λ line. CanPlay line.order) lines

-- ---- what is owed

abbrev pub is_settle : Event → Bool
is_settle (Settle ticket mark) = true
is_settle _ = false

-- The journal is a beginning of one that the schedule has, and then only calls are settled.
pub record IsCutShort (lines : List Line) (journal : List Event) : Type 0 where
  pub without : List ℕ
  pub front : List Event
  pub others : List Event
  pub settlings : List Event
  pub of_schedule : journal_of without lines ≡ front ++ others
  pub ends : journal ≡ front ++ settlings
  pub only : list_all is_settle settlings ≡ true

-- The engine has these sources, no ask is open, and nothing is staged.
pub record IsAtRest (state : EngineState) (in_force : Sources) : Type 0 where
  pub sources : state.sources ≡ in_force
  pub asks : state.asks ≡ []
  pub staged : state.staged ≡ None

-- What was played of these lines, and the engine after it.
pub record PlayOwes (answer_of : Sources → Call → Answer) (problems_of : Sources → Bytes → List Problem) (lines : List Line) (played : Played) (state : EngineState) : Type 0 where
  -- where all lines were played, the journal is that of the schedule
  pub whole : played.whole ≡ true → played.journal.events ≡ journal_of (out_of_memory played.journal.events) lines
  -- else it is a beginning of it, after which what was open is settled
  pub cut : played.whole ≡ false → IsCutShort lines played.journal.events
  pub legal : IsTrue (is_legal played.journal.events)
  pub all_settled : all_settled played.journal.events ≡ true
  -- the answers of the calls, in the order in which they were accepted
  pub answered : played.answers ≡ replies answer_of played.journal.events
  -- the problems of the checked files, in order
  pub found : played.problems ≡ map (λ finding. finding.1) (findings problems_of played.journal.events)
  -- the engine has the sources after the journal, and rests
  pub engine : IsAtRest state (after played.journal.events)
