-- What holds of a session and its engine between two steps.
use Rattle.std.specs.Prelude.{◌≡◌, ⊤, ℕ, Bool, true, false, if◌then◌else◌, List, [], ◌∷◌, ◌++◌, length, map, All, slice_index_or, Option, Some, None, unwrap_or}
use Rattle.pc_terms.specs.declared.problems.Problem.{Problem}
use Rattle.ask_history.specs.Sources.{Bytes, Sources, is_mutation}
use Rattle.ask_history.specs.Journal.{accepted, call_of, ticket_of, is_closed, after, checked, reply_in, findings}
use Rattle.ask_history.specs.Checks.{due}
use Rattle.ask_history.specs.Engine.{EngineState}
use Rattle.ask_history.specs.declared.calls.Call.{Call}
use Rattle.ask_history.specs.declared.answers.Answer.{Answer}
use Rattle.ask_history.specs.declared.answers.Answer.TheVariants as answer
use Rattle.ask_history.specs.declared.events.Event.{Event}
use Rattle.ask_history.proofs.Underway.{Holds}
use Rattle.schedule_player.specs.Around.{asks_of, fed_of, AreStacked}
use Rattle.schedule_player.specs.SessionState.{SessionState}
use Rattle.schedule_player.specs.declared.session.Pending.{Pending}

-- the answer of a ticket; where it is open, the one that a shutdown would give it
abbrev pub answer_at : (Sources → Call → Answer) → List Event → ℕ → Answer
answer_at answer_of journal ticket = unwrap_or (reply_in answer_of journal ticket) answer.Closed

-- an open ask is an ask that was accepted
pub record IsAsked (journal : List Event) (ask : ℕ × Call) : Type 0 where
  pub call : call_of journal ask.0 ≡ Some ask.1
  pub asks : is_mutation ask.1 ≡ false

-- What is kept beside a journal: the tickets of the call lines by number, the answers by ticket, the problems of the checks.
pub record IsNoted (answer_of : Sources → Call → Answer) (problems_of : Sources → Bytes → List Problem) (session : SessionState) : Type 0 where
  pub numbered : (k : ℕ) → slice_index_or session.tickets k None ≡ ticket_of session.journal 0 k
  pub counted : length session.answers ≡ accepted session.journal
  pub answers : (t : ℕ) → slice_index_or session.answers t answer.Closed ≡ answer_at answer_of session.journal t
  pub problems : session.problems ≡ map (λ finding. finding.1) (findings problems_of session.journal)

-- The engine has the asks that are open and were fed, over the sources in force.
pub record IsServed (session : SessionState) (state : EngineState) : Type 0 where
  pub fed : map (λ ask. ask.0) state.asks ≡ (if session.closed then [] else fed_of session.outers)
  pub asked : All (IsAsked session.journal) state.asks
  pub staged : state.staged ≡ None
  pub sources : state.sources ≡ after session.journal

pub record InStep (answer_of : Sources → Call → Answer) (problems_of : Sources → Bytes → List Problem) (session : SessionState) (state : EngineState) : Type 0 where
  pub holds : Holds (asks_of session.outers) session.journal
  pub stacked : AreStacked session.outers
  pub closed : session.closed ≡ is_closed session.journal
  pub noted : IsNoted answer_of problems_of session
  pub served : IsServed session state

-- The engine has checked what is noted, and, where it has told of a check that is not, the first file due.
abbrev pub IsAhead : (Sources → Bytes → List Problem) → List Event → Option Pending → List Bytes → Type 0
IsAhead problems_of journal None names = names ≡ checked journal
IsAhead problems_of journal (Some found) names =
    (names ≡ checked journal ++ found.file ∷ []) × (found.problems ≡ problems_of (after journal) found.file)
    × (rest : List Bytes) × (due journal ≡ found.file ∷ rest)

pub record ChecksInStep (problems_of : Sources → Bytes → List Problem) (session : SessionState) (state : EngineState) : Type 0 where
  pub skipped : state.skipped ≡ []
  pub ahead : IsAhead problems_of session.journal session.found state.checked
