-- What is left of a session that is shut down.
use Rattle.std.specs.Prelude.{◌≡◌, ⊤, ℕ, ◌==◌, if◌then◌else◌, List, map, Option, Some, None}
use Rattle.std.specs.List.{AllZip}
use Rattle.pc_terms.specs.declared.problems.Problem.{Problem}
use Rattle.ask_history.specs.Sources.{Bytes, Sources}
use Rattle.ask_history.specs.Journal.{findings}
use Rattle.ask_history.specs.declared.answers.Answer.{Answer}
use Rattle.ask_history.specs.declared.calls.Call.{Call}
use Rattle.ask_history.specs.declared.script.Script.{Script}
use Rattle.counting_word.specs.declared.view.Entry.{Entry}
use Rattle.desk_driver.specs.Drives.{findings_in}
use Rattle.session_threads.specs.Clients.{IsMet, scripts_played, answers_played}
use Rattle.session_threads.specs.Sessions.{IsSession}
use Rattle.session_threads.specs.declared.clients.Played.{Played}
use Rattle.session_threads.specs.declared.left.Left.{Left}
use Rattle.session_threads.specs.declared.fate.Fate.{Fate}
use Rattle.session_threads.specs.declared.fate.Fate.TheVariants as fate

-- What became of clients that played: each has its answers, or one has none, or memory ran out.
abbrev pub IsFateOf : {B : Type 0} → List (Played B) → Fate → Type 0
IsFateOf clients (fate.Played scripts answers) = (scripts ≡ scripts_played clients) × (map Some answers ≡ answers_played clients)
IsFateOf clients fate.CutShort = ⊤
IsFateOf clients _ = ⊥

-- What became of the clients whose passes met one that had seen `first` and has then seen `last`. Out of memory for their threads
-- there are none.
abbrev pub FateFrom : {B : Type 0} → List Entry → List Entry → Option (List (Played B)) → Fate → Type 0
FateFrom first last (Some clients) became = (met : _) × AllZip (IsMet first last) clients met × IsFateOf met became
FateFrom first last None became = became ≡ fate.CutShort

-- what became of clients that did not begin, where the session was shut down at this journal index
abbrev pub fate_at : ℕ → Fate
fate_at index = if index == 0 then fate.Unbegun else fate.CutShort

module _ {Kind : Type 0} {At : Kind → Type 0} where
  -- What is left of a session, of which the engine's pass had seen this much: it is what the session comes to, and what was told
  -- of its checks is what they find.
  pub record IsLeft (answer_of : Sources → Call → Answer) (problems_of : Sources → Bytes → List Problem) (scripts : List Script) (seen : List Entry) (left : Left Kind At) : Type 0 where
    pub session : IsSession answer_of problems_of scripts left.fate left.journal.events left.found
    pub told : findings_in seen ≡ findings problems_of left.journal.events
