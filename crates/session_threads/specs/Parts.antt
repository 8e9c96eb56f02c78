-- What is known of a session's passes before it, and of its parts once it is shut down.
use Rattle.std.specs.Prelude.{◌≡◌, ⊤, ℕ, ◌+◌, List, length, Some, IfSome}
use Rattle.pc_terms.specs.declared.problems.Problem.{Problem}
use Rattle.pc_outside.specs.Outside.{Rose}
use Rattle.ask_history.specs.Sources.{Bytes, Sources}
use Rattle.ask_history.specs.declared.answers.Answer.{Answer}
use Rattle.ask_history.specs.declared.calls.Call.{Call}
use Rattle.ask_history.specs.declared.script.Script.{Script}
use Rattle.counting_word.specs.declared.view.View.{View}
use Rattle.counting_word.specs.History.{journal_of}
use Rattle.work_queue.specs.Indexes.{close_index}
use Rattle.session_threads.specs.Passes.{IsNew, IsEngines}
use Rattle.session_threads.specs.Clients.{AreReady, scripts_to_play, scripts_played}
use Rattle.session_threads.specs.Ended.{IsShut, HaveEnded}
use Rattle.session_threads.specs.Served.{HasServed}
use Rattle.session_threads.specs.declared.closing.Ended.{Ended as EndedPart}
use Rattle.session_threads.specs.declared.passes.Passes.{Passes}
use Rattle.session_threads.specs.declared.parts.ClientsPart.{ClientsPart}
use Rattle.session_threads.specs.declared.parts.ClientsPart.TheVariants.{Ended, Unbegun}
use Rattle.session_threads.specs.declared.parts.Parts.{Parts}

module _ {B : Type 0} where
  -- The passes of a session of these scripts. The clients have the numbers from 0, then come the closing pass and the spare one.
  pub record ArePasses (scripts : List Script) (passes : Passes B) : Type 0 where
    pub scripted : scripts_to_play passes.clients.items ≡ scripts
    pub ready : AreReady passes.clients.items
    pub closing : IsNew passes.closing (length scripts)
    pub spare : IsNew passes.spare (length scripts + 1)
    pub engine : IsEngines passes.engine.pass passes.engine.made (length scripts + 2)

  -- The clients of these scripts ended, and the spare pass made nothing.
  pub record AllEnded (scripts : List Script) (ended : EndedPart B) (spare : View) : Type 0 where
    pub ended_is : HaveEnded (length scripts) ended
    pub scripted : IfSome ended.clients (λ all. scripts_played all.items ≡ scripts)
    pub spare_is : IsNew spare (length scripts + 1)

-- A pass has shut the session down at this journal index, where it was not.
pub record ShutAt (view : View) (index : ℕ) : Type 0 where
  pub shut : IsShut view
  pub index_is : close_index (journal_of view.seen) ≡ Some index

module _ {B : Type 0} where
  abbrev pub IsClientsPart : List Script → ClientsPart B → View → Type 0
  IsClientsPart scripts (Ended ended) spare = AllEnded scripts ended spare
  IsClientsPart scripts (Unbegun index) spare = ShutAt spare index

  -- The clients did not begin only where a thread was refused.
  abbrev pub RoseIfRefused : ClientsPart B → ℕ → ℕ → Type 0
  RoseIfRefused (Ended ended) before now = ⊤
  RoseIfRefused (Unbegun index) before now = Rose before now

module _ {B : Type 0} {Kind : Type 0} {At : Kind → Type 0} where
  pub record AreParts (answer_of : Sources → Call → Answer) (problems_of : Sources → Bytes → List Problem) (scripts : List Script) (parts : Parts B Kind At) : Type 0 where
    pub served : HasServed answer_of problems_of (length scripts + 2) parts.served.pass.pass parts.served.found
    pub clients : IsClientsPart scripts parts.clients parts.spare
