-- What is known of the engine's part of a session that is shut down.
use Rattle.std.specs.Prelude.{◌≡◌, ℕ, true, false, IsTrue, List, [], map, Some}
use Rattle.pc_terms.specs.declared.problems.Problem.{Problem}
use Rattle.ask_history.specs.Sources.{Bytes, Sources}
use Rattle.ask_history.specs.Journal.{is_closed}
use Rattle.ask_history.specs.declared.answers.Answer.{Answer}
use Rattle.ask_history.specs.declared.calls.Call.{Call}
use Rattle.report_hub.specs.Telling.{Finding}
use Rattle.counting_word.specs.declared.view.View.{View}
use Rattle.counting_word.specs.History.{journal_of, entries_by, engine_number}
use Rattle.ask_desk.specs.Answers.{is_rightful}
use Rattle.desk_driver.specs.Drives.{AreRight, findings_in}

-- The engine's pass, which counts so many passes, has served from the beginning until the shutdown. All that is its own it has
-- seen, and each of it is right. Every check is its own, and so is each settling before the shutdown. The problems that its
-- checks found were kept, in order.
pub record HasServed (answer_of : Sources → Call → Answer) (problems_of : Sources → Bytes → List Problem) (made : ℕ) (view : View) (found : List (List Problem)) : Type 0 where
  pub named : view.name.number ≡ Some engine_number
  pub counted : view.name.made ≡ made
  pub own : view.name.own ≡ entries_by engine_number view.seen
  pub right : AreRight answer_of problems_of [] view.seen
  pub rightful : IsTrue (is_rightful false view.seen)
  pub shut : is_closed (journal_of view.seen) ≡ true
  pub found_is : found ≡ map (λ (finding : Finding). finding.1) (findings_in view.seen)
