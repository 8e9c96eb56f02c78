-- What serving puts into the history, tells and keeps.
use Rattle.std.specs.Prelude.{◌≡◌, ⊤, List, [], ◌∷◌, ◌++◌, map}
use Rattle.pc_terms.specs.declared.problems.Problem.{Problem}
use Rattle.ask_history.specs.Sources.{Bytes, Sources}
use Rattle.ask_history.specs.Journal.{after, reply}
use Rattle.ask_history.specs.declared.answers.Answer.{Answer}
use Rattle.ask_history.specs.declared.calls.Call.{Call}
use Rattle.ask_history.specs.declared.events.Event.{Event}
use Rattle.ask_history.specs.declared.events.Event.TheVariants.{Settle, Checked}
use Rattle.report_hub.specs.Telling.{Finding}
use Rattle.counting_word.specs.declared.view.Entry.{Entry}
use Rattle.counting_word.specs.declared.view.Found.{Found}
use Rattle.counting_word.specs.declared.view.Found.TheVariants.{Answered, Problems}
use Rattle.counting_word.specs.declared.view.View.{View}
use Rattle.counting_word.specs.History.{journal_of, engine_number}
use Rattle.engine_driver.specs.Runs.{my_findings}
use Rattle.desk_driver.specs.Seen.{seen_history}
use Rattle.desk_driver.specs.Serves.{Serves}

-- The findings of the engine's checks, in order.
abbrev pub findings_in : List Entry → List Finding
findings_in entries = my_findings (seen_history entries)

module _ (answer_of : Sources → Call → Answer) (problems_of : Sources → Bytes → List Problem) where
  -- What the engine's pass may put after a journal: a settling with the reply there, or a check with the problems of the file
  -- over the sources there.
  abbrev pub IsRight : List Event → Event → Found → Type 0
  IsRight journal (Settle t m) found = found ≡ Answered (reply answer_of journal t m)
  IsRight journal (Checked file) found = found ≡ Problems (problems_of (after journal) file)
  IsRight journal _ found = ⊥

  -- Of these entries, after this history, each of the engine's is right.
  abbrev pub AreRight : List Entry → List Entry → Type 0
  AreRight before [] = ⊤
  AreRight before (entry ∷ entries) = (entry.author ≡ engine_number → IsRight (journal_of before) entry.event entry.found) × AreRight (before ++ entry ∷ []) entries

  -- The pass went on with the history, and each entry that it made is right. The findings of its checks were told, and `found`
  -- grew by their problems.
  pub record Drives (Told : List Finding → Type 0) (old new : View) (found found' : List (List Problem)) : Type 0 where
    pub serves : Serves old new
    pub right : AreRight old.seen serves.entries
    pub told : Told (findings_in serves.entries)
    pub grew : found' ≡ found ++ map (λ (finding : Finding). finding.1) (findings_in serves.entries)
