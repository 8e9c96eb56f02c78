-- What the two kinds of turn come to.
use Rattle.std.specs.Prelude.{◌≡◌, ◌∷◌, ◌++◌, ℕ, List, []}
use Rattle.ask_history.specs.Engine.{IsOnTop, IsTicketOnTop}
use Rattle.ask_history.specs.Sources.{Sources}
use Rattle.ask_history.specs.declared.calls.Call.{Call}
use Rattle.ask_history.specs.declared.engine.Turn.{Turn}
use Rattle.ask_history.specs.declared.engine.Turn.TheVariants as turn
use Rattle.compiler_loop.specs.LoadedView.{files_of, names_of, due_of, outcomes_of}
use Rattle.compiler_loop.specs.ThinAnswer.{thin_answer}
use Rattle.compiler_loop.specs.ThinProblems.{map_problems}
use Rattle.compiler_loop.specs.declared.checks.Outcome.{Outcome}
use Rattle.compiler_loop.specs.declared.checks.Outcome.TheVariants.{Checked, Skipped}
use Rattle.compiler_loop.specs.declared.loaded.LoadedFiles.{LoadedFiles}

-- the ask on top is answered, or memory ran out for it
abbrev pub AnswersTop : Sources → List (ℕ × Call) → Turn → Type 0
AnswersTop sources asks (turn.Ready ticket found) = (call : Call) × IsOnTop asks (ticket, call) × (found ≡ thin_answer sources call)
AnswersTop sources asks (turn.NoMemory ticket) = IsTicketOnTop asks ticket
AnswersTop sources asks _ = ⊥

-- the first file that is due is no longer due, and this is what its check came to
pub record Takes (old : LoadedFiles) (file : List ℕ) (outcome : Outcome) (new : LoadedFiles) : Type 0 where
  pub due : due_of old ≡ file ∷ due_of new
  pub outcomes : outcomes_of new ≡ outcomes_of old ++ outcome ∷ []
  pub names : names_of new ≡ names_of old

-- the first file that is due is checked or skipped, or no file is due
abbrev pub ChecksFirst : LoadedFiles → Turn → LoadedFiles → Type 0
ChecksFirst old (turn.Checked file problems) new = Takes old file Checked new × (problems ≡ map_problems (files_of old))
ChecksFirst old (turn.CheckNoMemory file) new = Takes old file Skipped new
ChecksFirst old turn.Idle new = (due_of old ≡ []) × (outcomes_of new ≡ outcomes_of old) × (names_of new ≡ names_of old)
ChecksFirst old _ new = ⊥
