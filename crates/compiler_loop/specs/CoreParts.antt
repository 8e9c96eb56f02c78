-- The open asks and the staged mutation of a core.
use Rattle.std.specs.Prelude.{◌≡◌, ℕ, List, [], ◌∷◌, length, take, Option, Some, None}
use Rattle.safe_points.specs.declared.ticketed.Ticketed.{Ticketed}
use Rattle.ask_history.specs.Sources.{Bytes}
use Rattle.ask_history.specs.declared.calls.Call.{Call}
use Rattle.ask_history.specs.declared.calls.Call.TheVariants as call
use Rattle.compiler_loop.specs.declared.loaded.LoadedFiles.{LoadedFiles}
use Rattle.compiler_loop.specs.declared.tasks.Task.{Task}
use Rattle.compiler_loop.specs.declared.tasks.NewFile.{NewFile}
use Rattle.compiler_loop.specs.declared.tasks.Change.{Change}
use Rattle.compiler_loop.specs.declared.tasks.Change.TheVariants.{Reload, Remove}
use Rattle.compiler_loop.specs.declared.tasks.Staged.{Staged}
use Rattle.compiler_loop.specs.LoadedView.{names_of, outcomes_of, HasRoom}

-- the open asks with their tickets, from bottom to top
abbrev pub asks_of : List (Ticketed Task) → List (ℕ × Call)
asks_of [] = []
asks_of (ticketed ∷ above) = (ticketed.ticket, ticketed.task.call) ∷ asks_of above

abbrev pub pairs_of : List NewFile → List (Bytes × Bytes)
pairs_of [] = []
pairs_of (file ∷ files) = (file.name, file.source.text) ∷ pairs_of files

abbrev pub call_of : Change → Call
call_of (Reload files) = call.Reload (pairs_of files.items)
call_of (Remove removal) = call.Remove removal.names

-- the call that is staged, with its ticket
abbrev pub staged_of : Option Staged → Option (ℕ × Call)
staged_of None = None
staged_of (Some staged) = Some (staged.ticket, call_of staged.change)

-- how many files a mutation may load anew
abbrev pub new_files_of : Change → ℕ
new_files_of (Reload files) = length files.items
new_files_of (Remove removal) = 0

-- There is room for a staged mutation, and it holds the names of the files that will be due again.
pub record IsReady (loaded : LoadedFiles) (staged : Staged) : Type 0 where
  pub again : staged.again.items ≡ take (length (outcomes_of loaded)) (names_of loaded)
  pub room : HasRoom loaded (new_files_of staged.change)
