-- What callers see of the loaded files.
use Rattle.std.specs.Prelude.{◌≡◌, ℕ, ◌≤◌, List}
use Rattle.std.specs.Map.{keys_of}
use Rattle.indexmap.specs.IndexMap.{spare}
use Rattle.ask_history.specs.Sources.{Bytes, Sources}
use Rattle.compiler_loop.specs.ChecksView.{due_in, outcomes_in, HasRoomIn}
use Rattle.compiler_loop.specs.Loaded.{texts_of, files_with, is_checked, is_skipped}
use Rattle.compiler_loop.specs.declared.checks.Outcome.{Outcome}
use Rattle.compiler_loop.specs.declared.loaded.LoadedFiles.{LoadedFiles}

-- the files with their texts
abbrev pub files_of : LoadedFiles → Sources
files_of loaded = texts_of loaded.files.entries

abbrev pub names_of : LoadedFiles → List Bytes
names_of loaded = keys_of loaded.files.entries

-- the names of the files that are due for a check
abbrev pub due_of : LoadedFiles → List Bytes
due_of loaded = due_in loaded.checks

-- what the checks of the files before these came to
abbrev pub outcomes_of : LoadedFiles → List Outcome
outcomes_of loaded = outcomes_in loaded.checks

abbrev pub checked_of : LoadedFiles → List Bytes
checked_of loaded = files_with is_checked (outcomes_of loaded) (names_of loaded)

abbrev pub skipped_of : LoadedFiles → List Bytes
skipped_of loaded = files_with is_skipped (outcomes_of loaded) (names_of loaded)

-- there is room for so many new files
pub record HasRoom (loaded : LoadedFiles) (more : ℕ) : Type 0 where
  pub files : more ≤ spare loaded.files
  pub checks : HasRoomIn loaded.checks more

-- but for what was found out of whether they are thin
pub record IsUnchanged (old new : LoadedFiles) : Type 0 where
  pub files : new.files ≡ old.files
  pub checks : new.checks ≡ old.checks
