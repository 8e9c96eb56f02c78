-- The loaded files that an engine keeps.
use Rattle.std.specs.Prelude.{◌≡◌, ◌≤◌, Bool, true, false, not, if◌then◌else◌, List, [], ◌∷◌, length, drop, ◌++◌, Option, Some, None}
use Rattle.ask_history.specs.Sources.{Bytes, Sources}
use Rattle.compiler_loop.specs.declared.source.Source.{Source}
use Rattle.compiler_loop.specs.declared.checks.Outcome.{Outcome}
use Rattle.compiler_loop.specs.declared.checks.Outcome.TheVariants.{Checked, Skipped}
use Rattle.compiler_loop.specs.ThinAnswer.{are_thin, units_of}

-- the files with their texts
abbrev pub texts_of : List (Bytes × Source) → Sources
texts_of [] = []
texts_of (file ∷ files) = (file.0, file.1.text) ∷ texts_of files

-- what is kept of whether the files are thin is so
abbrev pub is_thin : List (Bytes × Source) → Bool
is_thin files = are_thin [] (units_of (texts_of files))

abbrev pub is_checked : Outcome → Bool
is_checked Checked = true
is_checked Skipped = false

abbrev pub is_skipped : Outcome → Bool
is_skipped outcome = not (is_checked outcome)

-- the files whose check came to an outcome of this kind
abbrev pub files_with : (Outcome → Bool) → List Outcome → List Bytes → List Bytes
files_with is_kind [] names = []
files_with is_kind (outcome ∷ outcomes) [] = []
files_with is_kind (outcome ∷ outcomes) (name ∷ names) =
    if is_kind outcome then name ∷ files_with is_kind outcomes names else files_with is_kind outcomes names

-- The first file that was due is no longer, and its check came to this outcome; or none was due.
abbrev pub TakesDue : Option Bytes → Outcome → (due left : List Bytes) → (outcomes told : List Outcome) → Type 0
TakesDue None outcome due left outcomes told = (due ≡ []) × (left ≡ []) × (told ≡ outcomes)
TakesDue (Some name) outcome due left outcomes told = (due ≡ name ∷ left) × (told ≡ outcomes ++ outcome ∷ [])

-- the files that are due are those after the ones with an outcome
pub record AreAhead (due : List Bytes) (outcomes : List Outcome) (names : List Bytes) : Type 0 where
  pub rest : due ≡ drop (length outcomes) names
  pub count : length outcomes ≤ length names
