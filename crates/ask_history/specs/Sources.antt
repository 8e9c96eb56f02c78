-- The sources that are loaded, and what a mutation does to them.
use Rattle.std.specs.Prelude.{Bool, true, false, not, if◌then◌else◌, List, [], ◌∷◌, map, filter, Option, Some, None}
use Rattle.std.specs.List.{list_any}
use Rattle.std.specs.Str.{bytes_eq}
pub use Rattle.pc_terms.specs.Bytes.{Bytes}
use Rattle.ask_history.specs.declared.calls.Call.{Call}
use Rattle.ask_history.specs.declared.calls.Call.TheVariants.{Reload, Remove}

-- The loaded files, each with its text, in the order in which they were first loaded. No two have one name.
abbrev pub Sources : Type 0
Sources = List (Bytes × Bytes)

-- The text of a file, where it is loaded.
abbrev pub text_of : Sources → Bytes → Option Bytes
text_of [] name = None
text_of (file ∷ files) name = if bytes_eq name file.0 then Some file.1 else text_of files name

abbrev pub is_loaded : Sources → Bytes → Bool
is_loaded files name = list_any (λ file. bytes_eq name file.0) files

-- A new text for a file: at its position where it is loaded, and last where it is not.
abbrev pub put_file : Sources → Bytes × Bytes → Sources
put_file [] pair = pair ∷ []
put_file (file ∷ files) pair =
    if bytes_eq pair.0 file.0 then (file.0, pair.1) ∷ files else file ∷ put_file files pair

-- New texts, one after another: the later of two of one name replaces the earlier.
abbrev pub reloaded : Sources → List (Bytes × Bytes) → Sources
reloaded files [] = files
reloaded files (pair ∷ pairs) = reloaded (put_file files pair) pairs

-- Without the files of these names. A name that is not loaded is passed over.
abbrev pub removed : Sources → List Bytes → Sources
removed files names = filter (λ file. not (list_any (bytes_eq file.0) names)) files

-- The calls that change the sources; the others are asks.
abbrev pub is_mutation : Call → Bool
is_mutation (Reload pairs) = true
is_mutation (Remove names) = true
is_mutation _ = false

-- The sources after a mutation took effect. An ask leaves them.
abbrev pub mutated : Sources → Call → Sources
mutated files (Reload pairs) = reloaded files pairs
mutated files (Remove names) = removed files names
mutated files _ = files

abbrev pub some_of : {A : Type 0} → List A → Bool
some_of [] = false
some_of (x ∷ xs) = true

-- The loaded files that are none of these, in load order.
abbrev pub unchecked : List Bytes → Sources → List Bytes
unchecked checked files = filter (λ name. not (list_any (bytes_eq name) checked)) (map (λ file. file.0) files)
