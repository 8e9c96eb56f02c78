-- How many files a mutation leaves.
use Rattle.std.proofs.Common.{ℕ, ◌+◌, ◌≤◌, Bool, true, false, cond, not, List, [], ◌∷◌, length, filter, arith}
use Rattle.std.specs.List.{list_any}
use Rattle.std.specs.Str.{bytes_eq}
use Rattle.ask_history.specs.Sources.{Bytes, Sources, put_file, reloaded, removed}
use Rattle.ask_history.proofs.Loads.{length_put_file}

pub length_reloaded : (files : Sources) (pairs : List (Bytes × Bytes)) → length (reloaded files pairs) ≤ length files + length pairs
length_reloaded files [] = omega arith
length_reloaded files (pair ∷ pairs) = omega (arith, length_reloaded (put_file files pair) pairs, length_put_file files pair)

pub length_removed : (files : Sources) (names : List Bytes) → length (removed files names) ≤ length files
length_removed [] names = omega arith
length_removed (file ∷ files) names = by (list_any (bytes_eq file.0) names) (length_removed files names) where
  by : (b : Bool) → length (removed files names) ≤ length files → length (cond (not b) (file ∷ removed files names) (removed files names)) ≤ length (file ∷ files)
  by true fewer = omega arith
  by false fewer = omega arith
