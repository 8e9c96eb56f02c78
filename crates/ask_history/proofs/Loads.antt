-- How many files are loaded.
use Rattle.std.proofs.Common.{◌+◌, ◌≤◌, Bool, true, false, cond, [], ◌∷◌, length, arith}
use Rattle.std.specs.Str.{bytes_eq}
use Rattle.ask_history.specs.Sources.{Bytes, Sources, put_file}

put_one : (b : Bool) (file : Bytes × Bytes) (pair : Bytes × Bytes) (files rest : Sources) → length rest ≤ length files + 1
    → length (cond b ((file.0, pair.1) ∷ files) (file ∷ rest)) ≤ length (file ∷ files) + 1
put_one true file pair files rest h = omega arith
put_one false file pair files rest h = omega arith

-- A text put in force loads one file more at most.
pub length_put_file : (files : Sources) (pair : Bytes × Bytes) → length (put_file files pair) ≤ length files + 1
length_put_file [] pair = omega arith
length_put_file (file ∷ files) pair = put_one (bytes_eq pair.0 file.0) file pair files (put_file files pair) (length_put_file files pair)
