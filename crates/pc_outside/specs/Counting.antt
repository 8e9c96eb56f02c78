-- How calls and faults are counted.
use Rattle.std.specs.Prelude.{ℕ, ◌+◌, ◌-◌, ◌^◌, min, Bool, true, false, Result, Ok, Err}
use Rattle.pc_outside.specs.declared.files.ReadRefused.{ReadRefused}
use Rattle.pc_outside.specs.declared.files.ReadRefused.TheVariants.{Failed}
use Rattle.pc_outside.specs.declared.sink.PutRefused.{PutRefused}
use Rattle.pc_outside.specs.declared.sink.PutRefused.TheVariants as put

-- a count after one more; at the largest number that 64 bits hold it stands still
abbrev pub one_more : ℕ → ℕ
one_more n = min (n + 1) (2 ^ 64 - 1)

-- the count of faults after a read
abbrev pub faults_after_read : {V : Type 0} → Result V ReadRefused → ℕ → ℕ
faults_after_read (Err Failed) faults = one_more faults
faults_after_read _ faults = faults

-- the count of faults after a put
abbrev pub faults_after_put : {V : Type 0} → Result V PutRefused → ℕ → ℕ
faults_after_put (Err put.Failed) faults = one_more faults
faults_after_put _ faults = faults

-- whether each put so far answered `Ok`, after one more
abbrev pub whole_after_put : {V : Type 0} → Result V PutRefused → Bool → Bool
whole_after_put (Ok done) whole = whole
whole_after_put (Err e) whole = false

-- the count of faults after a thread was asked for
abbrev pub faults_after_spawn : Bool → ℕ → ℕ
faults_after_spawn true faults = faults
faults_after_spawn false faults = one_more faults
