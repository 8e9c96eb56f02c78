-- What a call on a device does to what the device tells.
use Rattle.std.specs.Prelude.{◌≡◌, ◌≤◌, ◌⊎◌, ℕ, ◌+◌, ◌-◌, ◌^◌, min, Bool, true, false, ◌++◌, take, Option, Some, None, Result, Ok, Err}
use Rattle.pc_terms.specs.Bytes.{Bytes}
use Rattle.pc_outside.specs.declared.files.ReadRefused.{ReadRefused}
use Rattle.pc_outside.specs.declared.files.ReadRefused.TheVariants.{Failed, NoMemory}
use Rattle.pc_outside.specs.declared.sink.PutRefused.{PutRefused}
use Rattle.pc_outside.specs.declared.sink.PutRefused.TheVariants as put

-- The count of faults rose. At the largest number that 64 bits hold it stands still.
abbrev pub Rose : ℕ → ℕ → Type 0
Rose before now = min (before + 1) (2 ^ 64 - 1) ≤ now

-- ---- reading

-- What a read gives where the content of the name is told: its first `most` bytes.
abbrev pub IsBeginning : Option Bytes → ℕ → Bytes → Type 0
IsBeginning None most bytes = Unit {0}
IsBeginning (Some content) most bytes = bytes ≡ take most content

-- What a read does to the count of faults and to the name of the last read that failed. A failed read is counted,
-- and is the last one from then on, where that is told; every other read leaves the count and that name as they were.
abbrev pub ReadCounts : {V : Type 0} → Result V ReadRefused → Bytes → ℕ → ℕ → Option Bytes → Option Bytes → Type 0
ReadCounts (Err Failed) name before now last last' = Rose before now × (before ≤ now) × ((last' ≡ None) ⊎ (last' ≡ Some name))
ReadCounts _ name before now last last' = (now ≡ before) × (last' ≡ last)

-- ---- writing

-- Each put writes all of its bytes, or leaves a prefix of them. It does not change whether the bytes are told.
abbrev pub Writes : {V : Type 0} → Result V PutRefused → Bytes → Option Bytes → Option Bytes → Type 0
Writes result bytes None written' = written' ≡ None
Writes (Ok done) bytes (Some written) written' = written' ≡ Some (written ++ bytes)
Writes (Err e) bytes (Some written) written' = (n : ℕ) × (written' ≡ Some (written ++ take n bytes))

-- What a put does to the count of faults, which rises only where the put failed, and to the mark that each put so far
-- was whole.
abbrev pub PutCounts : {V : Type 0} → Result V PutRefused → ℕ → ℕ → Bool → Bool → Type 0
PutCounts (Ok done) before now whole whole' = (now ≡ before) × (whole' ≡ whole)
PutCounts (Err put.Failed) before now whole whole' = Rose before now × (before ≤ now) × (whole' ≡ false)
PutCounts (Err put.NoMemory) before now whole whole' = (now ≡ before) × (whole' ≡ false)

-- ---- threads

-- What asking for a thread does to the count of faults: it rose where none could be started, and only there.
abbrev pub SpawnCounts : Bool → ℕ → ℕ → Type 0
SpawnCounts true before now = now ≡ before
SpawnCounts false before now = Rose before now × (before ≤ now)
