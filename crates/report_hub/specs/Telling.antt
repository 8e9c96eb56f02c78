-- What reporters are told.
use Rattle.std.specs.Prelude.{◌≡◌, ◌≤◌, ◌⊎◌, ℕ, List, [], ◌∷◌, ◌++◌, Result, Ok, Err}
use Rattle.pc_terms.specs.declared.problems.Problem.{Problem}
use Rattle.pc_outside.specs.Outside.{Rose}

-- the bytes of a file's name, and the problems that the file was found to have
abbrev pub Finding : Type 0
Finding = List ℕ × List Problem

-- What is seen of a reporter.
pub record ReporterState : Type 0 where
  -- what it was told, in order
  pub told : List Finding
  -- how many reports to it have failed
  pub faults : ℕ

-- ---- a report

-- a report that is told is appended, and one that fails is not
abbrev pub Appends : {V E : Type 0} → Result V E → Finding → List Finding → List Finding → Type 0
Appends (Ok done) finding told told' = told' ≡ told ++ finding ∷ []
Appends (Err failed) finding told told' = told' ≡ told

-- What a report does to the count of faults. One that is told leaves it, so that a report that failed is not made again.
abbrev pub ReportCounts : {V E : Type 0} → Result V E → ℕ → ℕ → Type 0
ReportCounts (Ok done) before now = now ≡ before
ReportCounts (Err failed) before now = Rose before now × (before ≤ now)

-- Once a reporter was told a finding: it was told what it had been told before and then this finding, and no report failed;
-- or the report failed, and then its count of faults rose.
abbrev pub WasTold : Finding → ReporterState → ReporterState → Type 0
WasTold finding old new =
    (((new.told ≡ old.told ++ finding ∷ []) × (new.faults ≡ old.faults)) ⊎ ((new.told ≡ old.told) × Rose old.faults new.faults)) × (old.faults ≤ new.faults)
