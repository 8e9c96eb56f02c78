-- What a reporter was told by many reports, one after another.
use Rattle.std.specs.Prelude.{◌≡◌, ◌≤◌, ℕ, ◌+◌, ◌-◌, ◌^◌, min, List, [], ◌∷◌, ◌++◌}
use Rattle.report_hub.specs.Telling.{Finding, ReporterState}

-- Of these findings some are kept, in order, and so many are left out.
pub data Leaves : List Finding → List Finding → ℕ → Type 0 where
  Nothing : Leaves [] [] 0
  Keeps : (all kept : List Finding) (left : ℕ) (finding : Finding) → Leaves all kept left → Leaves (all ++ finding ∷ []) (kept ++ finding ∷ []) left
  LeavesOut : (all kept : List Finding) (left : ℕ) (finding : Finding) → Leaves all kept left → Leaves (all ++ finding ∷ []) kept (left + 1)

-- A reporter was told these findings in order, with at most as many left out as its count of faults rose by.
-- At the largest number that 64 bits hold the count stands still.
pub record WasToldMost (findings : List Finding) (old new : ReporterState) : Type 0 where
  pub kept : List Finding
  pub left : ℕ
  pub in_order : Leaves findings kept left
  pub told : new.told ≡ old.told ++ kept
  pub rose : min (old.faults + left) (2 ^ 64 - 1) ≤ new.faults
  pub never_falls : old.faults ≤ new.faults
