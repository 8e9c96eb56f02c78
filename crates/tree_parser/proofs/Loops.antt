-- A loop over the pieces of a machine that keeps how many of them are the longest statement.
use Rattle.std.proofs.Common.{◌≡◌, ℕ, Bool, List, Option}
use Rattle.reading_machines.specs.Machines.{Machine, run, reading, reading_of}

-- the pieces that are left lead to the same reading, and to the same state
pub record LeadsOn {S T : Type 0} (m : Machine S T) (follows : List T → Bool) (all left : List T) (n : ℕ) (best : Option ℕ) (s : S) : Type 0 where
  pub same : reading m follows left n best s ≡ reading_of m follows all
  pub runs : run m.step left s ≡ run m.step all m.start
