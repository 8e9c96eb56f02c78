-- What a machine owes to a grammar, for the longest part to be read by it.
use Rattle.std.specs.Prelude.{◌≡◌, true, List, Some}
use Rattle.reading_machines.specs.Parts.{CanBegin}
use Rattle.reading_machines.specs.Machines.{Machine, run}

-- Each part leads to a whole state, what leads to a whole state is a part, and what leads to any state begins one.
pub record ReadsExactly {S T : Type 0} (Is : List T → Type 0) (m : Machine S T) : Type 0 where
  pub complete : (xs : List T) → Is xs → (s : S) × (run m.step xs m.start ≡ Some s) × (m.whole s ≡ true)
  pub sound : (xs : List T) (s : S) → run m.step xs m.start ≡ Some s → m.whole s ≡ true → Is xs
  pub alive : (xs : List T) (s : S) → run m.step xs m.start ≡ Some s → CanBegin Is xs

-- these tokens lead to a whole state
pub record LeadsToWhole {S T : Type 0} (m : Machine S T) (xs : List T) : Type 0 where
  pub state : S
  pub runs : run m.step xs m.start ≡ Some state
  pub whole : m.whole state ≡ true
