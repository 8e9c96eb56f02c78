-- The value of digits.
use Rattle.std.proofs.Common.{ℕ, ◌+◌, ◌*◌, ◌-◌, ◌≤◌, List, [], ◌∷◌, arith}
use Rattle.pc_terms.specs.Number.{value_of}

-- more digits make no smaller number
pub value_of_grows : (value : ℕ) (bs : List ℕ) → value ≤ value_of value bs
value_of_grows value [] = omega arith
value_of_grows value (b ∷ bs) = omega (arith, value_of_grows (10 * value + (b - 48)) bs)
