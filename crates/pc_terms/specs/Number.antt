-- Numbers as they are written: decimal digits, without a sign or a leading zero.
use Rattle.std.specs.Prelude.{ℕ, ◌+◌, ◌*◌, ◌^◌, ◌-◌, Bool, false, not, ◌&&◌, ◌||◌, ◌==◌, nat_lt, if◌then◌else◌, List, [], ◌∷◌, length, Option, Some, None}
use Rattle.std.specs.List.{list_all}
use Rattle.std.specs.Char.{is_ascii_digit}
use Rattle.pc_terms.specs.Bytes.{digit_zero}

-- the value of digits, after a value so far
abbrev pub value_of : ℕ → List ℕ → ℕ
value_of value [] = value
value_of value (b ∷ bs) = value_of (10 * value + (b - digit_zero)) bs

-- one digit or more, of which the first is no 0 unless it is the only one
unfoldable pub is_numeral : List ℕ → Bool
is_numeral [] = false
is_numeral (b ∷ bs) = list_all is_ascii_digit (b ∷ bs) && (not (b == digit_zero) || length bs == 0)

abbrev pub fitting : ℕ → Option ℕ
fitting value = if nat_lt value (2 ^ 32) then Some value else None

-- The number, where it fits 32 bits.
unfoldable pub number_of : List ℕ → Option ℕ
number_of bytes = if is_numeral bytes then fitting (value_of 0 bytes) else None
