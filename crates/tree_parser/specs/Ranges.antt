-- Numbers of 64 bits, and those that a type admits.
use Rattle.std.specs.Prelude.{ℕ, ◌^◌, Bool, false, ◌&&◌, ◌||◌, ◌==◌, nat_lt, nat_le, if◌then◌else◌, Option, Some, None}
use Rattle.pc_terms.specs.Number.{value_of}
use Rattle.scan_tokens.specs.Words.{Bytes}
use Rattle.source_grammar.specs.Units.{hexadecimal_value, without_minus, without_prefix, digits_of, is_negative, is_long}

abbrev pub in_64_bits : ℕ → Option ℕ
in_64_bits value = if nat_lt value (2 ^ 64) then Some value else None

abbrev pub fits_bits : Option ℕ → Bool → Bool
fits_bits None is_long = false
fits_bits (Some value) is_long = is_long || nat_lt value (2 ^ 32)

abbrev pub bound : Bool → ℕ
bound is_long = if is_long then 2 ^ 63 else 2 ^ 31

-- the greatest number below zero is one more than the greatest above it
abbrev pub fits_signed : Option ℕ → Bool → Bool → Bool
fits_signed None is_long is_negative = false
fits_signed (Some value) is_long is_negative = nat_lt value (bound is_long) || (is_negative && (value == bound is_long))

abbrev pub hexadecimal_fits : Bytes → Bool
hexadecimal_fits text =
    nat_lt (hexadecimal_value 0 (without_prefix (digits_of (without_minus text)))) (if is_long text then 2 ^ 64 else 2 ^ 32)

abbrev pub decimal_fits : Bytes → Bool
decimal_fits text =
    if is_negative text then nat_le (value_of 0 (digits_of (without_minus text))) (bound (is_long text))
    else nat_lt (value_of 0 (digits_of (without_minus text))) (bound (is_long text))
