-- Numbers of 64 bits, and the ranges of literals.
use Rattle.std.proofs.Common.{◌≡◌, ℕ, suc, ◌+◌, ◌*◌, ◌^◌, ◌-◌, ◌<◌, ◌≤◌, Bool, true, false, nat_lt, nat_le, if◌then◌else◌, [], ◌∷◌, ◌++◌, length, get_or, drop, drop-cons, Some, None, refl, sym, ap, ◌∙◌, inl, inr, arith}
use Rattle.std.proofs.lemmas.List.{drop_all}
use Rattle.std.proofs.lemmas.Grind.{common_steps}
use Rattle.pc_terms.specs.Bytes.{digit_zero}
use Rattle.pc_terms.specs.Number.{value_of}
use Rattle.scan_tokens.proofs.Steps.{which}
use Rattle.scan_tokens.specs.Words.{Bytes}
use Rattle.source_grammar.specs.Units.{hexadecimal_digit, hexadecimal_value, is_long_mark, is_long, digits_of, without_minus, is_negative, is_hexadecimal, is_in_range}
use Rattle.tree_parser.specs.Ranges.{in_64_bits, fits_bits, fits_signed, bound, hexadecimal_fits, decimal_fits}

-- ---- 64 bits

still_over : (low high : ℕ) → low ≤ high → in_64_bits low ≡ None → in_64_bits high ≡ None
still_over low high le over = grind (arith, common_steps)

hexadecimal_over : (value : ℕ) (digits : Bytes) → in_64_bits value ≡ None → in_64_bits (hexadecimal_value value digits) ≡ None
hexadecimal_over value [] over = over
hexadecimal_over value (b ∷ bs) over =
    hexadecimal_over (16 * value + hexadecimal_digit b) bs (still_over value (16 * value + hexadecimal_digit b) (omega arith) over)

decimal_over : (value : ℕ) (digits : Bytes) → in_64_bits value ≡ None → in_64_bits (value_of value digits) ≡ None
decimal_over value [] over = over
decimal_over value (b ∷ bs) over =
    decimal_over (10 * value + (b - digit_zero)) bs (still_over value (10 * value + (b - digit_zero)) (omega arith) over)

pub hexadecimal_stops : (value : ℕ) (digits : Bytes) (at : ℕ) → at < length digits → hexadecimal_value value (drop at digits) ≡ hexadecimal_value 0 digits
    → in_64_bits (16 * value + hexadecimal_digit (get_or digits at 0)) ≡ None → in_64_bits (hexadecimal_value 0 digits) ≡ None
hexadecimal_stops value digits at below is over =
    ap in_64_bits (sym is ∙ ap (hexadecimal_value value) (drop-cons digits at 0 below))
    ∙ hexadecimal_over (16 * value + hexadecimal_digit (get_or digits at 0)) (drop (suc at) digits) over

pub decimal_stops : (value : ℕ) (digits : Bytes) (at : ℕ) → at < length digits → value_of value (drop at digits) ≡ value_of 0 digits
    → in_64_bits (10 * value + (get_or digits at 0 - digit_zero)) ≡ None → in_64_bits (value_of 0 digits) ≡ None
decimal_stops value digits at below is over =
    ap in_64_bits (sym is ∙ ap (value_of value) (drop-cons digits at 0 below))
    ∙ decimal_over (10 * value + (get_or digits at 0 - digit_zero)) (drop (suc at) digits) over

fits_64 : (n : ℕ) → n < 2 ^ 64 → Some n ≡ in_64_bits n
fits_64 n fits = grind (arith, common_steps)

pub hexadecimal_done : (value : ℕ) (digits : Bytes) (at : ℕ) → length digits ≤ at → hexadecimal_value value (drop at digits) ≡ hexadecimal_value 0 digits
    → value < 2 ^ 64 → Some value ≡ in_64_bits (hexadecimal_value 0 digits)
hexadecimal_done value digits at all is fits = fits_64 value fits ∙ ap in_64_bits (sym (ap (hexadecimal_value value) (drop_all at digits all)) ∙ is)

pub decimal_done : (value : ℕ) (digits : Bytes) (at : ℕ) → length digits ≤ at → value_of value (drop at digits) ≡ value_of 0 digits
    → value < 2 ^ 64 → Some value ≡ in_64_bits (value_of 0 digits)
decimal_done value digits at all is fits = fits_64 value fits ∙ ap in_64_bits (sym (ap (value_of value) (drop_all at digits all)) ∙ is)

pub fits_bits_is : (n : ℕ) (long : Bool) → fits_bits (in_64_bits n) long ≡ nat_lt n (if long then 2 ^ 64 else 2 ^ 32)
fits_bits_is n true = grind (arith, common_steps)
fits_bits_is n false = grind (arith, common_steps)

pub fits_signed_is : (n : ℕ) (long negative : Bool) → fits_signed (in_64_bits n) long negative ≡ (if negative then nat_le n (bound long) else nat_lt n (bound long))
fits_signed_is n true true = grind (arith, common_steps)
fits_signed_is n true false = grind (arith, common_steps)
fits_signed_is n false true = grind (arith, common_steps)
fits_signed_is n false false = grind (arith, common_steps)

-- ---- the mark at the end

pub is_long_last : (bs : Bytes) (b : ℕ) → is_long (bs ++ b ∷ []) ≡ is_long_mark b
is_long_last [] b = refl
is_long_last (c ∷ []) b = refl
is_long_last (c ∷ next ∷ bs) b = is_long_last (next ∷ bs) b

consed : (c : ℕ) (marked : Bool) (short long : Bytes) → c ∷ (if marked then short else long) ≡ (if marked then c ∷ short else c ∷ long)
consed c true short long = refl
consed c false short long = refl

pub digits_of_last : (bs : Bytes) (b : ℕ) → digits_of (bs ++ b ∷ []) ≡ (if is_long_mark b then bs else bs ++ b ∷ [])
digits_of_last [] b = refl
digits_of_last (c ∷ []) b = consed c (is_long_mark b) [] (b ∷ [])
digits_of_last (c ∷ d ∷ bs) b = ap (λ l. c ∷ l) (digits_of_last (d ∷ bs) b) ∙ consed c (is_long_mark b) (d ∷ bs) ((d ∷ bs) ++ b ∷ [])

-- ---- the minus

pub positive_whole : (text : Bytes) → is_negative text ≡ false → without_minus text ≡ text
positive_whole [] e = refl
positive_whole (b ∷ bs) e = rw e refl

pub in_range_is : (text : Bytes) → is_in_range text ≡ (if is_hexadecimal (without_minus text) then hexadecimal_fits text else decimal_fits text)
in_range_is text = elim (which (is_negative text)) [ inl e ↦ rw e refl | inr e ↦ rw (positive_whole text e) refl ]
