-- Numbers and their texts.
use Rattle.std.proofs.Common.{◌≡◌, ℕ, zero, suc, ◌+◌, ◌*◌, ◌-◌, ◌<◌, ◌≤◌, ◌^◌, Bool, true, false, not, ◌||◌, ◌==◌, nat_lt, cond, List, [], ◌∷◌, length, get_or, Some, None, unwrap_or, refl, sym, ap, ◌∙◌, arith}
use Rattle.std.specs.List.{list_all}
use Rattle.std.specs.Char.{is_ascii_digit}
use Rattle.std.specs.Fmt.{decimal}
use Rattle.std.proofs.lemmas.Bool.{false≢true}
use Rattle.std.proofs.lemmas.Bool.Decides.{nat_tests}
use Rattle.std.proofs.lemmas.Str.Parse.{IsDigitsTest, IsNumeralModel, FoldsDigits, numerals_by_fold}
use Rattle.std.proofs.lemmas.Fmt.{digits_decimal, digits_value-decimal, decimal-digits_value, first_decimal, decimal_nonempty, decimal_digit}
use Rattle.pc_terms.specs.Number.{value_of, is_numeral, fitting, number_of}
use Rattle.script_text.specs.Words.{is_number}
use Rattle.script_text.proofs.WordLemmas.{left_of_both, right_of_both}

abbrev IsDigits : List ℕ → Type 0
IsDigits ds = list_all is_ascii_digit ds ≡ true

in_range : (c : ℕ) → is_ascii_digit c ≡ true → (48 ≤ c) × (c ≤ 57)
in_range c h = (grind (arith, nat_tests), grind (arith, nat_tests))

from_range : (c : ℕ) → 48 ≤ c → c ≤ 57 → is_ascii_digit c ≡ true
from_range c low high = grind (arith, nat_tests)

tells : IsDigitsTest IsDigits
tells = record {
  empty = refl;
  parts = λ c cs e. (in_range c (left_of_both _ _ e), right_of_both _ _ e);
  more = λ c cs k e. rw (from_range c k.0 k.1) e;
}

folds : FoldsDigits value_of
folds = record {
  empty = λ n. refl;
  more = λ n c cs k. let same : 10 * n + (c - 48) ≡ n * 10 + (c - 48) = omega arith in ap (λ m. value_of m cs) same;
}

own : IsNumeralModel IsDigits (value_of 0)
own = numerals_by_fold IsDigits tells value_of folds

record IsNumeralText (bytes : List ℕ) : Type 0 where
  digits : IsDigits bytes
  some : 0 < length bytes
  leading : get_or bytes 0 0 ≡ 48 → length bytes ≡ 1

numeral_text : (bytes : List ℕ) → is_numeral bytes ≡ true → IsNumeralText bytes
unfolding is_numeral
numeral_text [] h = absurd (false≢true h)
numeral_text (b ∷ bs) h = record {
  digits = left_of_both _ _ h;
  some = omega arith;
  leading = λ is_zero. let rest : (not (b == 48) || (length bs == 0)) ≡ true = right_of_both _ _ h in grind (arith, nat_tests);
}

fits : (v n : ℕ) → fitting v ≡ Some n → (v ≡ n) × (is_number v ≡ true)
fits v n h = by (nat_lt v 4294967296) refl h
  where
    by : (b : Bool) → nat_lt v 4294967296 ≡ b → cond b (Some v) None ≡ Some n → (v ≡ n) × (is_number v ≡ true)
    by true e h = (ap (λ o. unwrap_or o 0) h, e)
    by false e h = absurd (cc)

-- a number is the text of its value
pub number_text : (bytes : List ℕ) (n : ℕ) → number_of bytes ≡ Some n → (bytes ≡ decimal n) × (is_number n ≡ true)
unfolding number_of
number_text bytes n h = by (is_numeral bytes) refl h
  where
    by : (b : Bool) → is_numeral bytes ≡ b → cond b (fitting (value_of 0 bytes)) None ≡ Some n → (bytes ≡ decimal n) × (is_number n ≡ true)
    by true e h =
        let numeral = numeral_text bytes e in
        let fit = fits (value_of 0 bytes) n h in
        let below : value_of 0 bytes < 2 ^ 64 = grind (arith, nat_tests, fit.1) in
        (sym (decimal-digits_value own bytes numeral.digits numeral.some numeral.leading below) ∙ ap decimal fit.0, rw (← fit.0) fit.1)
    by false e h = absurd (cc)

numeral_of_decimal : (bytes : List ℕ) → IsDigits bytes → 0 < length bytes → (get_or bytes 0 0 ≡ 48 → length bytes ≡ 1) → is_numeral bytes ≡ true
unfolding is_numeral
numeral_of_decimal [] digits some leading = absurd (omega arith)
numeral_of_decimal (b ∷ bs) digits some leading = rw digits (by (b == 48) refl)
  where
    by : (t : Bool) → (b == 48) ≡ t → (not t || (length bs == 0)) ≡ true
    by true e = let is : b ≡ 48 = grind (arith, nat_tests) in let one : suc (length bs) ≡ 1 = leading is in grind (arith, nat_tests)
    by false e = refl

only_zero : (n : ℕ) → n < 2 ^ 64 → get_or (decimal n) 0 0 ≡ 48 → length (decimal n) ≡ 1
only_zero zero small h = ap length (decimal_digit 0 (omega arith))
only_zero (suc n) small h = absurd (let first : 48 < get_or (decimal (suc n)) 0 0 = first_decimal (suc n) (omega arith) small in omega arith)

-- and the text of a number has it as value
pub number_of-decimal : (n : ℕ) → is_number n ≡ true → number_of (decimal n) ≡ Some n
unfolding number_of
number_of-decimal n h =
    let small : n < 2 ^ 64 = grind (arith, nat_tests) in
    rw (numeral_of_decimal (decimal n) (digits_decimal own n small) (decimal_nonempty n small) (only_zero n small), digits_value-decimal own n small, h) refl

pub digits-decimal : (n : ℕ) → is_number n ≡ true → list_all is_ascii_digit (decimal n) ≡ true
digits-decimal n h = let small : n < 2 ^ 64 = grind (arith, nat_tests) in digits_decimal own n small
