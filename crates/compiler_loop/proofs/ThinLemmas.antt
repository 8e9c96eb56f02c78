-- What reading a thin text rests on.
use Rattle.std.proofs.Common.{◌≡◌, ℕ, zero, suc, ◌-◌, ◌<◌, true, List, option_and_then, refl, sub-one, arith}
use Rattle.std.specs.List.{list_all}
use Rattle.std.specs.Char.{is_ascii_alphanumeric}
use Rattle.std.proofs.lemmas.Bool.Decides.{nat_tests}
use Rattle.pc_terms.specs.Ascii.{is_ascii, all_ascii}
use Rattle.pc_terms.proofs.AsciiLemmas.{all_ascii_from}
use Rattle.compiler_loop.specs.Thin.{val_at, vals_from, vals_behind}
use Rattle.compiler_loop.specs.declared.thin.reading.ThinVal.{ThinVal}

letter_is_ascii : (b : ℕ) → is_ascii_alphanumeric b ≡ true → is_ascii b ≡ true
letter_is_ascii b h = grind (arith, nat_tests)

-- letters and digits are ASCII
pub all_ascii_letters : (bs : List ℕ) → list_all is_ascii_alphanumeric bs ≡ true → all_ascii bs ≡ true
all_ascii_letters = all_ascii_from is_ascii_alphanumeric letter_is_ascii

-- one val of no more than so many, and those behind it
pub vals_from_more : (most : ℕ) (text : List ℕ) (vals : List ThinVal) (at : ℕ) → 0 < most
    → vals_from most text vals at ≡ option_and_then (vals_behind (vals_from (most - 1) text) text vals) (val_at text vals at)
vals_from_more zero text vals at h = absurd (omega arith)
vals_from_more (suc most) text vals at h = rw sub-one refl
