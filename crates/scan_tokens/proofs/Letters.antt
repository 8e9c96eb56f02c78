-- ASCII letters are letters by the table.
use Rattle.std.proofs.Common.{◌≡◌, ℕ, ◌<◌, Bool, true, false, not, ◌||◌, refl, arith}
use Rattle.std.proofs.lemmas.Bool.Decides.{nat_tests}
use Rattle.std.specs.Char.{is_ascii_alphabetic}
use Rattle.unicode.specs.GeneralCategory.{general_category}
use Rattle.unicode.proofs.TrieCheck.{all_below-at}
use Rattle.ucd_category.proofs.Computing.{ucd_category}
use Rattle.ucd_category.specs.GeneralCategoryRows.{general_category_rows}
use Rattle.scan_tokens.specs.declared.characters.Class.{Class}
use Rattle.scan_tokens.specs.declared.characters.Class.TheVariants.{Letter}
use Rattle.scan_tokens.specs.Characters.{class_of}

abbrev is_letter_class : Class → Bool
is_letter_class Letter = true
is_letter_class _ = false

letter_or_other : (c : ℕ) → c < 128 → (not (is_ascii_alphabetic c) || is_letter_class (class_of c)) ≡ true
unfolding ucd_category general_category general_category_rows class_of
letter_or_other c below = all_below-at (λ x. not (is_ascii_alphabetic x) || is_letter_class (class_of x)) 128 c refl below

the_letter : (alphabetic : Bool) (k : Class) → (not alphabetic || is_letter_class k) ≡ true → alphabetic ≡ true → Letter ≡ k
the_letter alphabetic k e is = grind arith

pub class_of-letter : (c : ℕ) → is_ascii_alphabetic c ≡ true → Letter ≡ class_of c
class_of-letter c is =
    let below : c < 128 = grind (arith, nat_tests) in
    the_letter (is_ascii_alphabetic c) (class_of c) (letter_or_other c below) is
