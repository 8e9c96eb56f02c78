-- Words and names.
use Rattle.std.proofs.Common.{◌≡◌, ℕ, Bool, true, false, ◌&&◌, List, [], ◌∷◌, refl, arith}
use Rattle.std.proofs.lemmas.Bool.{false≢true}
use Rattle.std.proofs.lemmas.Bool.Decides.{nat_tests}
use Rattle.pc_terms.specs.Ascii.{is_ascii, all_ascii}
use Rattle.pc_terms.proofs.AsciiLemmas.{all_ascii_from}
use Rattle.script_text.specs.Words.{is_word_byte, is_word, is_name}

word_byte_is_ascii : (b : ℕ) → is_word_byte b ≡ true → is_ascii b ≡ true
word_byte_is_ascii b h = grind (arith, nat_tests)

pub word_is_ascii : (word : List ℕ) → is_word word ≡ true → all_ascii word ≡ true
word_is_ascii [] h = absurd (false≢true h)
word_is_ascii (b ∷ bs) h = all_ascii_from is_word_byte word_byte_is_ascii (b ∷ bs) h

pub right_of_both : (x y : Bool) → (x && y) ≡ true → y ≡ true
right_of_both true y h = h
right_of_both false y h = absurd (false≢true h)

pub left_of_both : (x y : Bool) → (x && y) ≡ true → x ≡ true
left_of_both true y h = refl
left_of_both false y h = absurd (false≢true h)

pub name_is_word : (name : List ℕ) → is_name name ≡ true → is_word name ≡ true
name_is_word [] h = h
name_is_word (b ∷ bs) h = right_of_both _ _ h

pub both_true : (x y : Bool) → x ≡ true → y ≡ true → (x && y) ≡ true
both_true x y first second = rw (first, second) refl
