-- ASCII bytes are text.
use Rattle.std.proofs.Common.{◌≡◌, ℕ, zero, suc, ◌<◌, Bool, true, false, ◌&&◌, List, [], ◌∷◌, refl, arith}
use Rattle.std.specs.List.{list_all}
use Rattle.std.specs.Str.{IsAscii, IsUtf8}
use Rattle.std.proofs.lemmas.Bool.{false≢true}
use Rattle.std.proofs.lemmas.Bool.Decides.{nat_tests}
use Rattle.std.proofs.lemmas.Str.{IsUtf8-from_ascii}
use Rattle.pc_terms.specs.Ascii.{is_ascii, all_ascii}

and_left : (x y : Bool) → (x && y) ≡ true → x ≡ true
and_left true y h = refl
and_left false y h = h

and_right : (x y : Bool) → (x && y) ≡ true → y ≡ true
and_right true y h = h
and_right false y h = absurd (false≢true h)

below : (b : ℕ) → is_ascii b ≡ true → b < 128
below b h = grind (arith, nat_tests)

IsAscii-from_test : (bytes : List ℕ) → all_ascii bytes ≡ true → IsAscii bytes
IsAscii-from_test [] h i = omega arith
IsAscii-from_test (b ∷ bs) h zero = below b (and_left _ _ h)
IsAscii-from_test (b ∷ bs) h (suc i) = IsAscii-from_test bs (and_right _ _ h) i

pub IsUtf8_from_test : (bytes : List ℕ) → all_ascii bytes ≡ true → IsUtf8 bytes
IsUtf8_from_test bytes h = IsUtf8-from_ascii bytes (IsAscii-from_test bytes h)

both : (x y u v : Bool) → (x ≡ true → u ≡ true) → (y ≡ true → v ≡ true) → (x && y) ≡ true → (u && v) ≡ true
both x y u v f g h = grind (arith, nat_tests)

-- bytes are ASCII that all pass a test which only ASCII passes
pub all_ascii_from : (p : ℕ → Bool) → ((b : ℕ) → p b ≡ true → is_ascii b ≡ true) → (bytes : List ℕ) → list_all p bytes ≡ true → all_ascii bytes ≡ true
all_ascii_from p narrow [] h = refl
all_ascii_from p narrow (b ∷ bs) h = both _ _ _ _ (narrow b) (all_ascii_from p narrow bs) h
