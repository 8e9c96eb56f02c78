-- The lines of a text, and the words of a line.
use Rattle.std.specs.Prelude.{ℕ, Bool, true, false, not, ◌&&◌, ◌==◌, nat_le, nat_lt, if◌then◌else◌, List, [], ◌∷◌}
use Rattle.std.specs.List.{list_all}
pub use Rattle.pc_terms.specs.Bytes.{Bytes}
use Rattle.pc_terms.specs.Bytes.{line_feed, hash, less_sign}
use Rattle.script_text.specs.Characters.{exclamation_mark, tilde}

-- ---- pieces

abbrev pub onto_first : ℕ → List Bytes → List Bytes
onto_first b [] = (b ∷ []) ∷ []
onto_first b (piece ∷ pieces) = (b ∷ piece) ∷ pieces

-- the pieces of a text between the places of a separator, of which there is one at least
abbrev pub split : ℕ → Bytes → List Bytes
split separator [] = [] ∷ []
split separator (b ∷ bs) = if b == separator then [] ∷ split separator bs else onto_first b (split separator bs)

-- Lines end in LF. The last one may lack it, and after a last LF stands one empty line more.
abbrev pub lines_of : Bytes → List Bytes
lines_of text = split line_feed text

-- A line that is empty or begins with `#` is passed over.
abbrev pub is_passed : Bytes → Bool
is_passed [] = true
is_passed (b ∷ bs) = b == hash

-- ---- words

abbrev pub is_word_byte : ℕ → Bool
is_word_byte b = nat_le exclamation_mark b && nat_le b tilde

abbrev pub is_word : Bytes → Bool
is_word [] = false
is_word (b ∷ bs) = is_word_byte b && list_all is_word_byte bs

-- a word that does not begin with `<`
abbrev pub is_name : Bytes → Bool
is_name [] = false
is_name (b ∷ bs) = not (b == less_sign) && is_word (b ∷ bs)

-- 2 ^ 32
abbrev pub number_limit : ℕ
number_limit = 4294967296

-- Numbers fit 32 bits.
abbrev pub is_number : ℕ → Bool
is_number n = nat_lt n number_limit
