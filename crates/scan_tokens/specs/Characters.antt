-- The characters of a text, each a Unicode code point, by what they can be part of (SLS 1).
use Rattle.std.specs.Prelude.{ℕ, ◌-◌, Bool, true, false, not, ◌||◌, ◌&&◌, ◌==◌, nat_le, if◌then◌else◌, List, [], ◌∷◌, length, encode_utf8_all, take, codes}
use Rattle.std.specs.List.{list_any}
use Rattle.std.specs.Char.{is_ascii_alphanumeric}
use Rattle.pc_terms.specs.Bytes.{tab, line_feed, form_feed, carriage_return, space, quote, dollar, apostrophe, digit_zero, digit_nine, underscore, backquote, letter_u}
use Rattle.unicode.specs.GeneralCategory.{general_category}
use Rattle.ucd_category.specs.declared.GeneralCategory.{GeneralCategory}
use Rattle.ucd_category.specs.declared.GeneralCategory.TheVariants.{OtherLetter, LetterNumber, MathSymbol, OtherSymbol}
use Rattle.ucd_category.specs.declared.GeneralCategoryGroup.TheVariants.{CasedLetter}
use Rattle.ucd_category.specs.GeneralCategoryGroup.{in_group}
use Rattle.scan_tokens.specs.declared.characters.Class.{Class}
use Rattle.scan_tokens.specs.declared.characters.Class.TheVariants.{Space, Letter, Digit, Operator, Delimiter, Apostrophe, Quote, Backquote, Other}
use Rattle.scan_tokens.specs.declared.characters.Run.{Run}
use Rattle.scan_tokens.specs.declared.characters.Run.TheVariants.{Spaces, LettersAndDigits, AsciiAlphanumerics, LineRest, BetweenBackquotes, Quotes, Us}

-- the characters from one of the text on
abbrev pub Chars : Type 0
Chars = List ℕ

-- the categories of letters: those with a case, and two more
abbrev pub is_letter : GeneralCategory → Bool
is_letter OtherLetter = true
is_letter LetterNumber = true
is_letter category = in_group CasedLetter category

abbrev pub class_in : GeneralCategory → Class
class_in MathSymbol = Operator
class_in OtherSymbol = Operator
class_in category = if is_letter category then Letter else Other

abbrev pub is_space : ℕ → Bool
is_space c = c == space || c == tab || c == carriage_return || c == line_feed || c == form_feed

abbrev pub is_digit : ℕ → Bool
is_digit c = nat_le digit_zero c && nat_le c digit_nine

-- the character is one of these
abbrev pub is_one_of : List ℕ → ℕ → Bool
is_one_of among c = list_any (λ d. c == d) among

abbrev pub is_delimiter : ℕ → Bool
is_delimiter c = is_one_of (codes "()[]{}.,;") c

abbrev pub is_ascii_operator : ℕ → Bool
is_ascii_operator c = is_one_of (codes "!#%&*+-/:<=>?@\\^|~") c

unfoldable pub class_of : ℕ → Class
class_of c =
    if is_space c then Space else (if is_digit c then Digit else (if c == apostrophe then Apostrophe else (if c == quote then Quote else (if c == backquote then Backquote
    else (if c == dollar || c == underscore then Letter else (if is_delimiter c then Delimiter else (if is_ascii_operator c then Operator
    else class_in (general_category c))))))))

abbrev pub is_operator : Class → Bool
is_operator Operator = true
is_operator _ = false

abbrev pub is_letter_or_digit : Class → Bool
is_letter_or_digit Letter = true
is_letter_or_digit Digit = true
is_letter_or_digit _ = false

unfoldable pub in_run : Run → ℕ → Bool
in_run Spaces c = is_space c
in_run LettersAndDigits c = is_letter_or_digit (class_of c)
in_run AsciiAlphanumerics c = is_ascii_alphanumeric c
in_run LineRest c = not (c == line_feed)
in_run BetweenBackquotes c = not (c == line_feed || c == tab || c == backquote)
in_run Quotes c = c == quote
in_run Us c = c == letter_u

-- from the first character on that is not of the run
abbrev pub past : Run → Chars → Chars
past r [] = []
past r (c ∷ cs) = if in_run r c then past r cs else c ∷ cs

-- the first character is this one
abbrev pub next_is : ℕ → Chars → Bool
next_is d [] = false
next_is d (c ∷ cs) = c == d

-- the first two characters are these
abbrev pub next_are : ℕ → ℕ → Chars → Bool
next_are d e [] = false
next_are d e (c ∷ cs) = c == d && next_is e cs

-- without the first character
abbrev pub past_one : Chars → Chars
past_one [] = []
past_one (c ∷ cs) = cs

-- how many bytes the characters have in UTF-8
abbrev pub byte_len : Chars → ℕ
byte_len cs = length (encode_utf8_all cs)

-- the byte at which the characters begin that are left of a text of so many bytes
abbrev pub offset : ℕ → Chars → ℕ
offset total left = total - byte_len left

-- the bytes from the first characters on, up to the later ones
abbrev pub bytes_up_to : Chars → Chars → List ℕ
bytes_up_to from after = take (byte_len from - byte_len after) (encode_utf8_all from)
