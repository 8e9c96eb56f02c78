-- Character and string literals (SLS 1.3). A text stands here without the quote that begins it.
use Rattle.std.specs.Prelude.{ℕ, ◌-◌, Bool, true, false, not, ◌||◌, ◌&&◌, ◌==◌, if◌then◌else◌, List, [], ◌∷◌, Option, Some, None, option_and_then, is_some, unwrap_or, codes}
use Rattle.std.specs.Char.{is_ascii_hexdigit}
use Rattle.pc_terms.specs.Bytes.{line_feed, quote, apostrophe, backslash, letter_u}
use Rattle.pc_terms.specs.declared.problems.Span.{Span}
use Rattle.scan_tokens.specs.declared.characters.Run.TheVariants.{Quotes, Us}
use Rattle.scan_tokens.specs.declared.shapes.Shape.{Shape}
use Rattle.scan_tokens.specs.declared.shapes.Shape.TheVariants as shape
use Rattle.scan_tokens.specs.Characters.{Chars, is_one_of, past, next_is, next_are, past_one, offset}

-- a piece of the text by its shape, and what comes after it
abbrev pub Cut : Type 0
Cut = Shape × Chars

-- ---- escapes

abbrev pub past_hex : Chars → Option Chars
past_hex [] = None
past_hex (c ∷ cs) = if is_ascii_hexdigit c then Some cs else None

-- past one or more u and four hexadecimal digits
unfoldable pub past_unicode : Chars → Option Chars
past_unicode cs = if next_is letter_u cs then option_and_then past_hex (option_and_then past_hex (option_and_then past_hex (past_hex (past Us cs)))) else None

abbrev pub is_escaped_letter : ℕ → Bool
is_escaped_letter c = is_one_of (codes "btnfr\"'\\") c

-- what follows a \ makes one of the escapes with it
unfoldable pub is_escape : Chars → Bool
is_escape [] = false
is_escape (c ∷ cs) = is_escaped_letter c || is_some (past_unicode (c ∷ cs))

-- Where the pairs of a \ and a character are that are no escape, up to the closing quote; `escaped` says that a \ stands before.
abbrev pub bad_escapes : ℕ → ℕ → Bool → Chars → List Span
bad_escapes total closing escaped [] = []
bad_escapes total closing true (c ∷ cs) =
    if is_escape (c ∷ cs) then bad_escapes total closing false cs
    else record { start = offset total (c ∷ cs) - 1; end = offset total cs } ∷ bad_escapes total closing false cs
bad_escapes total closing false (c ∷ cs) = if c == closing then [] else bad_escapes total closing (c == backslash) cs

-- ---- character literals

-- past what follows a \
unfoldable pub past_escape : Chars → Option Chars
past_escape [] = None
past_escape (c ∷ cs) = if c == line_feed then None else Some (unwrap_or (past_unicode (c ∷ cs)) cs)

-- past one character or escape
unfoldable pub past_character : Chars → Option Chars
past_character [] = None
past_character (c ∷ cs) = if c == apostrophe || c == line_feed then None else (if c == backslash then past_escape cs else Some cs)

-- the quote alone, where it begins no literal
abbrev pub closed_character : Chars → Option Chars → Cut
closed_character cs None = (shape.Apostrophe, cs)
closed_character cs (Some after) = if next_is apostrophe after then (shape.Character, past_one after) else (shape.Apostrophe, cs)

unfoldable pub character : Chars → Cut
character cs = closed_character cs (past_character cs)

-- ---- strings

-- a string of one line; `escaped` says that a \ stands before
abbrev pub line_string : Bool → Chars → Cut
line_string escaped [] = (shape.OpenString, [])
line_string escaped (c ∷ cs) =
    if c == line_feed then (shape.OpenString, c ∷ cs)
    else (if not escaped && c == quote then (shape.LineString, cs) else line_string (not escaped && c == backslash) cs)

-- a string after its three quotes
abbrev pub raw_string : Chars → Cut
raw_string [] = (shape.OpenString, [])
raw_string (c ∷ cs) = if c == quote && next_are quote quote cs then (shape.RawString, past Quotes cs) else raw_string cs

unfoldable pub string : Chars → Cut
string cs = if next_are quote quote cs then raw_string (past_one (past_one cs)) else line_string false cs
