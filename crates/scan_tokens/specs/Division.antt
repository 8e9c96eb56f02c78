-- The division of a text into tokens, white space and comments (SLS 1): each piece is written as one of its shape, and no longer piece of
-- any shape begins where it begins.
use Rattle.std.specs.Prelude.{◌≡◌, ◌≤◌, ℕ, Bool, true, false, not, ◌||◌, ◌&&◌, ◌==◌, ◌⊎◌, List, [], ◌∷◌, ◌++◌, length, encode_utf8_all}
use Rattle.std.specs.Char.{is_ascii_alphanumeric, is_ascii_hexdigit}
use Rattle.pc_terms.specs.Bytes.{tab, line_feed, quote, apostrophe, star, slash, backslash, underscore, backquote, letter_u}
use Rattle.scan_tokens.specs.declared.characters.Class.{Class}
use Rattle.scan_tokens.specs.declared.characters.Class.TheVariants as class
use Rattle.scan_tokens.specs.declared.shapes.Shape.{Shape}
use Rattle.scan_tokens.specs.declared.shapes.Shape.TheVariants as shape
use Rattle.scan_tokens.specs.Characters.{Chars, class_of, is_space, is_letter_or_digit, next_are}
use Rattle.scan_tokens.specs.Kinds.{is_reserved}
use Rattle.scan_tokens.specs.Pieces.{Piece}

-- each character passes the test
abbrev pub Each : (ℕ → Bool) → Chars → Type 0
Each p [] = Unit {0}
Each p (c ∷ cs) = (p c ≡ true) × Each p cs

-- ---- comments (SLS 1.4)

-- what follows the /* of a comment: its */, or a character, or another comment, and what follows these
pub data Inside : Type 0 where
  End : Inside
  Other : ℕ → Inside → Inside
  Nested : Inside → Inside → Inside

abbrev pub inside_text : Inside → Chars
inside_text End = star ∷ slash ∷ []
inside_text (Other c i) = c ∷ inside_text i
inside_text (Nested j i) = slash ∷ star ∷ (inside_text j ++ inside_text i)

-- no other character is the first of a */ or /*
abbrev pub IsInside : Inside → Type 0
IsInside End = Unit {0}
IsInside (Other c i) = (next_are star slash (c ∷ inside_text i) ≡ false) × (next_are slash star (c ∷ inside_text i) ≡ false) × IsInside i
IsInside (Nested j i) = IsInside j × IsInside i

pub record IsBlockComment (piece : Chars) : Type 0 where
  pub inside : Inside
  pub proper : IsInside inside
  pub text : piece ≡ slash ∷ star ∷ inside_text inside

pub record IsLineComment (piece : Chars) : Type 0 where
  pub line : Chars
  pub text : piece ≡ slash ∷ slash ∷ line
  pub one_line : Each (λ c. not (c == line_feed)) line

-- a comment that nothing closes up to the end of the text
pub record IsOpenComment (piece after : Chars) : Type 0 where
  pub rest : Chars
  pub text : piece ≡ slash ∷ star ∷ rest
  pub last : after ≡ []
  pub not_closed : (front back : Chars) → piece ≡ front ++ back → IsBlockComment front → ⊥

-- ---- identifiers (SLS 1.1)

-- operator characters, at none of which a comment begins
abbrev pub AreOperators : Chars → Chars → Type 0
AreOperators [] after = Unit {0}
AreOperators (c ∷ cs) after =
    (class_of c ≡ class.Operator) × (next_are slash slash (c ∷ (cs ++ after)) ≡ false) × (next_are slash star (c ∷ (cs ++ after)) ≡ false) × AreOperators cs after

-- a letter, letters and digits, and where these end in _, operator characters
pub record IsPlain (piece after : Chars) : Type 0 where
  pub letter : ℕ
  pub run : Chars
  pub operators : Chars
  pub text : piece ≡ letter ∷ (run ++ operators)
  pub begins : class_of letter ≡ class.Letter
  pub runs : Each (λ c. is_letter_or_digit (class_of c)) run
  pub operates : AreOperators operators after
  pub low_line : (operators ≡ []) ⊎ ((front : Chars) × (run ≡ front ++ underscore ∷ []))

pub record IsOperator (piece after : Chars) : Type 0 where
  pub first : ℕ
  pub others : Chars
  pub text : piece ≡ first ∷ others
  pub operates : AreOperators piece after

pub record IsBackquoted (piece : Chars) : Type 0 where
  pub first : ℕ
  pub others : Chars
  pub text : piece ≡ backquote ∷ first ∷ (others ++ backquote ∷ [])
  pub between : Each (λ c. not (c == line_feed || c == tab || c == backquote)) (first ∷ others)

-- ---- numbers, characters and strings (SLS 1.3)

pub record IsRun (class : Class) (p : ℕ → Bool) (piece : Chars) : Type 0 where
  pub first : ℕ
  pub others : Chars
  pub text : piece ≡ first ∷ others
  pub begins : class_of first ≡ class
  pub runs : Each p others

-- a character or an escape in a literal
pub data Quotable : Type 0 where
  Bare : ℕ → Quotable
  Pair : ℕ → Quotable
  Unicode : (us : Chars) → (a b c d : ℕ) → Quotable

abbrev pub quotable_text : Quotable → Chars
quotable_text (Bare c) = c ∷ []
quotable_text (Pair c) = backslash ∷ c ∷ []
quotable_text (Unicode us a b c d) = backslash ∷ letter_u ∷ (us ++ a ∷ b ∷ c ∷ d ∷ [])

abbrev pub IsQuotable : Quotable → Type 0
IsQuotable (Bare c) = (c == apostrophe || c == line_feed || c == backslash) ≡ false
IsQuotable (Pair c) = (c == line_feed) ≡ false
IsQuotable (Unicode us a b c d) =
    Each (λ u. u == letter_u) us
    × (is_ascii_hexdigit a ≡ true) × (is_ascii_hexdigit b ≡ true) × (is_ascii_hexdigit c ≡ true) × (is_ascii_hexdigit d ≡ true)

pub record IsCharacter (piece : Chars) : Type 0 where
  pub quoted : Quotable
  pub proper : IsQuotable quoted
  pub text : piece ≡ apostrophe ∷ (quotable_text quoted ++ apostrophe ∷ [])

-- what stands in a string of one line: a character, or a \ with the character that it escapes
pub data Item : Type 0 where
  One : ℕ → Item
  Escaped : ℕ → Item

abbrev pub items_text : List Item → Chars
items_text [] = []
items_text (One c ∷ is) = c ∷ items_text is
items_text (Escaped c ∷ is) = backslash ∷ c ∷ items_text is

abbrev pub AreItems : List Item → Type 0
AreItems [] = Unit {0}
AreItems (One c ∷ is) = ((c == quote || c == line_feed || c == backslash) ≡ false) × AreItems is
AreItems (Escaped c ∷ is) = ((c == line_feed) ≡ false) × AreItems is

-- The strings stand here without the quote that begins them.
pub record IsLineString (piece : Chars) : Type 0 where
  pub items : List Item
  pub proper : AreItems items
  pub text : piece ≡ items_text items ++ quote ∷ []

-- three quotes begin at none of these characters
abbrev pub HasNoThree : Chars → Chars → Type 0
HasNoThree [] after = Unit {0}
HasNoThree (c ∷ cs) after = ((c == quote && next_are quote quote (cs ++ after)) ≡ false) × HasNoThree cs after

-- three quotes, what holds no three quotes, and three quotes or more
pub record IsRawString (piece after : Chars) : Type 0 where
  pub body : Chars
  pub quotes : Chars
  pub text : piece ≡ quote ∷ quote ∷ (body ++ (quote ∷ quote ∷ quote ∷ quotes))
  pub first_three : HasNoThree body (quote ∷ quote ∷ quote ∷ (quotes ++ after))
  pub only_quotes : Each (λ c. c == quote) quotes

-- a string that no quote closes: of one line, or up to the end of the text after three quotes
pub record IsOpenLine (piece : Chars) : Type 0 where
  pub items : List Item
  pub proper : AreItems items
  pub text : (piece ≡ items_text items) ⊎ (piece ≡ items_text items ++ backslash ∷ [])

pub record IsOpenRaw (piece after : Chars) : Type 0 where
  pub body : Chars
  pub text : piece ≡ quote ∷ quote ∷ body
  pub last : after ≡ []
  pub no_three : HasNoThree body []

abbrev pub IsString : Shape → Chars → Chars → Type 0
IsString shape.LineString piece after = IsLineString piece
IsString shape.RawString piece after = IsRawString piece after
IsString shape.OpenString piece after = IsOpenLine piece ⊎ IsOpenRaw piece after
IsString _ piece after = ⊥

pub record IsQuoted (shape : Shape) (piece after : Chars) : Type 0 where
  pub string : Chars
  pub text : piece ≡ quote ∷ string
  pub strings : IsString shape string after

-- an identifier that is not reserved, and a string that follows at once
pub record IsInterpolated (piece after : Chars) : Type 0 where
  pub name : Chars
  pub shape : Shape
  pub string : Chars
  pub text : piece ≡ name ++ quote ∷ string
  pub plain : IsPlain name (quote ∷ (string ++ after))
  pub not_reserved : is_reserved (encode_utf8_all name) ≡ false
  pub strings : IsString shape string after

pub record IsOne (class : Class) (piece : Chars) : Type 0 where
  pub first : ℕ
  pub text : piece ≡ first ∷ []
  pub begins : class_of first ≡ class

-- ---- pieces

-- a piece is written as one of this shape, where `after` follows it
abbrev pub Fits : Shape → Chars → Chars → Type 0
Fits shape.Space piece after = IsRun class.Space is_space piece
Fits shape.Comment piece after = IsLineComment piece ⊎ IsBlockComment piece
Fits shape.OpenComment piece after = IsOpenComment piece after
Fits shape.Plain piece after = IsPlain piece after
Fits shape.Operator piece after = IsOperator piece after
Fits shape.Backquoted piece after = IsBackquoted piece
Fits shape.Number piece after = IsRun class.Digit is_ascii_alphanumeric piece
Fits shape.Character piece after = IsCharacter piece
Fits shape.Apostrophe piece after = IsOne class.Apostrophe piece
Fits shape.LineString piece after = IsQuoted shape.LineString piece after
Fits shape.RawString piece after = IsQuoted shape.RawString piece after
Fits shape.OpenString piece after = IsQuoted shape.OpenString piece after
Fits shape.Interpolated piece after = IsInterpolated piece after
Fits shape.Delimiter piece after = IsOne class.Delimiter piece
Fits shape.Illegal piece after = IsOne class.Other piece ⊎ IsOne class.Backquote piece

-- the piece with which a text begins
pub record IsNext (text : Chars) (p : Piece) : Type 0 where
  pub from : p.from ≡ text
  pub piece : Chars
  pub joined : text ≡ piece ++ p.after
  pub fits : Fits p.shape piece p.after
  pub longest : (shape : Shape) (other after : Chars) → text ≡ other ++ after → Fits shape other after → length other ≤ length piece

abbrev pub IsDivision : Chars → List Piece → Type 0
IsDivision text [] = text ≡ []
IsDivision text (p ∷ ps) = IsNext text p × IsDivision p.after ps
