-- The piece at the front of a text: a token, white space or a comment (SLS 1).
use Rattle.std.specs.Prelude.{true, ℕ, ◌+◌, ◌-◌, Bool, false, not, ◌||◌, ◌&&◌, ◌==◌, if◌then◌else◌, [], ◌∷◌}
use Rattle.pc_terms.specs.Bytes.{quote, star, slash, underscore, backquote}
use Rattle.scan_tokens.specs.declared.characters.Class.{Class}
use Rattle.scan_tokens.specs.declared.characters.Class.TheVariants as class
use Rattle.scan_tokens.specs.declared.characters.Run.TheVariants.{Spaces, AsciiAlphanumerics, LineRest, BetweenBackquotes}
use Rattle.scan_tokens.specs.declared.shapes.Shape.TheVariants as shape
use Rattle.scan_tokens.specs.Characters.{Chars, class_of, is_operator, is_letter_or_digit, past, next_is, next_are, past_one, bytes_up_to}
use Rattle.scan_tokens.specs.Literals.{Cut, character, string}
use Rattle.scan_tokens.specs.Kinds.{is_reserved}

-- // or /*
unfoldable pub begins_comment : Chars → Bool
begins_comment cs = next_are slash slash cs || next_are slash star cs

-- a run of operator characters, which ends before a comment
abbrev pub past_operators : Chars → Chars
past_operators [] = []
past_operators (c ∷ cs) = if is_operator (class_of c) && not (begins_comment (c ∷ cs)) then past_operators cs else c ∷ cs

-- A plain identifier after its first letter. `after_underscore` says that the run of letters and digits so far ends in _ (SLS 1.1).
abbrev pub past_name : Bool → Chars → Chars
past_name after_underscore [] = []
past_name after_underscore (c ∷ cs) =
    if is_letter_or_digit (class_of c) then past_name (c == underscore) cs else (if after_underscore then past_operators (c ∷ cs) else c ∷ cs)

-- A plain identifier that is not reserved makes one piece with a string that follows at once.
abbrev pub named : Chars → Chars → Cut
named from after =
    if next_is quote after && not (is_reserved (bytes_up_to from after)) then (shape.Interpolated, (string (past_one after)).1) else (shape.Plain, after)

-- The rest of a comment (SLS 1.4). `depth` comments are open around the innermost one. `second` says that the next character is the
-- second of a /* or */ that has been seen.
abbrev pub comment : ℕ → Bool → Chars → Cut
comment depth second [] = (shape.OpenComment, [])
comment depth true (c ∷ cs) = comment depth false cs
comment depth false (c ∷ cs) =
    if c == star && next_is slash cs then (if depth == 0 then (shape.Comment, past_one cs) else comment (depth - 1) true cs)
    else (if c == slash && next_is star cs then comment (depth + 1) true cs else comment depth false cs)

abbrev pub operator : ℕ → Chars → Cut
operator c cs =
    if c == slash && next_is slash cs then (shape.Comment, past LineRest cs)
    else (if c == slash && next_is star cs then comment 0 false (past_one cs) else (shape.Operator, past_operators cs))

abbrev pub backquoted : Chars → Cut
backquoted cs =
    let after = past BetweenBackquotes cs in if not (next_is backquote cs) && next_is backquote after then (shape.Backquoted, past_one after) else (shape.Illegal, cs)

-- a piece that begins with the character c of a class
abbrev pub begun : Class → ℕ → Chars → Cut
begun class.Space c cs = (shape.Space, past Spaces cs)
begun class.Letter c cs = named (c ∷ cs) (past_name false cs)
begun class.Digit c cs = (shape.Number, past AsciiAlphanumerics cs)
begun class.Operator c cs = operator c cs
begun class.Delimiter c cs = (shape.Delimiter, cs)
begun class.Apostrophe c cs = character cs
begun class.Quote c cs = string cs
begun class.Backquote c cs = backquoted cs
begun class.Other c cs = (shape.Illegal, cs)

unfoldable pub read : Chars → Cut
read [] = (shape.Space, [])
read (c ∷ cs) = begun (class_of c) c cs
