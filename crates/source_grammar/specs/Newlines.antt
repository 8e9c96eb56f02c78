-- Where a newline that counts may stand before a token (SLS 1.2).
use Rattle.std.specs.Prelude.{◌≡◌, Bool, true, false, List, [], ◌∷◌}
use Rattle.scan_tokens.specs.declared.tokens.Newline.{Newline}
use Rattle.scan_tokens.specs.declared.tokens.Newline.TheVariants.{No, Blank}
use Rattle.source_grammar.specs.Lexemes.{Place, Lexeme}

-- no newline counts before the token
abbrev pub IsJoined : Place → Type 0
IsJoined place = place.before ≡ No

abbrev pub is_near : Newline → Bool
is_near Blank = false
is_near _ = true

-- nl: at most a newline without an empty line
abbrev pub IsNear : Place → Type 0
IsNear place = is_near place.before ≡ true

-- the newline before the first of some tokens
abbrev pub newline_before : List Lexeme → Newline
newline_before [] = No
newline_before (x ∷ xs) = x.place.before

-- the same of the first token of a part
abbrev pub IsJoinedPart : List Lexeme → Type 0
IsJoinedPart xs = newline_before xs ≡ No

abbrev pub IsNearPart : List Lexeme → Type 0
IsNearPart xs = is_near (newline_before xs) ≡ true
