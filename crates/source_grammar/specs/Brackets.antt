-- Brackets that match, and how many are open at one place.
use Rattle.std.specs.Prelude.{ℕ, max, Bool, true, false, not, ◌||◌, ◌&&◌, if◌then◌else◌, List, [], ◌∷◌, length, Option, Some, None, is_some, codes}
use Rattle.std.specs.Str.{bytes_eq}
use Rattle.pc_terms.specs.declared.problems.Span.{Span}
use Rattle.scan_tokens.specs.declared.tokens.TokenKind.{TokenKind}
use Rattle.scan_tokens.specs.declared.tokens.TokenKind.TheVariants as kind
use Rattle.scan_tokens.specs.declared.roles.Bracket.{Bracket}
use Rattle.scan_tokens.specs.declared.roles.Role.{Role}
use Rattle.scan_tokens.specs.declared.roles.Role.TheVariants.{Opens, Closes, Case}
use Rattle.scan_tokens.specs.Newlines.{role_of, same_bracket, is_template}
use Rattle.scan_tokens.specs.Words.{double_arrow}
use Rattle.scan_tokens.specs.declared.tokens.Newline.{Newline}
use Rattle.scan_tokens.specs.declared.tokens.Newline.TheVariants.{No}
use Rattle.source_grammar.specs.Lexemes.{Lexeme}

-- what a token does as a bracket
abbrev pub role : Lexeme → Role
role x = role_of x.kind x.word

-- a bracket that is open, and where it stands
pub record Opened : Type 0 where
  pub bracket : Bracket
  pub span : Span

abbrev pub list_is_empty : List Opened → Bool
list_is_empty [] = true
list_is_empty (opened ∷ rest) = false

abbrev pub is_delimiter_kind : TokenKind → Bool
is_delimiter_kind kind.Delimiter = true
is_delimiter_kind _ = false

abbrev pub matches : Bracket → List Opened → Bool
matches b [] = false
matches b (opened ∷ rest) = same_bracket opened.bracket b

abbrev pub without_first : List Opened → List Opened
without_first [] = []
without_first (opened ∷ rest) = rest

-- the first bracket that was left open
abbrev pub outermost : Opened → List Opened → Span
outermost opened [] = opened.span
outermost opened (next ∷ rest) = outermost next rest

abbrev pub left_open : List Opened → Option Span
left_open [] = None
left_open (opened ∷ rest) = Some (outermost opened rest)

-- the brackets that are open after a token, the innermost first
abbrev pub opened_after : Role → Span → List Opened → List Opened
opened_after (Opens b) span opened = record { bracket = b; span = span } ∷ opened
opened_after (Closes b) span opened = without_first opened
opened_after _ span opened = opened

abbrev pub open_after : Lexeme → List Opened → List Opened
open_after x opened = opened_after (role x) x.place.span opened

abbrev pub closes_wrongly : Role → List Opened → Bool
closes_wrongly (Closes b) opened = not (matches b opened)
closes_wrongly _ opened = false

-- Where brackets do not match: the first closing one that does not match the last open one, else the first one that is left open.
abbrev pub unmatched : List Opened → List Lexeme → Option Span
unmatched opened [] = left_open opened
unmatched opened (x ∷ xs) = if closes_wrongly (role x) opened then Some x.place.span else unmatched (open_after x opened) xs

unfoldable pub is_balanced : List Lexeme → Bool
is_balanced xs = not (is_some (unmatched [] xs))

-- the greatest number of brackets that are open at one place
abbrev pub most_open : List Opened → List Lexeme → ℕ
most_open opened [] = length opened
most_open opened (x ∷ xs) = max (length opened) (most_open (open_after x opened) xs)

-- ---- outside brackets

abbrev pub is_semicolon : Lexeme → Bool
is_semicolon x = is_delimiter_kind x.kind && bytes_eq x.word (codes ";")

abbrev pub has_newline : Newline → Bool
has_newline No = false
has_newline _ = true

-- a newline that counts, or a semicolon, which separates statements
abbrev pub separates : Lexeme → Bool
separates x = is_semicolon x || has_newline x.place.before

-- outside brackets no token after these separates statements
abbrev pub has_no_separator : List Opened → List Lexeme → Bool
has_no_separator opened [] = true
has_no_separator opened (x ∷ xs) = (not (list_is_empty opened) || not (separates x)) && has_no_separator (open_after x opened) xs

-- one piece of a list of statements: one token or more, without a separator outside brackets, and all brackets match
abbrev pub is_piece : List Lexeme → Bool
is_piece [] = false
is_piece (x ∷ xs) = not (is_semicolon x) && has_no_separator (open_after x []) xs && is_balanced (x ∷ xs)

abbrev pub is_case_role : Role → Bool
is_case_role Case = true
is_case_role _ = false

abbrev pub begins_template : List Lexeme → Bool
begins_template [] = false
begins_template (x ∷ xs) = is_template (role x)

-- `case`, where no class or object follows
abbrev pub begins_case : List Lexeme → Bool
begins_case [] = false
begins_case (x ∷ xs) = is_case_role (role x) && not (begins_template xs)

-- outside brackets no case begins
abbrev pub has_no_case : List Opened → List Lexeme → Bool
has_no_case opened [] = true
has_no_case opened (x ∷ xs) = (not (list_is_empty opened) || not (begins_case (x ∷ xs))) && has_no_case (open_after x opened) xs

abbrev pub is_sign_kind : TokenKind → Bool
is_sign_kind kind.Sign = true
is_sign_kind _ = false

abbrev pub is_arrow : Lexeme → Bool
is_arrow x = is_sign_kind x.kind && (bytes_eq x.word double_arrow || bytes_eq x.word (codes "=>"))

-- outside brackets no `=>` stands
abbrev pub has_no_arrow : List Opened → List Lexeme → Bool
has_no_arrow opened [] = true
has_no_arrow opened (x ∷ xs) = (not (list_is_empty opened) || not (is_arrow x)) && has_no_arrow (open_after x opened) xs
