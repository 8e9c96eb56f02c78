-- A text as its pieces, and the tokens and problems of these.
use Rattle.std.specs.Prelude.{ℕ, zero, suc, List, [], ◌∷◌, ◌++◌, length, map, codes, Option, Some, None, false}
use Rattle.std.specs.Option.{option_to_list}
use Rattle.std.specs.List.{flat_map}
use Rattle.pc_terms.specs.Bytes.{quote, apostrophe}
use Rattle.pc_terms.specs.declared.problems.Span.{Span}
use Rattle.pc_terms.specs.declared.problems.Problem.{Problem}
use Rattle.pc_terms.specs.declared.problems.Code.{Code}
use Rattle.pc_terms.specs.declared.problems.Code.TheVariants.{S1, S2, S3, S4, S5}
use Rattle.scan_tokens.specs.declared.problems.Fault.{Fault}
use Rattle.scan_tokens.specs.declared.problems.Fault.TheVariants as fault
use Rattle.scan_tokens.specs.declared.tokens.Token.{Token}
use Rattle.scan_tokens.specs.declared.tokens.TokenKind.{TokenKind}
use Rattle.scan_tokens.specs.declared.tokens.TokenKind.TheVariants as kind
use Rattle.scan_tokens.specs.declared.tokens.Newline.TheVariants.{No}
use Rattle.scan_tokens.specs.declared.shapes.Shape.{Shape}
use Rattle.scan_tokens.specs.declared.shapes.Shape.TheVariants as shape
use Rattle.scan_tokens.specs.Characters.{Chars, past_one, offset, bytes_up_to}
use Rattle.scan_tokens.specs.Literals.{bad_escapes}
use Rattle.scan_tokens.specs.Reading.{read}
use Rattle.scan_tokens.specs.Kinds.{kind_of, number_kind}
use Rattle.scan_tokens.specs.Words.{Bytes}

-- the characters from `from` on, up to where those begin that are left after it
pub record Piece : Type 0 where
  pub shape : Shape
  pub from : Chars
  pub after : Chars

abbrev pub piece_at : Chars → Piece
piece_at cs = record { shape = (read cs).0; from = cs; after = (read cs).1 }

-- the number is at least that of the pieces
abbrev pub pieces_within : ℕ → Chars → List Piece
pieces_within n [] = []
pieces_within zero (c ∷ cs) = []
pieces_within (suc n) (c ∷ cs) = piece_at (c ∷ cs) ∷ pieces_within n (read (c ∷ cs)).1

-- the pieces one after another, each read from where the one before it ends
unfoldable pub pieces : Chars → List Piece
pieces cs = pieces_within (length cs) cs

abbrev pub span_of : ℕ → Chars → Chars → Span
span_of total from after = record { start = offset total from; end = offset total after }

abbrev pub bytes_of : Piece → Bytes
bytes_of p = bytes_up_to p.from p.after

abbrev pub token_at : Option TokenKind → Span → List Token
token_at None span = []
token_at (Some kind) span = record { kind = kind; span = span; before = No } ∷ []

-- its token, if it is one
unfoldable pub token_of : ℕ → Piece → List Token
token_of total p = token_at (kind_of p.shape (bytes_of p)) (span_of total p.from p.after)

-- ---- problems

abbrev pub number_fault : TokenKind → Option Fault
number_fault kind.Error = Some fault.NumberOrEscape
number_fault _ = None

-- what is wrong with the whole of a piece
abbrev pub fault_of : Shape → Bytes → Option Fault
fault_of shape.OpenComment bytes = Some fault.Comment
fault_of shape.Number bytes = number_fault (number_kind bytes)
fault_of shape.Apostrophe bytes = Some fault.Literal
fault_of shape.OpenString bytes = Some fault.Literal
fault_of shape.Interpolated bytes = Some fault.Interpolated
fault_of shape.Illegal bytes = Some fault.Character
fault_of _ bytes = None

abbrev pub code_of : Fault → Code
code_of fault.Character = S1
code_of fault.Literal = S2
code_of fault.Comment = S3
code_of fault.NumberOrEscape = S4
code_of fault.Interpolated = S5

abbrev pub message_of : Fault → Bytes
message_of fault.Character = codes "illegal character"
message_of fault.Literal = codes "unclosed literal"
message_of fault.Comment = codes "unclosed comment"
message_of fault.NumberOrEscape = codes "bad number or escape"
message_of fault.Interpolated = codes "interpolated string"

abbrev pub problem_of : Fault → Span → Problem
problem_of fault span = record { code = code_of fault; span = span; text = message_of fault }

-- where the pairs are in a piece that are no escape: in character literals and strings of one line
abbrev pub bad_escapes_of : ℕ → Shape → Chars → List Span
bad_escapes_of total shape.Character cs = bad_escapes total apostrophe false (past_one cs)
bad_escapes_of total shape.LineString cs = bad_escapes total quote false (past_one cs)
bad_escapes_of total _ cs = []

-- what is wrong with a piece as a whole, and in it
abbrev pub problems_at : ℕ → Shape → Chars → Option Fault → Span → List Problem
problems_at total shape from found span =
    map (λ f. problem_of f span) (option_to_list found) ++ map (problem_of fault.NumberOrEscape) (bad_escapes_of total shape from)

unfoldable pub problems_of : ℕ → Piece → List Problem
problems_of total p = problems_at total p.shape p.from (fault_of p.shape (bytes_of p)) (span_of total p.from p.after)

-- the tokens and the problems of the rest of a text of so many bytes; where newlines count is not said yet
unfoldable pub tokens_in : ℕ → Chars → List Token
tokens_in total cs = flat_map (token_of total) (pieces cs)

unfoldable pub problems_in : ℕ → Chars → List Problem
problems_in total cs = flat_map (problems_of total) (pieces cs)
