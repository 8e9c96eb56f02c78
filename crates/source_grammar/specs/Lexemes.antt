-- The tokens as the grammar sees them: each says what is written there, so that a part of the grammar never looks into the text.
use Rattle.std.specs.Prelude.{◌-◌, Bool, if◌then◌else◌, List, [], ◌∷◌, length, map, codes, slice_range}
use Rattle.pc_terms.specs.declared.problems.Span.{Span}
use Rattle.scan_tokens.specs.declared.tokens.Newline.{Newline}
use Rattle.scan_tokens.specs.declared.tokens.Token.{Token}
use Rattle.scan_tokens.specs.declared.tokens.TokenKind.{TokenKind}
use Rattle.scan_tokens.specs.declared.tokens.TokenKind.TheVariants as kind
use Rattle.scan_tokens.specs.declared.tokens.Tokens.{Tokens}
use Rattle.scan_tokens.specs.Words.{Bytes, double_arrow, left_arrow}

-- where a token stands, and the newline that counts before it
pub record Place : Type 0 where
  pub span : Span
  pub before : Newline

-- a token, with its bytes; those of an identifier in backquotes are the ones between these
pub record Lexeme : Type 0 where
  pub kind : TokenKind
  pub word : Bytes
  pub place : Place

-- ---- the lexemes of a text

abbrev pub bytes_in : Bytes → Span → Bytes
bytes_in text span = slice_range text span.start span.end

abbrev pub between_backquotes : Bytes → Bytes
between_backquotes word = slice_range word 1 (length word - 1)

abbrev pub word_of : TokenKind → Bytes → Bytes
word_of kind.BackId word = between_backquotes word
word_of _ word = word

unfoldable pub lexeme_of : Bytes → Token → Lexeme
lexeme_of text token = record {
  kind = token.kind;
  word = word_of token.kind (bytes_in text token.span);
  place = record { span = token.span; before = token.before };
}

unfoldable pub lexemes : Tokens → List Lexeme
lexemes found = map (lexeme_of found.text) found.tokens

-- ---- the tokens of the grammar, by their places

abbrev pub token_at : TokenKind → Bytes → Place → Lexeme
token_at kind word place = record { kind = kind; word = word; place = place }

-- a reserved word
abbrev pub word_at : Bytes → Place → Lexeme
word_at = token_at kind.Word

-- a reserved sign
abbrev pub sign_at : Bytes → Place → Lexeme
sign_at = token_at kind.Sign

abbrev pub delimiter_at : Bytes → Place → Lexeme
delimiter_at = token_at kind.Delimiter

-- an identifier that the grammar writes, as | or -
abbrev pub plain_at : Bytes → Place → Lexeme
plain_at = token_at kind.Id

abbrev pub open_round : Place → Lexeme
open_round = delimiter_at (codes "(")

abbrev pub close_round : Place → Lexeme
close_round = delimiter_at (codes ")")

abbrev pub open_square : Place → Lexeme
open_square = delimiter_at (codes "[")

abbrev pub close_square : Place → Lexeme
close_square = delimiter_at (codes "]")

abbrev pub open_curly : Place → Lexeme
open_curly = delimiter_at (codes "{")

abbrev pub close_curly : Place → Lexeme
close_curly = delimiter_at (codes "}")

abbrev pub comma : Place → Lexeme
comma = delimiter_at (codes ",")

abbrev pub dot : Place → Lexeme
dot = delimiter_at (codes ".")

abbrev pub semicolon : Place → Lexeme
semicolon = delimiter_at (codes ";")

abbrev pub underscore : Place → Lexeme
underscore = sign_at (codes "_")

abbrev pub colon : Place → Lexeme
colon = sign_at (codes ":")

abbrev pub equals : Place → Lexeme
equals = sign_at (codes "=")

abbrev pub at_sign : Place → Lexeme
at_sign = sign_at (codes "@")

abbrev pub bar : Place → Lexeme
bar = plain_at (codes "|")

abbrev pub minus : Place → Lexeme
minus = plain_at (codes "-")

-- `=>`, or U+21D2
pub record Arrow : Type 0 where
  pub one_character : Bool
  pub place : Place

abbrev pub arrow_token : Arrow → Lexeme
arrow_token arrow = sign_at (if arrow.one_character then double_arrow else codes "=>") arrow.place

-- `<-`, or U+2190
pub record BackArrow : Type 0 where
  pub one_character : Bool
  pub place : Place

abbrev pub back_arrow_token : BackArrow → Lexeme
back_arrow_token arrow = sign_at (if arrow.one_character then left_arrow else codes "<-") arrow.place

-- id (SLS 1.1): the name is without backquotes, the place with them
pub record Id : Type 0 where
  pub name : Bytes
  pub quoted : Bool
  pub place : Place

abbrev pub id_token : Id → Lexeme
id_token id = token_at (if id.quoted then kind.BackId else kind.Id) id.name id.place

-- QualId : id {'.' id}
pub record Step : Type 0 where
  pub point : Place
  pub id : Id

pub record QualId : Type 0 where
  pub first : Id
  pub steps : List Step

abbrev pub steps_tokens : List Step → List Lexeme
steps_tokens [] = []
steps_tokens (step ∷ steps) = dot step.point ∷ id_token step.id ∷ steps_tokens steps

abbrev pub qual_id_tokens : QualId → List Lexeme
qual_id_tokens path = id_token path.first ∷ steps_tokens path.steps

-- ---- literals (SLS 1.3)

pub data Literal : Type 0 where
  IntLiteral : Bytes → Place → Literal
  LongLiteral : Bytes → Place → Literal
  CharLiteral : Bytes → Place → Literal
  StringLiteral : Bytes → Place → Literal
  TrueLiteral : Place → Literal
  FalseLiteral : Place → Literal
  NullLiteral : Place → Literal

abbrev pub literal_token : Literal → Lexeme
literal_token (IntLiteral text place) = token_at kind.Int text place
literal_token (LongLiteral text place) = token_at kind.Long text place
literal_token (CharLiteral text place) = token_at kind.Char text place
literal_token (StringLiteral text place) = token_at kind.Str text place
literal_token (TrueLiteral place) = word_at (codes "true") place
literal_token (FalseLiteral place) = word_at (codes "false") place
literal_token (NullLiteral place) = word_at (codes "null") place

abbrev pub literal_text : Literal → Bytes
literal_text literal = (literal_token literal).word

abbrev pub literal_place : Literal → Place
literal_place literal = (literal_token literal).place

-- an Int or Long, before which a minus may stand
pub record Number : Type 0 where
  pub is_long : Bool
  pub text : Bytes
  pub place : Place

abbrev pub number_token : Number → Lexeme
number_token n = token_at (if n.is_long then kind.Long else kind.Int) n.text n.place
