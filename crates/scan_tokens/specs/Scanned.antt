-- What the scanner gives of a text.
use Rattle.std.specs.Prelude.{◌≡◌, length, map, List, [], false}
use Rattle.std.specs.List.{flat_map}
use Rattle.std.specs.Str.{chars}
use Rattle.scan_tokens.specs.declared.tokens.Newline.TheVariants.{No}
use Rattle.scan_tokens.specs.declared.tokens.Token.{Token}
use Rattle.scan_tokens.specs.declared.tokens.Tokens.{Tokens}
use Rattle.scan_tokens.specs.Words.{Bytes}
use Rattle.scan_tokens.specs.Pieces.{Piece, token_of, problems_of, tokens_in, problems_in}
use Rattle.scan_tokens.specs.Newlines.{marked}

unfoldable pub scanned : Bytes → Tokens
scanned text = record {
  text = text;
  tokens = marked text 0 false [] (tokens_in (length text) (chars text));
  problems = problems_in (length text) (chars text);
}

-- a token without the newline before it
abbrev pub unmarked : Token → Token
unmarked t = record t { before = No }

-- the tokens are those of the pieces, and so are the problems
pub record AreOfPieces (text : Bytes) (ps : List Piece) (found : Tokens) : Type 0 where
  pub tokens : map unmarked found.tokens ≡ flat_map (token_of (length text)) ps
  pub problems : found.problems ≡ flat_map (problems_of (length text)) ps
