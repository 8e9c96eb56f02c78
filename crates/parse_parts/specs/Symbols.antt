-- What the tokens are to the grammar of types.
use Rattle.std.specs.Prelude.{◌||◌, if◌then◌else◌, codes}
use Rattle.std.specs.Str.{bytes_eq}
use Rattle.scan_tokens.specs.declared.tokens.TokenKind.{TokenKind}
use Rattle.scan_tokens.specs.declared.tokens.TokenKind.TheVariants as kind
use Rattle.scan_tokens.specs.Words.{Bytes, double_arrow}
use Rattle.parse_parts.specs.declared.symbols.Symbol.{Symbol}
use Rattle.parse_parts.specs.declared.symbols.Symbol.TheVariants.{Id, OpenRound, CloseRound, OpenSquare, CloseSquare, Comma, Dot, Arrow, TypeWord, Other}

abbrev pub delimiter_symbol : Bytes → Symbol
delimiter_symbol word =
    if bytes_eq word (codes "(") then OpenRound
    else (if bytes_eq word (codes ")") then CloseRound
    else (if bytes_eq word (codes "[") then OpenSquare
    else (if bytes_eq word (codes "]") then CloseSquare
    else (if bytes_eq word (codes ",") then Comma
    else (if bytes_eq word (codes ".") then Dot else Other)))))

abbrev pub symbol_of : TokenKind → Bytes → Symbol
symbol_of kind.Id word = Id
symbol_of kind.BackId word = Id
symbol_of kind.Delimiter word = delimiter_symbol word
symbol_of kind.Sign word = if bytes_eq word (codes "=>") || bytes_eq word double_arrow then Arrow else Other
symbol_of kind.Word word = if bytes_eq word (codes "type") then TypeWord else Other
symbol_of _ word = Other
