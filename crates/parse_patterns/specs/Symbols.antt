-- What the tokens are to the grammar of patterns.
use Rattle.std.specs.Prelude.{◌||◌, if◌then◌else◌, codes}
use Rattle.std.specs.Str.{bytes_eq}
use Rattle.scan_tokens.specs.declared.tokens.TokenKind.{TokenKind}
use Rattle.scan_tokens.specs.declared.tokens.TokenKind.TheVariants as kind
use Rattle.scan_tokens.specs.Words.{Bytes}
use Rattle.parse_patterns.specs.declared.symbols.Symbol.{Symbol}
use Rattle.parse_patterns.specs.declared.symbols.Symbol.TheVariants.{Id, Number, Literal, Underscore, Colon, At, OpenRound, CloseRound, Comma, Dot, Other}

abbrev pub delimiter_symbol : Bytes → Symbol
delimiter_symbol word =
    if bytes_eq word (codes "(") then OpenRound
    else (if bytes_eq word (codes ")") then CloseRound
    else (if bytes_eq word (codes ",") then Comma
    else (if bytes_eq word (codes ".") then Dot else Other)))

abbrev pub sign_symbol : Bytes → Symbol
sign_symbol word =
    if bytes_eq word (codes "_") then Underscore
    else (if bytes_eq word (codes ":") then Colon
    else (if bytes_eq word (codes "@") then At else Other))

abbrev pub word_symbol : Bytes → Symbol
word_symbol word = if bytes_eq word (codes "true") || (bytes_eq word (codes "false") || bytes_eq word (codes "null")) then Literal else Other

abbrev pub symbol_of : TokenKind → Bytes → Symbol
symbol_of kind.Id word = Id
symbol_of kind.BackId word = Id
symbol_of kind.Int word = Number
symbol_of kind.Long word = Number
symbol_of kind.Char word = Literal
symbol_of kind.Str word = Literal
symbol_of kind.Word word = word_symbol word
symbol_of kind.Sign word = sign_symbol word
symbol_of kind.Delimiter word = delimiter_symbol word
symbol_of _ word = Other
