-- What the name of a token is in a pattern: a variable, the minus of a number, or an operator.
use Rattle.std.specs.Prelude.{Bool, true, false, not, ◌&&◌, if◌then◌else◌, codes}
use Rattle.std.specs.Str.{bytes_eq}
use Rattle.scan_tokens.specs.declared.tokens.Token.{Token}
use Rattle.scan_tokens.specs.declared.tokens.TokenKind.{TokenKind}
use Rattle.scan_tokens.specs.declared.tokens.TokenKind.TheVariants as kind
use Rattle.scan_tokens.specs.Words.{Bytes}
use Rattle.source_grammar.specs.Lexemes.{Lexeme, Id}
use Rattle.source_grammar.specs.Patterns.{is_var}
use Rattle.parse_patterns.specs.declared.states.Lead.{Lead}
use Rattle.parse_patterns.specs.declared.states.Lead.TheVariants as lead

-- a token whose word this is
abbrev pub lexeme_with : Token → Bytes → Lexeme
lexeme_with token word = record { kind = token.kind; word = word; place = record { span = token.span; before = token.before } }

abbrev pub is_quoted : TokenKind → Bool
is_quoted kind.BackId = true
is_quoted _ = false

abbrev pub id_of : Lexeme → Id
id_of x = record { name = x.word; quoted = is_quoted x.kind; place = x.place }

abbrev pub is_minus : Id → Bool
is_minus id = not id.quoted && bytes_eq id.name (codes "-")

unfoldable pub lead_of : Id → Lead
lead_of id = if is_var id then lead.Var else (if is_minus id then lead.Minus else lead.Plain)
