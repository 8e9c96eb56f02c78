-- The first of the tokens that braces are.
use Rattle.std.proofs.Common.{◌≡◌, ◌-◌, ◌≤◌, List, [], ◌∷◌, length, get_or, map, take, drop, refl, sym, ap, arith}
use Rattle.parse_parts.proofs.Places.{behind-all}
use Rattle.scan_tokens.specs.Words.{Bytes}
use Rattle.scan_tokens.specs.declared.tokens.Token.{Token}
use Rattle.source_grammar.specs.Lexemes.{lexeme_of}
use Rattle.parse_exprs.specs.declared.contents.Opening.{Opening}
use Rattle.tree_parser.specs.Plain.{plain_begun, plain_braces, braces_from}

pub plain_first : (text : Bytes) (tokens : List Token) (d : Token) (behind : Opening) → 1 ≤ length tokens
    → plain_braces behind (map (lexeme_of text) tokens)
    ≡ braces_from (plain_begun (lexeme_of text (get_or tokens 0 d)) behind) (map (lexeme_of text) (take (length tokens - 1) (drop 1 tokens)))
plain_first text [] d behind some = absurd (omega (arith, some))
plain_first text (t ∷ ts) d behind some =
    ap (λ l. braces_from (plain_begun (lexeme_of text t) behind) (map (lexeme_of text) l)) (sym (behind-all (t ∷ ts) (t ∷ ts) 1 refl))
