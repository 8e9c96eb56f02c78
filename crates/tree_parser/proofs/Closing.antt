-- What a closing brace ends.
use Rattle.std.proofs.Common.{◌≡◌, ℕ, List, [], ◌∷◌, map, None, sym, ap, ◌∙◌}
use Rattle.scan_tokens.specs.Words.{Bytes}
use Rattle.scan_tokens.specs.declared.tokens.Token.{Token}
use Rattle.source_grammar.specs.Lexemes.{Lexeme, lexeme_of}
use Rattle.expr_tails.specs.declared.symbols.Symbol.TheVariants.{CloseCurly}
use Rattle.template_steps.specs.Pieces.{OfBody}
use Rattle.template_steps.specs.declared.pieces.Body.{Body}
use Rattle.tree_parser.specs.Headings.{behind_braces}
use Rattle.tree_parser.specs.Levels.{Level, level_in, with_part, body_of, token_read, curly_closed}
use Rattle.tree_parser.specs.declared.levels.Level.{Level as Written}

pub body_closed : (text : Bytes) (xs : List Lexeme) (current : Level) (outer now : Written) (rest around : List Written) (token : Token) (at : ℕ) (body : Body)
    → around ≡ outer ∷ rest → body ≡ body_of xs current outer.kind token.span.end at
    → level_in text now ≡ with_part (level_in text outer) (OfBody body) (behind_braces outer.heading)
    → record { current = level_in text now; around = map (level_in text) rest; plain = None } ≡ curly_closed xs current (map (level_in text) around) (lexeme_of text token) at
unfolding lexeme_of
body_closed text xs current outer now rest around token at body stack of is =
    (λ i. record {
      current = (is ∙ ap (λ b. with_part (level_in text outer) (OfBody b) (behind_braces outer.heading)) of) i;
      around = map (level_in text) rest;
      plain = None;
    })
    ∙ sym (ap (λ l. curly_closed xs current (map (level_in text) l) (lexeme_of text token) at) stack)

pub none_around : (text : Bytes) (xs : List Lexeme) (current : Level) (now : Written) (rest around : List Written) (x : Lexeme) (at : ℕ)
    → around ≡ [] → rest ≡ [] → level_in text now ≡ token_read current CloseCurly x
    → record { current = level_in text now; around = map (level_in text) rest; plain = None } ≡ curly_closed xs current (map (level_in text) around) x at
none_around text xs current now rest around x at stack empty is =
    (λ i. record { current = is i; around = map (level_in text) (empty i); plain = None })
    ∙ sym (ap (λ l. curly_closed xs current (map (level_in text) l) x at) stack)
