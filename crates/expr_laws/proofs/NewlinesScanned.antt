-- In the tokens that the scanner gives of a text each newline that counts stands after a token that can end a statement.
use Rattle.std.proofs.Common.{◌≡◌, ℕ, Bool, true, false, ◌&&◌, ◌||◌, if◌then◌else◌, List, [], ◌∷◌, length, map, refl, ap, ◌∙◌}
use Rattle.std.specs.Prelude.{not}
use Rattle.std.specs.Str.{chars}
use Rattle.scan_tokens.specs.declared.regions.Region.{Region}
use Rattle.scan_tokens.specs.declared.tokens.Newline.{Newline}
use Rattle.scan_tokens.specs.declared.tokens.Newline.TheVariants.{No}
use Rattle.scan_tokens.specs.declared.tokens.Token.{Token}
use Rattle.scan_tokens.specs.declared.tokens.TokenKind.{TokenKind}
use Rattle.scan_tokens.specs.declared.tokens.TokenKind.TheVariants as kind
use Rattle.scan_tokens.specs.Newlines.{role_of, role_at, can_end, can_begin, enables, turned, template_follows, newline_in, bytes_between, marked}
use Rattle.scan_tokens.specs.Pieces.{tokens_in}
use Rattle.scan_tokens.specs.Scanned.{scanned}
use Rattle.scan_tokens.specs.Words.{Bytes}
use Rattle.parse_patterns.proofs.Sides.{and-true}
use Rattle.source_grammar.specs.Brackets.{has_newline}
use Rattle.source_grammar.specs.Lexemes.{bytes_in, word_of, lexeme_of, lexemes}
use Rattle.expr_laws.specs.Newlines.{newlines_end}

-- an identifier in backquotes ends a statement, whatever its bytes are
word-ends : (k : TokenKind) (word : Bytes) → can_end (role_of k (word_of k word)) ≡ can_end (role_of k word)
word-ends kind.BackId word = refl
word-ends _ word = refl

counted : (ended begins enabled : Bool) (found : Newline) → (ended || not (has_newline (if ended && begins && enabled then found else No))) ≡ true
counted true begins enabled found = refl
counted false begins enabled found = refl

lexeme-ends : (text : Bytes) (t : Token) → can_end (role_of t.kind (word_of t.kind (bytes_in text t.span))) ≡ can_end (role_at text t)
unfolding role_at
lexeme-ends text t = word-ends t.kind (bytes_in text t.span)

marked-ends : (text : Bytes) (end : ℕ) (ended : Bool) (rs : List Region) (ts : List Token) → newlines_end ended (map (lexeme_of text) (marked text end ended rs ts)) ≡ true
unfolding lexeme_of
marked-ends text end ended rs [] = refl
marked-ends text end ended rs (t ∷ ts) =
    let template = template_follows text ts in
    and-true _ _ (counted ended (can_begin (role_at text t) template) (enables rs) (newline_in No (bytes_between text end t.span.start)))
    (ap (λ b. newlines_end b (map (lexeme_of text) (marked text t.span.end (can_end (role_at text t)) (turned (role_at text t) template rs) ts))) (lexeme-ends text t)
    ∙ marked-ends text t.span.end (can_end (role_at text t)) (turned (role_at text t) template rs) ts)

-- nothing stands before the first token, so no newline counts there
pub scanned-ends : (text : Bytes) → newlines_end false (lexemes (scanned text)) ≡ true
unfolding scanned lexemes
scanned-ends text = marked-ends text 0 false [] (tokens_in (length text) (chars text))
