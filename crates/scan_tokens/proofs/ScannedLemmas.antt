-- What the scanner gives, by the pieces of the text.
use Rattle.std.proofs.Common.{◌≡◌, ℕ, Bool, false, List, [], ◌∷◌, ◌++◌, length, map, Option, Some, None, refl, ap, sym, ◌∙◌}
use Rattle.std.specs.List.{flat_map}
use Rattle.std.specs.Str.{chars}
use Rattle.pc_terms.specs.declared.problems.Span.{Span}
use Rattle.scan_tokens.specs.declared.regions.Region.{Region}
use Rattle.scan_tokens.specs.declared.tokens.Newline.TheVariants.{No}
use Rattle.scan_tokens.specs.declared.tokens.Token.{Token}
use Rattle.scan_tokens.specs.declared.tokens.TokenKind.{TokenKind}
use Rattle.scan_tokens.specs.Division.{IsDivision}
use Rattle.scan_tokens.specs.Kinds.{kind_of}
use Rattle.scan_tokens.specs.Words.{Bytes}
use Rattle.scan_tokens.specs.Newlines.{role_at, template_follows, can_end, turned, marked}
use Rattle.scan_tokens.specs.Order.{AreInOrder}
use Rattle.scan_tokens.specs.Pieces.{Piece, pieces, bytes_of, span_of, token_at, token_of, problems_of, tokens_in, problems_in}
use Rattle.scan_tokens.specs.Scanned.{scanned, unmarked, AreOfPieces}
use Rattle.scan_tokens.proofs.DivisionLaws.{pieces-unique}
use Rattle.scan_tokens.specs.Regions.{IsMarked}
use Rattle.scan_tokens.proofs.PieceLemmas.{tokens_in-order}
use Rattle.scan_tokens.proofs.RegionLaws.{marked-between, marked-first}

marked-order : (total at : ℕ) (text : Bytes) (end : ℕ) (ended : Bool) (rs : List Region) (ts : List Token)
    → AreInOrder total at ts → AreInOrder total at (marked text end ended rs ts)
marked-order total at text end ended rs [] o = tt
marked-order total at text end ended rs (t ∷ ts) o =
    (o.0, o.1, marked-order total t.span.end text t.span.end (can_end (role_at text t)) (turned (role_at text t) (template_follows text ts) rs) ts o.2)

pub scanned-order : (text : Bytes) → AreInOrder (length text) 0 (scanned text).tokens
unfolding scanned
scanned-order text = marked-order (length text) 0 text 0 false [] _ (tokens_in-order (length text) (chars text))

marked-unmarked : (text : Bytes) (end : ℕ) (ended : Bool) (rs : List Region) (ts : List Token)
    → map unmarked (marked text end ended rs ts) ≡ map unmarked ts
marked-unmarked text end ended rs [] = refl
marked-unmarked text end ended rs (t ∷ ts) =
    ap (λ us. unmarked t ∷ us) (marked-unmarked text t.span.end (can_end (role_at text t)) (turned (role_at text t) (template_follows text ts) rs) ts)

token_at-unmarked : (kind : Option TokenKind) (span : Span) (ts us : List Token) → map unmarked ts ≡ us → map unmarked (token_at kind span ++ ts) ≡ token_at kind span ++ us
token_at-unmarked None span ts us e = e
token_at-unmarked (Some kind) span ts us e = ap (λ vs. record { kind = kind; span = span; before = No } ∷ vs) e

unmarked-tokens : (total : ℕ) (ps : List Piece) → map unmarked (flat_map (token_of total) ps) ≡ flat_map (token_of total) ps
unfolding token_of
unmarked-tokens total [] = refl
unmarked-tokens total (p ∷ ps) =
    token_at-unmarked (kind_of p.shape (bytes_of p)) (span_of total p.from p.after) _ _ (unmarked-tokens total ps)

pub scanned-pieces : (text : Bytes) (ps : List Piece) → IsDivision (chars text) ps → AreOfPieces text ps (scanned text)
unfolding scanned tokens_in problems_in
scanned-pieces text ps d =
    let n = length text in
    let same : pieces (chars text) ≡ ps = sym (pieces-unique (chars text) ps d) in
    record {
      tokens = marked-unmarked text 0 false [] (tokens_in n (chars text)) ∙ unmarked-tokens n (pieces (chars text)) ∙ ap (flat_map (token_of n)) same;
      problems = ap (flat_map (problems_of n)) same;
    }

pub scanned-first : (text : Bytes) (t : Token) (back : List Token) → (scanned text).tokens ≡ t ∷ back → t.before ≡ No
unfolding scanned
scanned-first text t back e = marked-first text (tokens_in (length text) (chars text)) t back e

pub scanned-between : (text : Bytes) (front : List Token) (t u : Token) (back : List Token) → (scanned text).tokens ≡ front ++ t ∷ u ∷ back → IsMarked text front t u back
unfolding scanned
scanned-between text front t u back e = marked-between text (tokens_in (length text) (chars text)) front t u back e
