-- The tokens of a scanned text, from one of them on.
use Rattle.std.proofs.Common.{◌≡◌, ℕ, ◌+◌, ◌-◌, ◌≤◌, List, length, map, take, drop, ap, sym, ◌∙◌, subst, arith, length-drop}
use Rattle.std.proofs.Math.Seq.{take-length}
use Rattle.std.specs.List.{All}
use Rattle.std.specs.Str.{IsUtf8}
use Rattle.std.proofs.lemmas.List.{length-map}
use Rattle.std.proofs.lemmas.List.Elements.{All-drop}
use Rattle.pc_terms.specs.Bytes.{max_source_bytes}
use Rattle.positioned_trees.specs.Trees.{max_number}
use Rattle.scan_tokens.specs.declared.tokens.Token.{Token}
use Rattle.scan_tokens.specs.declared.tokens.Tokens.{Tokens}
use Rattle.scan_tokens.specs.Scanned.{scanned}
use Rattle.scan_tokens.specs.Words.{Bytes}
use Rattle.source_grammar.specs.Lexemes.{lexeme_of}
use Rattle.parse_parts.specs.Words.{IsCut}
use Rattle.parse_parts.proofs.Cuts.{scanned-cuts, scanned-few}

pub few-lexemes : (text : Bytes) (tokens : List Token) (at : ℕ) → at + length tokens ≤ max_source_bytes → length (map (lexeme_of text) tokens) ≤ max_number
few-lexemes text tokens at few = omega (arith, length-map tokens (lexeme_of text))

pub behind-all : (ts us : List Token) (at : ℕ) → us ≡ ts → take (length us - at) (drop at us) ≡ drop at ts
behind-all ts us at e = ap (λ n. take n (drop at us)) (sym (length-drop at us)) ∙ take-length (drop at us) ∙ ap (drop at) e

-- the tokens of a scanned text, from one of them on
pub rest-cuts : (found : Tokens) (text : Bytes) (at : ℕ) (rest : List Token) → found ≡ scanned found.text → text ≡ found.text → IsUtf8 text
    → rest ≡ drop at found.tokens → All (IsCut text) rest
rest-cuts found text at rest is same utf8 here =
    let cuts : All (IsCut text) found.tokens =
    subst (λ ts. All (IsCut text) ts) (ap (λ t. (scanned t).tokens) same ∙ ap (λ f. f.tokens) (sym is)) (scanned-cuts text utf8) in
    subst (λ ts. All (IsCut text) ts) (sym here) (All-drop (IsCut text) at found.tokens cuts)

pub tokens-few : (found : Tokens) (text : Bytes) → found ≡ scanned found.text → text ≡ found.text → IsUtf8 text → length found.tokens ≤ length text
tokens-few found text is same utf8 =
    subst (λ ts. length ts ≤ length text) (ap (λ t. (scanned t).tokens) same ∙ ap (λ f. f.tokens) (sym is)) (scanned-few text utf8)
