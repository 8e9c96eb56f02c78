-- What stands between the first and the last byte of a part of a text.
use Rattle.std.proofs.Common.{◌≡◌, ℕ, ◌+◌, ◌-◌, ◌≤◌, length, take, drop, refl, subst, ap, sym, ◌∙◌, arith, length-drop, length-take-le, take-take, drop-drop}
use Rattle.std.specs.List.{slice_range}
use Rattle.std.proofs.lemmas.List.{drop-take}
use Rattle.scan_tokens.specs.declared.tokens.Token.{Token}
use Rattle.scan_tokens.specs.declared.tokens.TokenKind.{TokenKind}
use Rattle.scan_tokens.specs.declared.tokens.TokenKind.TheVariants as kind
use Rattle.scan_tokens.specs.Words.{Bytes}
use Rattle.source_grammar.specs.Lexemes.{between_backquotes, bytes_in, word_of}
use Rattle.parse_parts.specs.Words.{word_start, word_end, IsCut}

pub within-quotes : (text : Bytes) (start end : ℕ) → start + 1 ≤ end - 1 → end ≤ length text
    → slice_range text (start + 1) (end - 1) ≡ between_backquotes (slice_range text start end)
within-quotes text start end order within =
    sym (ap (λ n. slice_range (slice_range text start end) 1 n) (ap (λ n. n - 1) long)
    ∙ ap (λ xs. take (end - start - 1 - 1) xs) (ap (λ n. drop 1 (take n (drop start text))) split ∙ drop-take 1 (end - start - 1) (drop start text) ∙ ap (take (end - start - 1)) (drop-drop 1 start text))
    ∙ take-take (end - start - 1 - 1) (end - start - 1) (drop (start + 1) text) (omega arith)
    ∙ ap (λ n. take n (drop (start + 1) text)) fewer)
  where
    long : length (slice_range text start end) ≡ end - start
    long = length-take-le (end - start) (drop start text) (omega (arith, length-drop start text))

    split : end - start ≡ 1 + (end - start - 1)
    split = omega arith

    fewer : end - start - 1 - 1 ≡ end - 1 - (start + 1)
    fewer = omega arith

pub quoted-word : (text : Bytes) (t : Token) → IsCut text t → t.kind ≡ kind.BackId
    → slice_range text (t.span.start + 1) (t.span.end - 1) ≡ word_of t.kind (bytes_in text t.span)
quoted-word text t cut e =
    let order : t.span.start + 1 ≤ t.span.end - 1 = subst (λ k. word_start k t.span.start ≤ word_end k t.span.end) e cut.order in
    within-quotes text t.span.start t.span.end order cut.within ∙ ap (λ k. word_of k (bytes_in text t.span)) (sym e)

pub plain-word : (k : TokenKind) (word : Bytes) → (k ≡ kind.BackId → ⊥) → word ≡ word_of k word
plain-word kind.BackId word not = absurd (not refl)
plain-word _ word not = refl
