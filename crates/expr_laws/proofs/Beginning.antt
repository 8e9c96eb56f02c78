-- Each Prim has a first token, so its span is that from its first to its last.
use Rattle.std.proofs.Common.{◌≡◌, ℕ, List, [], ◌∷◌, ◌++◌, refl, ap, sym, ◌∙◌}
use Rattle.std.proofs.lemmas.List.{map-append}
use Rattle.pc_terms.specs.declared.problems.Span.{Span}
use Rattle.source_grammar.specs.Expressions.{Prim, SelectPrim, SelectHole, TypeApplyPrim, ApplyPrim, EtaPrim, LamHead, NamedHead, WildHead, LParHead}
use Rattle.source_grammar.specs.ExpressionTokens.{prim_tokens, head_tokens}
use Rattle.source_grammar.specs.Lexemes.{Place, Lexeme}
use Rattle.source_grammar.specs.Spans.{end_behind, span_of}
use Rattle.parse_parts.proofs.Shown.{end_of, end-behind}
use Rattle.parse_patterns.proofs.Begun.{Some_begins, some-append}
use Rattle.parse_patterns.proofs.Chains.{start-append, span-is}
use Rattle.tree_lower.specs.Keeping.{places_shown}

abbrev pub here : (x : Lexeme) (rest : List Lexeme) → Some_begins (x ∷ rest)
here x rest = record { first = x; begins = record { rest = rest; is = refl } }

pub prim-begins : (d : Prim) → Some_begins (prim_tokens d)
prim-begins (SelectPrim prim point id) = some-append (prim_tokens prim) _ (prim-begins prim)
prim-begins (SelectHole prim point) = some-append (prim_tokens prim) _ (prim-begins prim)
prim-begins (TypeApplyPrim prim o types c) = some-append (prim_tokens prim) _ (prim-begins prim)
prim-begins (ApplyPrim prim args) = some-append (prim_tokens prim) _ (prim-begins prim)
prim-begins (EtaPrim prim place) = some-append (prim_tokens prim) _ (prim-begins prim)
prim-begins _ = here _ _

pub head-begins : (h : LamHead) → Some_begins (head_tokens h)
head-begins (NamedHead id) = here _ _
head-begins (WildHead place) = here _ _
head-begins (LParHead o lpars c) = here _ _

-- from the first of some tokens to one behind them
pub span-behind : (xs : List Lexeme) (x : Lexeme) → Some_begins xs → span_of (xs ++ x ∷ []) ≡ record { start = (span_of xs).start; end = x.place.span.end }
span-behind xs x b = span-is (xs ++ x ∷ []) (span_of xs).start x.place.span.end (start-append xs (x ∷ []) b) (end-behind 0 xs x [])

-- where tokens end that are some
pub end-of : (end : ℕ) (xs : List Lexeme) → Some_begins xs → end_behind end xs ≡ end_of xs
end-of end xs b = ap (end_behind end) b.begins.is ∙ sym (ap end_of b.begins.is)

pub end-last : (end : ℕ) (xs ys : List Lexeme) → Some_begins ys → end_behind end (xs ++ ys) ≡ end_of ys
end-last end xs ys b = ap (λ zs. end_behind end (xs ++ zs)) b.begins.is ∙ end-behind end xs b.first b.begins.rest ∙ sym (ap end_of b.begins.is)

pub places-append : (xs ys : List Place) → places_shown (xs ++ ys) ≡ places_shown xs ++ places_shown ys
places-append xs ys = (let span : Place → Span = λ place. place.span in map-append span xs ys)
