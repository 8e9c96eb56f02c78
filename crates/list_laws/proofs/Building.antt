-- What the reader builds of the pieces of a list, one after another, and where they stand.
use Rattle.std.proofs.Common.{◌≡◌, ◌<◌, ℕ, ◌+◌, List, [], ◌∷◌, ◌++◌, map, length, Option, Some, refl, ap, sym, ◌∙◌, arith, append-nil, append_assoc, length-append}
use Rattle.std.proofs.lemmas.List.{map-append}
use Rattle.pc_terms.specs.declared.problems.Span.{Span}
use Rattle.positioned_trees.specs.declared.details.Selector.{Selector}
use Rattle.positioned_trees.specs.declared.trees.Tree.{Tree}
use Rattle.source_grammar.specs.ExpressionRules.{Rule}
use Rattle.source_grammar.specs.ExpressionTokens.{block_tokens, cases_tokens, enums_tokens}
use Rattle.source_grammar.specs.ExpressionTrees.{last_end, nonempty_span}
use Rattle.source_grammar.specs.Lexemes.{Place, Lexeme, open_curly, close_curly}
use Rattle.source_grammar.specs.Placeholders as grammar
use Rattle.source_grammar.specs.Placeholders.{trees_of, free_of}
use Rattle.source_grammar.specs.Spans.{end_behind, span_of}
use Rattle.parse_parts.specs.Built.{joined}
use Rattle.parse_parts.specs.Keeping.{kept_all}
use Rattle.parse_parts.proofs.Kept.{joined-kept}
use Rattle.tree_lower.specs.Keeping.{places_shown}
use Rattle.expr_tails.specs.declared.items.Built.{Built}
use Rattle.expr_steps.specs.Reading.{Item as Picture}
use Rattle.parse_exprs.specs.declared.lists.BuiltList.{BuiltList}
use Rattle.parse_exprs.specs.declared.lists.Cut.{Cut}
use Rattle.parse_exprs.specs.Items.{span_at}
use Rattle.parse_exprs.specs.Lists.{Elements, Piece, cut_span, end_of, span_over, of_items, items_span, pieces_by, built_pieces, built_piece}
use Rattle.parse_exprs.specs.Statements.{statements, built_until}
use Rattle.expr_laws.specs.Items.{Item, OneToken, BlockPair, CasesPair, EnumsPair, OtherPair, item_tokens, items_tokens}
use Rattle.expr_laws.specs.Pictures.{item_shown, built_shown}
use Rattle.statement_laws.specs.Statements.{ReadStatementItem, statement_items}
use Rattle.list_laws.specs.Lists.{picture_of, span_shown}
use Rattle.list_laws.proofs.Longer.{some-tokens}

-- ---- spans of pieces

pub cuts-spans : {I : Type 0} (e : Elements I) (cuts : List Cut) (items : List I) → map cut_span cuts ≡ map (λ p. p.span) (pieces_by e cuts items)
cuts-spans e [] items = refl
cuts-spans e (cut ∷ cuts) items = ap (λ l. cut.span ∷ l) (cuts-spans e cuts _)

last-there : (span : Span) (spans : List Span) → last_end span spans ≡ record { start = span.start; end = end_of span.end spans }
last-there span [] = refl
last-there span (next ∷ spans) = last-there (record { start = span.start; end = next.end }) spans

pub over-shown : (spans : List Span) → span_over spans ≡ span_shown spans
over-shown [] = refl
over-shown (span ∷ spans) = ap Some (sym (last-there span spans))

-- ---- spans of items

end-append : (end : ℕ) (xs ys : List Lexeme) → end_behind end (xs ++ ys) ≡ end_behind (end_behind end xs) ys
end-append end [] ys = refl
end-append end (x ∷ xs) ys = end-append x.place.span.end xs ys

pair-end : (end : ℕ) (o k : Place) (xs ys : List Lexeme) → end_behind end ((open_curly o ∷ (xs ++ close_curly k ∷ [])) ++ ys) ≡ end_behind k.span.end ys
pair-end end o k xs ys = end-append o.span.end (xs ++ close_curly k ∷ []) ys ∙ ap (λ n. end_behind n ys) (end-append o.span.end xs (close_curly k ∷ []))

item-end : (selectors : Option (List Selector)) (i : Item) (end : ℕ) (ys : List Lexeme) → end_behind end (item_tokens i ++ ys) ≡ end_behind (span_at (item_shown selectors i)).end ys
item-end selectors (OneToken x) end ys = refl
item-end selectors (BlockPair o block k) end ys = pair-end end o k (block_tokens block) ys
item-end selectors (CasesPair o cases k) end ys = pair-end end o k (cases_tokens cases) ys
item-end selectors (EnumsPair o enums k) end ys = pair-end end o k (enums_tokens enums) ys
item-end selectors (OtherPair o xs k) end ys = pair-end end o k xs ys

item-span : (selectors : Option (List Selector)) (i : Item) (ys : List Lexeme)
    → span_of (item_tokens i ++ ys) ≡ record { start = (span_at (item_shown selectors i)).start; end = end_behind (span_at (item_shown selectors i)).end ys }
item-span selectors (OneToken x) ys = refl
item-span selectors (BlockPair o block k) ys = ap (λ n. record { start = o.span.start; end = n }) (pair-end 0 o k (block_tokens block) ys)
item-span selectors (CasesPair o cases k) ys = ap (λ n. record { start = o.span.start; end = n }) (pair-end 0 o k (cases_tokens cases) ys)
item-span selectors (EnumsPair o enums k) ys = ap (λ n. record { start = o.span.start; end = n }) (pair-end 0 o k (enums_tokens enums) ys)
item-span selectors (OtherPair o xs k) ys = ap (λ n. record { start = o.span.start; end = n }) (pair-end 0 o k xs ys)

nonempty-some : (xs : List Lexeme) → 0 < length xs → nonempty_span xs ≡ span_of xs ∷ []
nonempty-some [] n = absurd (omega (arith, n))
nonempty-some (x ∷ xs) n = refl

module _ (rule : Rule) where
  abbrev toks : List (ReadStatementItem rule) → List Lexeme
  toks is = items_tokens (statement_items rule is)

  items-end : (end : ℕ) (is : List (ReadStatementItem rule)) → end_behind end (toks is) ≡ end_of end (map span_at (map (picture_of rule) is))
  items-end end [] = refl
  items-end end (i ∷ is) = item-end i.item.given.selectors i.item.given.item end (toks is) ∙ items-end (span_at (picture_of rule i)).end is

  pub items-span : (is : List (ReadStatementItem rule)) → span_of (toks is) ≡ items_span of_items (map (picture_of rule) is)
  items-span [] = refl
  items-span (i ∷ is) =
      item-span i.item.given.selectors i.item.given.item (toks is)
      ∙ ap (λ n. record { start = (span_at (picture_of rule i)).start; end = n }) (items-end (span_at (picture_of rule i)).end is)

  pub span-there : (is : List (ReadStatementItem rule)) → (is ≡ [] → ⊥) → nonempty_span (toks is) ≡ items_span of_items (map (picture_of rule) is) ∷ []
  span-there [] some = absurd (some refl)
  span-there (i ∷ is) some =
      (let here = some-tokens i.item.given.item in
      let both = length-append (item_tokens i.item.given.item) (toks is) in
      nonempty-some (toks (i ∷ is)) (omega (arith, here, both)) ∙ ap (λ s. s ∷ []) (items-span (i ∷ is)))

-- ---- trees

abbrev pub built_of : Piece Picture → Built
built_of p = built_piece of_items statements built_until p

abbrev pub list_of : List Tree → List Place → Option Span → BuiltList
list_of trees places span = record { kids = kept_all trees; free = places_shown places; span = span }

-- after what has been built so far
pub all-built : (span : Option Span) (trees : List Tree) (places : List Place) (ps : List (Piece Picture)) (bs : List grammar.Built) → map built_of ps ≡ map built_shown bs
    → built_pieces of_items statements built_until span (kept_all trees) (places_shown places) ps ≡ list_of (trees ++ trees_of bs) (places ++ free_of bs) span
all-built span trees places [] [] e = ap (λ ts. list_of ts places span) (sym (append-nil trees)) ∙ ap (λ fs. list_of (trees ++ []) fs span) (sym (append-nil places))
all-built span trees places [] (b ∷ bs) e = cc
all-built span trees places (p ∷ ps) [] e = cc
all-built span trees places (p ∷ ps) (b ∷ bs) e =
    (let head : built_of p ≡ built_shown b = cc in
    let tail : map built_of ps ≡ map built_shown bs = cc in
    ap (λ t. built_pieces of_items statements built_until span (joined (kept_all trees) t.tall) (places_shown places ++ t.free) ps) head
    ∙ ap (λ k. built_pieces of_items statements built_until span k (places_shown places ++ places_shown b.free) ps) (joined-kept trees b.tree)
    ∙ ap (λ f. built_pieces of_items statements built_until span (kept_all (trees ++ b.tree ∷ [])) f ps) (sym (map-append (λ place. place.span) places b.free))
    ∙ all-built span (trees ++ b.tree ∷ []) (places ++ b.free) ps bs tail
    ∙ ap (λ ts. list_of ts ((places ++ b.free) ++ free_of bs) span) (append_assoc trees (b.tree ∷ []) (trees_of bs))
    ∙ ap (λ fs. list_of (trees ++ (b.tree ∷ trees_of bs)) fs span) (append_assoc places b.free (free_of bs)))
