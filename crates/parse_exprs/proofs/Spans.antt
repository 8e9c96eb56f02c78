-- Where items stand, in the text and as they are written.
use Rattle.std.proofs.Common.{◌≡◌, ℕ, List, [], ◌∷◌, map, take, refl, ap, sym, ◌∙◌}
use Rattle.std.proofs.lemmas.List.{take-map}
use Rattle.scan_tokens.specs.Words.{Bytes}
use Rattle.source_grammar.specs.Lexemes.{lexeme_of}
use Rattle.parse_exprs.specs.declared.items.Item.{Item as Written}
use Rattle.parse_exprs.specs.declared.items.Item.TheVariants as written
use Rattle.parse_exprs.specs.Items.{item_in, items_in, span_at, span_of}
use Rattle.parse_exprs.specs.Lists.{over_all, of_items, items_span}

one-span : (text : Bytes) (item : Written) → span_at (item_in text item) ≡ span_of item
unfolding lexeme_of
one-span text (written.Token token) = refl
one-span text (written.Braces b) = refl

pub spans_in : (text : Bytes) (items : List Written) → map span_at (items_in text items) ≡ map span_of items
spans_in text [] = refl
spans_in text (item ∷ items) = λ i. one-span text item i ∷ spans_in text items i

-- of the first items
pub first_span : (text : Bytes) (count : ℕ) (items : List Written) → over_all (map span_of (take count items)) ≡ items_span of_items (take count (items_in text items))
first_span text count items = sym (ap (items_span of_items) (take-map (item_in text) count items) ∙ ap over_all (spans_in text (take count items)))
