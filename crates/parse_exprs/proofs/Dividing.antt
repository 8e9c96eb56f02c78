-- Statements of a list, found one after another.
use Rattle.std.proofs.Common.{◌≡◌, ℕ, zero, suc, ◌+◌, ◌-◌, ◌<◌, true, false, if◌then◌else◌, List, [], ◌∷◌, length, get_or, map, take, drop, drop-cons, length-drop, add-one, refl, ap, sym, ◌∙◌, arith}
use Rattle.std.proofs.Math.Seq.{take-length}
use Rattle.std.proofs.lemmas.List.{drop-map, drop-drop}
use Rattle.scan_tokens.specs.Words.{Bytes}
use Rattle.expr_steps.specs.Reading.{Item}
use Rattle.parse_exprs.specs.declared.items.Item.{Item as Written}
use Rattle.parse_exprs.specs.Items.{item_in, items_in, symbol_at, is_semicolon}
use Rattle.parse_exprs.specs.Lists.{Cut, of_items, cuts_behind, cut_at}
use Rattle.parse_exprs.specs.Statements.{statements, built_until}

abbrev pub cuts_from : ℕ → ℕ → List Item → List Cut
cuts_from n skip is = cuts_behind of_items statements built_until n skip is

passed : (n : ℕ) (is : List Item) → cuts_from n 0 is ≡ cuts_from 0 0 (drop n is)
passed zero is = refl
passed (suc n) [] = refl
passed (suc n) (i ∷ is) = passed n is

pub stands : (text : Bytes) (items : List Written) (at : ℕ) (item : Written) → at < length items → item ≡ get_or items at item
    → items_in text (drop at items) ≡ item_in text item ∷ items_in text (drop (at + 1) items)
stands text items at item below is =
    ap (map (item_in text)) (drop-cons items at item below ∙ ap (λ i. i ∷ drop (suc at) items) (sym is) ∙ ap (λ n. item ∷ drop n items) (sym (add-one at)))

pub semicolon-on : (skip : ℕ) (is rest : List Item) (i : Item) → is ≡ i ∷ rest → is_semicolon (symbol_at i) ≡ true
    → cuts_from 0 skip is ≡ cuts_from 0 (skip + 1) rest
semicolon-on skip is rest i e k =
    ap (cuts_from 0 skip) e ∙ ap (λ b. if b then cuts_from 0 (skip + 1) rest else cut ∷ cuts_from (cut.count - 1) 0 rest) k
  where
    cut : Cut
    cut = cut_at of_items statements built_until skip (i ∷ rest)

one-more : (n : ℕ) (i : Item) (rest : List Item) → 0 < n → cuts_from (n - 1) 0 rest ≡ cuts_from 0 0 (drop n (i ∷ rest))
one-more zero i rest below = absurd (omega (arith, below))
one-more (suc n) i rest below =
    let e : suc n - 1 ≡ n = omega arith in
    ap (λ m. cuts_from m 0 rest) e ∙ passed n rest

pub cut-on : (skip : ℕ) (is rest : List Item) (i : Item) (cut : Cut) → is ≡ i ∷ rest → is_semicolon (symbol_at i) ≡ false
    → cut ≡ cut_at of_items statements built_until skip is → 0 < cut.count
    → cuts_from 0 skip is ≡ cut ∷ cuts_from 0 0 (drop cut.count is)
cut-on skip is rest i cut e k c some =
    ap (cuts_from 0 skip) e
    ∙ ap (λ b. if b then cuts_from 0 (skip + 1) rest else there ∷ cuts_from (there.count - 1) 0 rest) k
    ∙ ap (λ (c : Cut). c ∷ cuts_from (c.count - 1) 0 rest) (sym (c ∙ ap (cut_at of_items statements built_until skip) e))
    ∙ ap (λ is. cut ∷ is) (one-more cut.count i rest some ∙ ap (λ is. cuts_from 0 0 (drop cut.count is)) (sym e))
  where
    there : Cut
    there = cut_at of_items statements built_until skip (i ∷ rest)

pub all-behind : {X : Type 0} (xs : List X) (at : ℕ) → take (length xs - at) (drop at xs) ≡ drop at xs
all-behind xs at = ap (λ n. take n (drop at xs)) (sym (length-drop at xs)) ∙ take-length (drop at xs)

pub behind-cut : (text : Bytes) (items : List Written) (at count : ℕ) → drop count (items_in text (drop at items)) ≡ items_in text (drop (at + count) items)
behind-cut text items at count = drop-map (item_in text) count (drop at items) ∙ ap (map (item_in text)) (drop-drop count at items)
