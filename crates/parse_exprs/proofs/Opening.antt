-- What a brace stands behind.
use Rattle.std.proofs.Common.{◌≡◌, ℕ, zero, suc, List, [], ◌∷◌, length, get_or, ap, sym, arith}
use Rattle.scan_tokens.specs.Words.{Bytes}
use Rattle.parse_exprs.specs.declared.contents.Opening.{Opening}
use Rattle.parse_exprs.specs.declared.items.Item.{Item as Written}
use Rattle.parse_exprs.specs.Items.{item_in, items_in, symbol_at}
use Rattle.parse_exprs.specs.Levels.{opening_behind, opening_of}

-- the last item says it
pub behind-last : (text : Bytes) (items : List Written) (before : Opening) (last : Written) (at : ℕ) → length items ≡ suc at → last ≡ get_or items at last
    → opening_of before (items_in text items) ≡ opening_behind (symbol_at (item_in text last))
behind-last text [] before last at e is = absurd (omega (arith, e))
behind-last text (i ∷ []) before last zero e is = ap (λ j. opening_behind (symbol_at (item_in text j))) (sym is)
behind-last text (i ∷ []) before last (suc at) e is = absurd (omega (arith, e))
behind-last text (i ∷ j ∷ items) before last zero e is = absurd (omega (arith, e))
behind-last text (i ∷ j ∷ items) before last (suc at) e is =
    behind-last text (j ∷ items) (opening_behind (symbol_at (item_in text i))) last at (omega (arith, e)) is
