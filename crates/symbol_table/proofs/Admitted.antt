-- Which of some definitions of one name are no second ones.
use Rattle.std.proofs.Common.{◌≡◌, Bool, true, false, ◌&&◌, List, [], ◌∷◌, ◌++◌, if◌then◌else◌, refl, ap, ◌∙◌, append-nil}
use Rattle.std.specs.List.{filter}
use Rattle.std.proofs.lemmas.List.Elements.{filter-append}
use Rattle.pc_terms.specs.declared.symbols.SymKind.{SymKind}
use Rattle.symbol_table.specs.Entering.{admitted}
use Rattle.symbol_table.specs.Owners.{may_follow}
use Rattle.symbol_table.specs.Symbols.{is_def}

-- the first is always admitted, so the others decide nothing
pub may_follow-admitted : (kinds : List SymKind) (own : SymKind) → may_follow (admitted kinds) own ≡ may_follow kinds own
may_follow-admitted [] own = refl
may_follow-admitted (first ∷ others) own = refl

-- behind a first one
behind : (first : SymKind) (others : List SymKind) (own : SymKind) (f o : Bool) → is_def own ≡ o
    → first ∷ (if f then filter is_def (others ++ own ∷ []) else [])
    ≡ (if f && o then (first ∷ (if f then filter is_def others else [])) ++ own ∷ [] else first ∷ (if f then filter is_def others else []))
behind first others own false o e = refl
behind first others own true true e =
    ap (λ xs. first ∷ xs) (filter-append is_def others (own ∷ []) ∙ ap (λ b. filter is_def others ++ (if b then own ∷ [] else [])) e)
behind first others own true false e =
    ap (λ xs. first ∷ xs) (filter-append is_def others (own ∷ []) ∙ ap (λ b. filter is_def others ++ (if b then own ∷ [] else [])) e ∙ append-nil (filter is_def others))

alone : (own : SymKind) (o : Bool) → own ∷ (if o then [] else []) ≡ own ∷ []
alone own true = refl
alone own false = refl

-- one more is admitted exactly where it may follow those before it
pub admitted-more : (kinds : List SymKind) (own : SymKind)
    → admitted (kinds ++ own ∷ []) ≡ (if may_follow kinds own then admitted kinds ++ own ∷ [] else admitted kinds)
admitted-more [] own = alone own (is_def own)
admitted-more (first ∷ others) own = behind first others own (is_def first) (is_def own) refl
