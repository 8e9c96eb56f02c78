-- Lines that are put under others keep their order.
use Rattle.std.proofs.Common.{◌≡◌, ℕ, nat_lt, Bool, true, false, if◌then◌else◌, List, [], ◌∷◌, ◌++◌, refl, ap, ◌∙◌, append_assoc}
use Rattle.ask_history.specs.Nested.{Nested, End, Then, deeper, others, nested, number_after, in_order}
use Rattle.ask_history.specs.declared.script.Line.{Line}

in_order-split : (level : ℕ) (lines : Nested) → in_order (deeper level lines) ++ in_order (others level lines) ≡ in_order lines
in_order-split level End = refl
in_order-split level (Then number line inner rest) = by (nat_lt level line.level) (in_order-split level rest)
  where
    by : (b : Bool) → in_order (deeper level rest) ++ in_order (others level rest) ≡ in_order rest
        → in_order (if b then Then number line inner (deeper level rest) else End) ++ in_order (if b then others level rest else Then number line inner rest)
        ≡ line ∷ (in_order inner ++ in_order rest)
    by true same =
        ap (λ ls. line ∷ ls) (append_assoc (in_order inner) (in_order (deeper level rest)) (in_order (others level rest)) ∙ ap (λ ls. in_order inner ++ ls) same)
    by false same = refl

pub in_order-nested : (number : ℕ) (lines : List Line) → in_order (nested number lines) ≡ lines
in_order-nested number [] = refl
in_order-nested number (line ∷ lines) =
    let next : ℕ = number_after line.order number in
    ap (λ ls. line ∷ ls) (in_order-split line.level (nested next lines) ∙ in_order-nested next lines)
