-- A stack is its elements in the other order.
use Rattle.std.proofs.Common.{◌≡◌, ℕ, ◌-◌, ◌<◌, List, length, get_or, drop, drop-cons, Some, ap, sym, ◌∙◌, subst}
use Rattle.std.specs.Prelude.{reverse}
use Rattle.std.proofs.lemmas.List.{get_or-reverse, length-reverse}
use Rattle.parse_parts.specs.Steps.{first}

pub peeked : {X : Type 0} (xs : List X) (k : ℕ) (d : X) → k < length xs → first (drop k (reverse xs)) ≡ Some (get_or xs (length xs - 1 - k) d)
peeked xs k d h =
    let below : k < length (reverse xs) = subst (λ n. k < n) (sym (length-reverse xs)) h in
    ap first (drop-cons (reverse xs) k d below) ∙ ap Some (get_or-reverse xs k d h)
