-- Lists, one more at the end.
use Rattle.std.proofs.Common.{◌≡◌, List, [], ◌∷◌, ◌++◌, refl}
use Rattle.expr_tails.specs.declared.items.BuiltKids.{BuiltKids}
use Rattle.expr_tails.specs.declared.states.Element.{Element}
use Rattle.expr_tails.specs.Tails.{with_element, with_elements}

pub one_more : (so_far : BuiltKids) (es : List Element) (e : Element)
    → with_elements so_far (es ++ e ∷ []) ≡ with_element (with_elements so_far es) e
one_more so_far [] e = refl
one_more so_far (x ∷ es) e = one_more (with_element so_far x) es e
