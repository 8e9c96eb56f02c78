-- Parameters, one more at the end.
use Rattle.std.proofs.Common.{◌≡◌, List, [], ◌∷◌, ◌++◌, Option, refl}
use Rattle.parse_parts.specs.Built.{joined}
use Rattle.parse_parts.specs.declared.built.Kids.{Kids}
use Rattle.expr_tails.specs.declared.states.Element.{Element}
use Rattle.expr_tails.specs.Tails.{element_param}
use Rattle.expr_steps.specs.Steps.{element_params}

pub one_more : (kids : Option Kids) (es : List Element) (e : Element)
    → element_params kids (es ++ e ∷ []) ≡ joined (element_params kids es) (element_param e)
one_more kids [] e = refl
one_more kids (x ∷ es) e = one_more (joined kids (element_param x)) es e
