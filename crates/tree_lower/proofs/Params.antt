-- Parameters of placeholders, one more at the end.
use Rattle.std.proofs.Common.{◌≡◌, List, [], ◌∷◌, ◌++◌, Option, refl}
use Rattle.pc_terms.specs.declared.problems.Span.{Span}
use Rattle.parse_parts.specs.Built.{joined}
use Rattle.parse_parts.specs.declared.built.Kids.{Kids}
use Rattle.tree_lower.specs.Lowering.{placeholder_param, with_params}

pub one_more : (kids : Option Kids) (spans : List Span) (span : Span) → with_params kids (spans ++ span ∷ []) ≡ joined (with_params kids spans) (placeholder_param span)
one_more kids [] span = refl
one_more kids (place ∷ spans) span = one_more (joined kids (placeholder_param place)) spans span
