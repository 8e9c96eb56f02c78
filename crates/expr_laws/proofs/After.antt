-- Where the machine is behind a `new` with its type.
use Rattle.std.proofs.Common.{◌≡◌, Bool, true, false, if◌then◌else◌, List, [], Some, None, refl, ap, ◌∙◌}
use Rattle.source_grammar.specs.Expressions.{NamePrim, NewOf}
use Rattle.source_grammar.specs.ExpressionRules.{is_prefix_id}
use Rattle.source_grammar.specs.Lexemes.{Place, Id}
use Rattle.source_grammar.specs.Types.{WrittenType, SimpleType, Named, OfPath}
use Rattle.parse_parts.proofs.Along as types_along
use Rattle.parse_parts.proofs.Along.{heads_of, last_simple, simple_tail}
use Rattle.parse_parts.proofs.Derived as types
use Rattle.expr_laws.proofs.Derived as derived
use Rattle.expr_laws.proofs.Derived.{InNew, prim_at, type_of, dotted_prim, named_tail}
use Rattle.expr_laws.proofs.TokenSteps.{type-there}

-- behind a type
abbrev pub behind_type : WrittenType → types.State
behind_type type = types_along.after [] [] type

pub name-there : (id : Id) → prim_at (named_tail id) ≡ Some (NamePrim id)
name-there id = go (is_prefix_id id) where
  go : (b : Bool) → prim_at (if b then derived.AtSign id else derived.AtName id false) ≡ Some (NamePrim id)
  go true = refl
  go false = refl

-- no `.` stands behind a Simple
no-dot : (hs : List types.Head) (simple : SimpleType) → derived.dotted_read [] hs (simple_tail simple) ≡ None
no-dot hs (Named (OfPath path)) = refl
no-dot hs (Named _) = refl
no-dot hs _ = refl

pub new-there : (word : Place) (type : WrittenType) → prim_at (InNew word (behind_type type)) ≡ Some (NewOf word type)
new-there word type =
    ap (λ d. dotted_prim word d (type_of (behind_type type))) (no-dot (heads_of type []) (last_simple type)) ∙ ap (dotted_prim word None) (type-there type)
