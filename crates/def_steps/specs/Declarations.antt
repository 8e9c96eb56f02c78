-- Declarations: definitions without a right side (SLS 4).
use Rattle.std.specs.Prelude.{ℕ, Bool, true, false, []}
use Rattle.positioned_trees.specs.declared.details.Detail.TheVariants as detail
use Rattle.positioned_trees.specs.declared.details.RightSide.TheVariants as right_side
use Rattle.parse_parts.specs.Built.{node}
use Rattle.parse_parts.specs.Steps.{from_to}
use Rattle.parse_parts.specs.declared.states.State.{State as TypeState}
use Rattle.tree_lower.specs.Lowering.{detailed}
use Rattle.expr_tails.specs.declared.items.Built.{Built}
use Rattle.expr_tails.specs.Types.{is_type}
use Rattle.def_steps.specs.declared.states.Found.{Found}
use Rattle.def_steps.specs.declared.states.Method.{Method}
use Rattle.def_steps.specs.declared.states.Tail.{Tail}
use Rattle.def_steps.specs.declared.states.Tail.TheVariants as tail
use Rattle.def_steps.specs.declared.states.State.{State}
use Rattle.def_steps.specs.declared.states.Value.{Value}
use Rattle.def_steps.specs.Definitions.{nothing_built}
use Rattle.def_steps.specs.Heads.{with_type, kind_of, method_node}

abbrev pub is_declaration_at : Tail → Bool
is_declaration_at (tail.InValueType v ty) = is_type ty
is_declaration_at (tail.AtMethod m) = true
is_declaration_at (tail.InResult m ty) = is_type ty
is_declaration_at _ = false

abbrev pub is_declaration : State → Bool
is_declaration d = is_declaration_at d.tail

abbrev pub value_declared : Found → Value → TypeState → ℕ → Built
value_declared found v ty end = record {
  tall = detailed (detail.Value (record { modifiers = found.modifiers; has_type = true; has_right_side = false }))
      (node (kind_of found v.is_var) v.named.name.text v.named.name.span (from_to v.named.start end)
      (with_type v.named ty).kids);
  free = [];
}

abbrev pub method_declared : Found → Method → ℕ → Built
method_declared found m end = record { tall = method_node found m end right_side.Missing; free = [] }

abbrev pub with_result : Method → TypeState → Method
with_result m ty = record m { named = with_type m.named ty }

abbrev pub declared_at : Tail → Found → ℕ → Built
declared_at (tail.InValueType v ty) found end = value_declared found v ty end
declared_at (tail.AtMethod m) found end = method_declared found m end
declared_at (tail.InResult m ty) found end = method_declared found (with_result m ty) end
declared_at _ found end = nothing_built

-- the declaration that was read, whose last token ends here
abbrev pub declaration_at : State → ℕ → Built
declaration_at d end = declared_at d.tail d.found end
