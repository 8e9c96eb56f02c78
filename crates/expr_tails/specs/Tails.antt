-- The operand that ends at a tail.
use Rattle.std.specs.Prelude.{ℕ, Bool, true, false, nat_le, ◌==◌, ◌||◌, if◌then◌else◌}
use Rattle.std.specs.Prelude.{List, [], ◌∷◌, ◌++◌, length, Option, Some, None, codes}
use Rattle.pc_terms.specs.declared.problems.Span.{Span}
use Rattle.pc_terms.specs.declared.tree_kinds.TreeKind.TheVariants as kind
use Rattle.positioned_trees.specs.declared.details.Name.{Name}
use Rattle.parse_parts.specs.Built.{no_kids, joined, alone, node, only}
use Rattle.parse_parts.specs.declared.built.Kids.{Kids}
use Rattle.parse_parts.specs.declared.built.Tall.{Tall}
use Rattle.parse_parts.specs.declared.states.State.{State as TypeState}
use Rattle.parse_parts.specs.Steps.{tail_end}
use Rattle.parse_patterns.specs.declared.states.Operand.{Operand}
use Rattle.tree_lower.specs.Lowering.{unlabelled, leaf, pair, appended, param, placeholder_ident, bound}
use Rattle.expr_tails.specs.declared.items.Built.{Built}
use Rattle.expr_tails.specs.declared.items.BuiltKids.{BuiltKids}
use Rattle.expr_tails.specs.declared.tails.Ready.{Ready}
use Rattle.expr_tails.specs.declared.states.Begun.{Begun}
use Rattle.expr_tails.specs.declared.states.Call.{Call}
use Rattle.expr_tails.specs.declared.states.Element.{Element}
use Rattle.expr_tails.specs.declared.states.Element.TheVariants as element
use Rattle.expr_tails.specs.declared.states.Form.{Form}
use Rattle.expr_tails.specs.declared.states.Form.TheVariants as form
use Rattle.expr_tails.specs.declared.states.Group.{Group}
use Rattle.expr_tails.specs.declared.states.NewOf.{NewOf}
use Rattle.expr_tails.specs.declared.states.Tail.{Tail}
use Rattle.expr_tails.specs.declared.states.Tail.TheVariants as tail
use Rattle.expr_tails.specs.declared.states.TypedOf.{TypedOf}
use Rattle.expr_tails.specs.declared.states.TypedOf.TheVariants as typed_of
use Rattle.expr_tails.specs.Types.{is_type, is_type_and_dot, type_of, before_dot}

abbrev pub from_start : ℕ → ℕ → Span
from_start start end = record { start = start; end = end }

-- an operand, where nothing in it is free
abbrev pub ready : Operand → List Span → Ready
ready operand free = record { operand = operand; free = free }

abbrev pub ident : Name → Operand
ident name = record { tall = leaf kind.Ident name.text name.span; span = name.span }

-- a Prim and the `.` after it, which ends here: a Select around a Hole
abbrev pub select_hole : Operand → ℕ → Operand
select_hole receiver end = record {
  tall = node kind.Select [] (from_start end end) (from_start receiver.span.start end)
      (pair receiver.tall (leaf kind.Hole [] (from_start end end)));
  span = from_start receiver.span.start end;
}

-- ---- elements of parentheses

abbrev pub param_kids : Option (Option Tall) → Option Kids
param_kids None = no_kids
param_kids (Some tall) = alone tall

-- the parameter that an element is where `=>` follows
abbrev pub element_param : Element → Option Tall
element_param (element.Param p) = param p.name p.binds p.span (param_kids p.ty)
element_param (element.Plain tall free) = None

-- e: T
abbrev pub typed : Operand → ℕ → Option Tall → Operand
typed of end ty = record {
  tall = unlabelled kind.Typed (from_start of.span.start end) (pair of.tall ty);
  span = from_start of.span.start end;
}

abbrev pub wild_at : Span → List Span → Ready
wild_at span free = ready (record { tall = placeholder_ident span; span = span }) (free ++ span ∷ [])

abbrev pub name_of_param : Name → Bool → Ready
name_of_param name true = ready (ident name) []
name_of_param name false = wild_at name.span []

abbrev pub typed_param : Ready → Span → Option (Option Tall) → Built
typed_param of span None = record { tall = of.operand.tall; free = of.free }
typed_param of span (Some ty) = record { tall = bound of.free span (typed of.operand span.end ty).tall; free = [] }

-- the expression that an element is where no `=>` follows, with the placeholder that it is, if it is one alone
abbrev pub element_expr : Element → Built
element_expr (element.Plain tall free) = record { tall = tall; free = free }
element_expr (element.Param p) = typed_param (name_of_param p.name p.binds) p.span p.ty

abbrev pub with_element : BuiltKids → Element → BuiltKids
with_element so_far e = record {
  kids = joined so_far.kids (element_expr e).tall;
  free = so_far.free ++ (element_expr e).free;
}

abbrev pub with_elements : BuiltKids → List Element → BuiltKids
with_elements so_far [] = so_far
with_elements so_far (e ∷ es) = with_elements (with_element so_far e) es

-- `()` is the Unit literal, `(e)` is e
abbrev pub group_tree : Span → ℕ → Option Kids → Option Tall
group_tree span count kids =
    if count == 0 then leaf kind.Literal (codes "()") span
    else (if count == 1 then only kids else unlabelled kind.Tuple span kids)

abbrev pub group_ready : Group → BuiltKids → Ready
group_ready group found =
    ready (record { tall = group_tree group.span (length group.elements) found.kids; span = group.span }) found.free

abbrev pub group_at : Group → List Span → Ready
group_at group free = group_ready group (with_elements (record { kids = no_kids; free = free }) group.elements)

-- ---- operands

abbrev pub call_at : Call → Operand
call_at call = record {
  tall = unlabelled kind.Apply call.span (appended (alone call.receiver) call.args);
  span = call.span;
}

abbrev pub new_at : NewOf → Operand
new_at new = record { tall = unlabelled kind.New new.span new.kids; span = new.span }

-- `new` and a type that is whole, or that is whole before its last `.`
abbrev pub new_with_type : ℕ → TypeState → NewOf
new_with_type start ty = record {
  span = from_start start (tail_end (before_dot ty).tail);
  kids = alone (type_of (before_dot ty));
}

abbrev pub in_new_at : ℕ → ℕ → TypeState → Operand
in_new_at start end ty =
    if is_type_and_dot ty then select_hole (new_at (new_with_type start ty)) end else new_at (new_with_type start ty)

abbrev pub typed_ready : Ready → ℕ → Option Tall → Ready
typed_ready of end ty = ready (typed of.operand end ty) of.free

-- what stands before `: T`
abbrev pub typed_of_at : TypedOf → List Span → Ready
typed_of_at (typed_of.Name name) free = ready (ident name) free
typed_of_at (typed_of.Wild span) free = wild_at span free
typed_of_at (typed_of.Infix operand) free = ready operand free

abbrev pub typed_at : TypedOf → TypeState → List Span → Ready
typed_at of ty free = typed_ready (typed_of_at of free) (tail_end ty.tail) (type_of ty)

abbrev pub caught_at : Begun → ℕ → Operand
caught_at begun end = record {
  tall = unlabelled kind.Try (from_start begun.start end) begun.kids;
  span = from_start begun.start end;
}

abbrev pub return_at : Span → Operand
return_at span = record { tall = leaf kind.Return [] span; span = span }

abbrev pub no_operand : Operand
no_operand = record { tall = None; span = from_start 0 0 }

abbrev pub ended_in : Tail → Operand
ended_in (tail.AtEnded operand) = operand
ended_in (tail.AtSemi operand is_one) = operand
ended_in _ = no_operand

-- the operand that a tail has as it is
abbrev pub operand_in : Tail → Operand
operand_in (tail.AtPrim operand form) = operand
operand_in at = ended_in at

-- the operand that ends at a tail, with the placeholders before it and in it
unfoldable pub operand_at : Tail → List Span → Ready
operand_at (tail.AtSign name) free = ready (ident name) free
operand_at (tail.AtName name is_sign) free = ready (ident name) free
operand_at (tail.AtWild span) free = wild_at span free
operand_at (tail.AtGroup group) free = group_at group free
operand_at (tail.InTyped of ty) free = typed_at of ty free
operand_at (tail.AtCall call) free = ready (call_at call) free
operand_at (tail.AtDot operand point) free = ready (select_hole operand point.end) free
operand_at (tail.InNew start end ty) free = ready (in_new_at start end ty) free
operand_at (tail.AtNew new) free = ready (new_at new) free
operand_at (tail.AtReturn span) free = ready (return_at span) free
operand_at (tail.AtCaught begun end) free = ready (caught_at begun end) free
operand_at at free = ready (operand_in at) free

-- ---- what can follow

abbrev pub may_be_prim : Group → Bool
may_be_prim group = nat_le (length group.elements) 3

abbrev pub is_name_tail : Tail → Bool
is_name_tail (tail.AtSign name) = true
is_name_tail (tail.AtName name is_sign) = true
is_name_tail _ = false

abbrev pub is_prim_tail : Tail → Bool
is_prim_tail (tail.AtPrim operand form) = true
is_prim_tail (tail.AtCall call) = true
is_prim_tail _ = false

-- an operator, `:` or `match` can follow what ends at the tail
abbrev pub is_operand : Tail → Bool
is_operand (tail.AtGroup group) = may_be_prim group
is_operand (tail.AtWild span) = true
is_operand (tail.AtNew new) = true
is_operand at = is_name_tail at || is_prim_tail at

-- nothing goes on what ends at the tail
abbrev pub is_finished : Tail → Bool
is_finished (tail.AtCaught begun end) = true
is_finished (tail.AtEnded operand) = true
is_finished _ = false

-- an expression can end at the tail
abbrev pub is_whole : Tail → Bool
is_whole (tail.InTyped of ty) = is_type ty
is_whole (tail.InNew start end ty) = is_type ty || is_type_and_dot ty
is_whole (tail.AtDot operand point) = true
is_whole (tail.AtReturn span) = true
is_whole at = is_operand at || is_finished at

abbrev pub is_hole_form : Form → Bool
is_hole_form form.Hole = true
is_hole_form _ = false

-- an identifier after the operand is an operator: it is the name of no Hole, and the operand of no prefix operator
abbrev pub is_before_operator : Tail → Bool
is_before_operator (tail.AtSign name) = false
is_before_operator (tail.AtName name is_sign) = if is_sign then false else true
is_before_operator (tail.AtPrim operand form) = if is_hole_form form then false else true
is_before_operator at = is_operand at
