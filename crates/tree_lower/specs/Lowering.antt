-- Trees as far as they are kept, and what operators, assignments and placeholders make of them.
use Rattle.std.specs.Prelude.{ℕ, Bool, false, nat_lt, if◌then◌else◌, List, [], ◌∷◌, ◌++◌, Option, Some, None, codes}
use Rattle.pc_terms.specs.declared.problems.Span.{Span}
use Rattle.pc_terms.specs.declared.tree_kinds.TreeKind.{TreeKind}
use Rattle.pc_terms.specs.declared.tree_kinds.TreeKind.TheVariants as kind
use Rattle.positioned_trees.specs.declared.details.Detail.{Detail}
use Rattle.positioned_trees.specs.declared.details.Detail.TheVariants as detail
use Rattle.positioned_trees.specs.declared.details.Name.{Name}
use Rattle.positioned_trees.specs.declared.trees.Tree.{Tree}
use Rattle.scan_tokens.specs.Words.{Bytes}
use Rattle.source_grammar.specs.Placeholders.{lambda_param}
use Rattle.source_grammar.specs.Precedence.{is_assignment, is_right}
use Rattle.source_grammar.specs.Spans.{from_to, enclosing, with_detail}
use Rattle.source_grammar.specs.Spans.{added as added_tree, span_in as span_of_tree}
use Rattle.parse_parts.specs.Built.{no_kids, joined, alone, node}
use Rattle.parse_parts.specs.declared.built.Kids.{Kids}
use Rattle.parse_parts.specs.declared.built.Tall.{Tall}
use Rattle.parse_patterns.specs.declared.states.Operand.{Operand}

abbrev pub unlabelled : TreeKind → Span → Option Kids → Option Tall
unlabelled tree_kind span kids = node tree_kind [] span span kids

abbrev pub leaf : TreeKind → Bytes → Span → Option Tall
leaf tree_kind label span = node tree_kind label span span no_kids

abbrev pub pair : Option Tall → Option Tall → Option Kids
pair a b = joined (alone a) b

-- the tree, changed in what its root says
abbrev pub changed : (Tree → Tree) → Option Tall → Option Tall
changed f None = None
changed f (Some tall) = Some (record { tree = f tall.tree; height = tall.height })

abbrev pub added : Option Tall → Option Tall
added tall = changed added_tree tall

abbrev pub detailed : Detail → Option Tall → Option Tall
detailed detail tall = changed (with_detail detail) tall

abbrev pub higher : ℕ → ℕ → ℕ
higher a b = if nat_lt a b then b else a

abbrev pub appended : Option Kids → Option Kids → Option Kids
appended (Some kids) (Some behind) =
    Some (record { trees = kids.trees ++ behind.trees; height = higher kids.height behind.height })
appended _ _ = None

abbrev pub span_in : Option Tall → Span
span_in None = record { start = 0; end = 0 }
span_in (Some tall) = span_of_tree tall.tree

-- ---- operators and assignments

-- a method that is written as an operator, of its receiver
abbrev pub operator_select : Name → Option Tall → Option Tall
operator_select name receiver = added (node kind.Select name.text name.span (enclosing (span_in receiver) name.span) (alone receiver))

abbrev pub called : Name → Span → Option Tall → Option Tall → Option Tall
called name span receiver arg = unlabelled kind.Apply span (pair (operator_select name receiver) arg)

abbrev pub operation_tall : Name → Span → Option Tall → Option Tall → Option Tall
operation_tall name span a b =
    if is_assignment name.text then node kind.OpAssign name.text name.span span (pair a b)
    else (if is_right name.text then called name span b a else called name span a b)

-- a op b
abbrev pub operation : Name → Operand → Operand → Operand
operation name a b = record { tall = operation_tall name (from_to a.span b.span) a.tall b.tall; span = from_to a.span b.span }

-- -x is x.unary_-
abbrev pub prefixed : Name → Operand → Operand
prefixed sign operand = record {
  tall = node kind.Select (codes "unary_" ++ sign.text) sign.span (from_to sign.span operand.span) (alone operand.tall);
  span = from_to sign.span operand.span;
}

abbrev pub update_select : Option Tall → Option Tall
update_select receiver = added (node kind.Select (codes "update") (span_in receiver) (span_in receiver) (alone receiver))

-- a(i) = v is a.update(i, v)
abbrev pub updated : Span → Option Tall → Option Kids → Option Tall → Option Tall
updated span receiver args right = unlabelled kind.Apply span (joined (appended (alone (update_select receiver)) args) right)

-- ---- placeholders

abbrev pub param : Name → Bool → Span → Option Kids → Option Tall
param name binds span kids = detailed (lambda_param binds) (node kind.Param name.text name.span span kids)

abbrev pub placeholder_ident : Span → Option Tall
placeholder_ident span = detailed detail.Placeholder (leaf kind.Ident (codes "_") span)

abbrev pub placeholder_param : Span → Option Tall
placeholder_param span = added (detailed (lambda_param false) (leaf kind.Param (codes "_") span))

abbrev pub with_params : Option Kids → List Span → Option Kids
with_params kids [] = kids
with_params kids (span ∷ spans) = with_params (joined kids (placeholder_param span)) spans

abbrev pub bound_by : List Span → Span → Option Tall → Option Tall
bound_by places span tall = unlabelled kind.Function span (joined (with_params no_kids places) tall)

-- the function of these placeholders over a tree
abbrev pub bound : List Span → Span → Option Tall → Option Tall
bound [] span tall = tall
bound (place ∷ places) span tall = bound_by (place ∷ places) span tall
