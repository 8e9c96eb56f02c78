-- What was read of a template before its body, and its tree.
use Rattle.std.specs.Prelude.{ℕ, min, length, false, Option, Some, None}
use Rattle.pc_terms.specs.declared.tree_kinds.TreeKind.{TreeKind}
use Rattle.pc_terms.specs.declared.tree_kinds.TreeKind.TheVariants as kind
use Rattle.positioned_trees.specs.Trees.{max_number}
use Rattle.positioned_trees.specs.declared.details.Detail.TheVariants as detail
use Rattle.positioned_trees.specs.declared.details.Modifiers.{Modifiers}
use Rattle.source_grammar.specs.Placeholders.{no_modifiers}
use Rattle.parse_parts.specs.Built.{joined, node}
use Rattle.parse_parts.specs.Steps.{from_to}
use Rattle.parse_parts.specs.declared.built.Kids.{Kids}
use Rattle.parse_parts.specs.declared.built.Tall.{Tall}
use Rattle.tree_lower.specs.Lowering.{appended, detailed}
use Rattle.def_steps.specs.Params.{one_more}
use Rattle.def_steps.specs.declared.states.Found.{Found}
use Rattle.def_steps.specs.declared.states.Method.{Method}
use Rattle.template_steps.specs.declared.class_params.ParamList.{ParamList}
use Rattle.template_steps.specs.declared.heads.Form.{Form}
use Rattle.template_steps.specs.declared.heads.Form.TheVariants as form
use Rattle.template_steps.specs.declared.heads.Head.{Head}
use Rattle.template_steps.specs.declared.heads.Marks.{Marks}

abbrev pub no_marks : Marks
no_marks = record { abstract_ = false; sealed_ = false; case_ = false }

-- A modifier that a template does not admit is passed over (SLS 5.2).
abbrev pub admitted : Form → Found → Marks → Modifiers
admitted form.Class found marks = record no_modifiers {
  abstract_ = marks.abstract_;
  final_ = found.modifiers.final_;
  sealed_ = marks.sealed_;
  case_ = marks.case_;
  access = found.modifiers.access;
}
admitted form.Trait found marks = record no_modifiers { sealed_ = marks.sealed_; access = found.modifiers.access }
admitted form.Object found marks = record no_modifiers {
  final_ = found.modifiers.final_;
  case_ = marks.case_;
  access = found.modifiers.access;
}

abbrev pub head_of : Method → Head
head_of m = record {
  start = m.named.start;
  name = m.named.name;
  kids = m.named.kids;
  type_params = m.type_params;
  params = 0;
  parents = 0;
  args = None;
}

abbrev pub with_params : Head → ParamList → Head
with_params h l = record h { kids = appended h.kids l.kids; params = l.count }

abbrev pub with_parent : Head → Option Tall → Head
with_parent h parent = record h { kids = joined h.kids parent; parents = one_more h.parents }

abbrev pub count_of : Option Kids → ℕ
count_of None = 0
count_of (Some kids) = min (length kids.trees) max_number

abbrev pub with_args : Head → Option Kids → Head
with_args h args = record h { kids = appended h.kids args; args = Some (count_of args) }

abbrev pub with_statements : Head → Option Kids → Head
with_statements h statements = record h { kids = appended h.kids statements }

abbrev pub kind_of : Form → TreeKind
kind_of form.Class = kind.ClassDef
kind_of form.Trait = kind.TraitDef
kind_of form.Object = kind.ObjectDef

-- the tree of a template that ends here
abbrev pub template_tree : Form → Modifiers → Head → ℕ → Option Tall
template_tree f modifiers h end =
    detailed (detail.Template (record {
      modifiers = modifiers;
      type_params = h.type_params;
      params = h.params;
      parents = h.parents;
      args = h.args;
    })) (node (kind_of f) h.name.text h.name.span (from_to h.start end) h.kids)
