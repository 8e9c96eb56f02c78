-- The trees of declarations, classes, traits and objects.
use Rattle.std.specs.Prelude.{ℕ, ◌+◌, false, List, [], ◌∷◌, ◌++◌, length, map, Option, Some, None}
use Rattle.pc_terms.specs.declared.tree_kinds.TreeKind.{TreeKind}
use Rattle.pc_terms.specs.declared.tree_kinds.TreeKind.TheVariants as kind
use Rattle.positioned_trees.specs.declared.details.Detail.TheVariants as detail
use Rattle.positioned_trees.specs.declared.details.Modifiers.{Modifiers}
use Rattle.positioned_trees.specs.declared.details.RightSide.TheVariants as right_side
use Rattle.positioned_trees.specs.declared.trees.Tree.{Tree}
use Rattle.source_grammar.specs.Definitions.{Mods, OfType, items}
use Rattle.source_grammar.specs.DefinitionTrees.{class_modifiers, trait_modifiers, object_modifiers, cpar_tree, tparams_trees, import_tree}
use Rattle.source_grammar.specs.ExpressionTrees.{value_built, method_built, expr_built, expr_list_built, def_built, broken_tree}
use Rattle.source_grammar.specs.Lexemes.{Lexeme, Id}
use Rattle.source_grammar.specs.Placeholders.{Built, trees_of}
use Rattle.source_grammar.specs.Spans.{span_of, labelled, with_detail}
use Rattle.source_grammar.specs.Templates.{Dcl, ValueDcl, MethodDcl, dcl_tokens, Constructor, NoConstructor, ConstructorOf, ParentArgs, NoParentArgs, ArgsOf, Parents, NoParents, Extends, Tmpl, ClassTmpl, TraitTmpl, ObjectTmpl, tmpl_tokens, Body, ParentsAlone, ParentsWith, Stats, LastStat, MoreStats, Stat, ImportStat, TmplStat, DefStat, DclStat, ExprStat, EmptyStat, BrokenStat}
use Rattle.source_grammar.specs.Types.{type_tree}

abbrev pub dcl_built : Mods → Dcl → Built
dcl_built mods (ValueDcl word id point type) =
    value_built mods word id (OfType point type) (dcl_tokens (ValueDcl word id point type)) [] false
dcl_built mods (MethodDcl word id variables lists type) =
    method_built mods id variables lists type (dcl_tokens (MethodDcl word id variables lists type)) [] right_side.Missing

-- ---- what stands before the body

abbrev pub constructor_trees : Constructor → List Tree
constructor_trees NoConstructor = []
constructor_trees (ConstructorOf mods opening cpars closing) = map cpar_tree (items cpars)

abbrev pub args_trees : ParentArgs → List Tree
args_trees (ArgsOf opening exprs closing) = trees_of (expr_list_built exprs)
args_trees _ = []

-- the number of arguments, where a list of them is written
abbrev pub args_count : ParentArgs → Option ℕ
args_count NoParentArgs = None
args_count args = Some (length (args_trees args))

abbrev pub parents_trees : Parents → List Tree
parents_trees NoParents = []
parents_trees (Extends word type args mixins) = type_tree type ∷ (args_trees args ++ map (λ mixin. type_tree mixin.type) mixins)

abbrev pub parents_count : Parents → ℕ
parents_count NoParents = 0
parents_count (Extends word type args mixins) = length mixins + 1

abbrev pub first_args_count : Parents → Option ℕ
first_args_count NoParents = None
first_args_count (Extends word type args mixins) = args_count args

abbrev pub parents_of : Body → Parents
parents_of (ParentsAlone ancestors) = ancestors
parents_of (ParentsWith ancestors opening stats closing) = ancestors

-- ---- the whole

-- Its kids are its type parameters, its parameters, its parents, with the arguments after the first, and the statements of its body.
abbrev pub template_tree : TreeKind → Modifiers → Id → List Lexeme → List Tree → List Tree → Parents → List Tree → Tree
template_tree kind modifiers id tokens variables params ancestors statements =
    with_detail (detail.Template (record {
      modifiers = modifiers;
      type_params = length variables;
      params = length params;
      parents = parents_count ancestors;
      args = first_args_count ancestors;
    })) (labelled kind id.name id.place.span (span_of tokens) (variables ++ params ++ parents_trees ancestors ++ statements))

abbrev mutual
  -- a template begins at its keyword
  pub tmpl_tree : Mods → Tmpl → Tree
  tmpl_tree mods (ClassTmpl word id variables constructor body) =
      template_tree kind.ClassDef (class_modifiers mods) id (tmpl_tokens (ClassTmpl word id variables constructor body))
      (tparams_trees variables) (constructor_trees constructor) (parents_of body) (body_trees body)
  tmpl_tree mods (TraitTmpl word id variables body) =
      template_tree kind.TraitDef (trait_modifiers mods) id (tmpl_tokens (TraitTmpl word id variables body))
      (tparams_trees variables) [] (parents_of body) (body_trees body)
  tmpl_tree mods (ObjectTmpl word id body) =
      template_tree kind.ObjectDef (object_modifiers mods) id (tmpl_tokens (ObjectTmpl word id body)) [] [] (parents_of body) (body_trees body)

  pub body_trees : Body → List Tree
  body_trees (ParentsAlone ancestors) = []
  body_trees (ParentsWith ancestors opening stats closing) = stats_trees stats

  pub stats_trees : Stats → List Tree
  stats_trees (LastStat stat) = stat_trees stat
  stats_trees (MoreStats stat sep stats) = stat_trees stat ++ stats_trees stats

  -- an empty statement has no tree
  pub stat_trees : Stat → List Tree
  stat_trees (ImportStat i) = import_tree i ∷ []
  stat_trees (TmplStat mods tmpl) = tmpl_tree mods tmpl ∷ []
  stat_trees (DefStat mods def) = (def_built mods def).tree ∷ []
  stat_trees (DclStat mods dcl) = (dcl_built mods dcl).tree ∷ []
  stat_trees (ExprStat expr) = (expr_built expr).tree ∷ []
  stat_trees EmptyStat = []
  stat_trees (BrokenStat xs) = broken_tree xs ∷ []
