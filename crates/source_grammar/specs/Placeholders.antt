-- What is built of a part of an expression: its tree, and the placeholders in it that no expression around them has bound yet (SLS 6.23).
use Rattle.std.specs.Prelude.{Bool, false, if◌then◌else◌, List, [], ◌∷◌, ◌++◌, map, codes}
use Rattle.std.specs.List.{flat_map}
use Rattle.pc_terms.specs.declared.problems.Span.{Span}
use Rattle.pc_terms.specs.declared.tree_kinds.TreeKind.{TreeKind}
use Rattle.pc_terms.specs.declared.tree_kinds.TreeKind.TheVariants as kind
use Rattle.positioned_trees.specs.declared.details.Access.TheVariants.{Public}
use Rattle.positioned_trees.specs.declared.details.Detail.{Detail}
use Rattle.positioned_trees.specs.declared.details.Detail.TheVariants as detail
use Rattle.positioned_trees.specs.declared.details.Modifiers.{Modifiers}
use Rattle.positioned_trees.specs.declared.details.ParamKeyword.TheVariants.{Missing}
use Rattle.positioned_trees.specs.declared.trees.Tree.{Tree}
use Rattle.scan_tokens.specs.Words.{Bytes}
use Rattle.source_grammar.specs.Lexemes.{Place, Lexeme}
use Rattle.source_grammar.specs.Spans.{span_of, labelled, unlabelled, with_detail, added}

-- The places are those of the placeholders, left to right.
pub record Built : Type 0 where
  pub tree : Tree
  pub free : List Place

abbrev pub plain : Tree → Built
plain tree = record { tree = tree; free = [] }

abbrev pub plain_each : List Tree → List Built
plain_each trees = map plain trees

abbrev pub trees_of : List Built → List Tree
trees_of parts = map (λ part. part.tree) parts

abbrev pub free_of : List Built → List Place
free_of parts = flat_map (λ part. part.free) parts

-- a tree of these kids, which stand in the order of the text
abbrev pub node : TreeKind → Span → List Built → Built
node kind span parts = record { tree = unlabelled kind span (trees_of parts); free = free_of parts }

abbrev pub named_node : TreeKind → Bytes → Span → Span → List Built → Built
named_node kind label label_span span parts = record { tree = labelled kind label label_span span (trees_of parts); free = free_of parts }

abbrev pub detailed : Detail → Built → Built
detailed detail part = record { tree = with_detail detail part.tree; free = part.free }

-- ---- binding

abbrev pub no_modifiers : Modifiers
no_modifiers = record {
  abstract_ = false;
  final_ = false;
  sealed_ = false;
  case_ = false;
  override_ = false;
  access = Public;
}

-- of a parameter of a lambda
abbrev pub lambda_param : Bool → Detail
lambda_param binds = detail.Param (record { modifiers = no_modifiers; keyword = Missing; binds = binds; repeated = false })

abbrev pub placeholder_ident : Place → Built
placeholder_ident place = record {
  tree = with_detail detail.Placeholder (labelled kind.Ident (codes "_") place.span place.span []);
  free = place ∷ [];
}

abbrev pub placeholder_param : Place → Tree
placeholder_param place = added (with_detail (lambda_param false) (labelled kind.Param (codes "_") place.span place.span []))

-- the function of these placeholders over what spans these tokens
abbrev pub bound_over : List Lexeme → Tree → List Place → Built
bound_over tokens tree [] = plain tree
bound_over tokens tree (place ∷ places) =
    plain (unlabelled kind.Function (span_of tokens) (map placeholder_param (place ∷ places) ++ tree ∷ []))

-- An expression binds what is free in it, unless it is a placeholder alone.
abbrev pub bound : Bool → List Lexeme → Built → Built
bound alone tokens part = if alone then part else bound_over tokens part.tree part.free
