-- What `for` is rewritten to (SLS 6.19): calls of map, flatMap, foreach and withFilter, with functions of the generators' patterns.
use Rattle.std.specs.Prelude.{Bool, true, false, ◌&&◌, if◌then◌else◌, List, [], ◌∷◌, ◌++◌, codes}
use Rattle.pc_terms.specs.declared.problems.Span.{Span}
use Rattle.pc_terms.specs.declared.tree_kinds.TreeKind.{TreeKind}
use Rattle.pc_terms.specs.declared.tree_kinds.TreeKind.TheVariants as kind
use Rattle.positioned_trees.specs.declared.details.Detail.TheVariants as detail
use Rattle.positioned_trees.specs.declared.trees.Tree.{Tree}
use Rattle.positioned_trees.specs.declared.trees.Tree.TheOpen.{Tree-F}
use Rattle.positioned_trees.specs.declared.trees.Tree.TheFolds.{fold-Tree}
use Rattle.positioned_trees.specs.declared.trees.Tree.TheViews.{out-Tree, roll-Tree}
use Rattle.scan_tokens.specs.Words.{Bytes}
use Rattle.source_grammar.specs.Lexemes.{Place}
use Rattle.source_grammar.specs.Patterns.{Pat, LastAlternative, MoreAlternatives, Pat1, InfixPat, Pat3, LastOperand, MoreOperands, SPat, WildPat, VarPat, PatInParentheses, PairPat, TriplePat}
use Rattle.source_grammar.specs.Placeholders.{Built, lambda_param, free_of}
use Rattle.source_grammar.specs.Spans.{enclosing, span_in, labelled, unlabelled, with_detail, added}

-- ---- the patterns of generators: variables, `_`, and tuples of these

abbrev mutual
  pub is_generator_pat : Pat → Bool
  is_generator_pat (LastAlternative pat) = is_generator_pat1 pat
  is_generator_pat (MoreAlternatives pat stroke pats) = false

  pub is_generator_pat1 : Pat1 → Bool
  is_generator_pat1 (InfixPat pat) = is_generator_pat3 pat
  is_generator_pat1 _ = false

  pub is_generator_pat3 : Pat3 → Bool
  is_generator_pat3 (LastOperand pat) = is_generator_spat pat
  is_generator_pat3 (MoreOperands pat operator pats) = false

  pub is_generator_spat : SPat → Bool
  is_generator_spat (WildPat place) = true
  is_generator_spat (VarPat id) = true
  is_generator_spat (PatInParentheses opening pat closing) = is_generator_pat pat
  is_generator_spat (PairPat opening a comma_1 b closing) = is_generator_pat a && is_generator_pat b
  is_generator_spat (TriplePat opening a comma_1 b comma_2 c closing) = is_generator_pat a && is_generator_pat b && is_generator_pat c
  is_generator_spat _ = false

-- ---- copies

abbrev pub hidden_step : Tree-F Tree → Tree
hidden_step layer = roll-Tree (record {
  id = layer.id;
  span = layer.span;
  opaque = false;
  kind = layer.kind;
  label = layer.label;
  label_span = layer.label_span;
  kids = layer.kids;
  detail = detail.Plain;
})

-- A later copy of a pattern: nothing in it is opaque. No pattern says more than its kind, its label and its kids.
unfoldable pub hidden : Tree → Tree
hidden = fold-Tree Tree hidden_step

abbrev pub is_leaf : List Tree → Bool
is_leaf [] = true
is_leaf (tree ∷ trees) = false

abbrev pub is_bind : TreeKind → Bool
is_bind kind.Bind = true
is_bind _ = false

abbrev pub is_variable : Tree → Bool
is_variable pattern = is_bind (out-Tree pattern).kind && is_leaf (out-Tree pattern).kids

abbrev pub param_of : Tree → Tree
param_of pattern = roll-Tree (record (out-Tree pattern) { kind = kind.Param; detail = lambda_param true })

-- ---- added trees, with the smallest span that encloses their kids

abbrev pub function_of : Tree → Tree → Tree
function_of pattern body = added (unlabelled kind.Function (enclosing (span_in pattern) (span_in body)) (param_of pattern ∷ body ∷ []))

abbrev pub one_case : Span → Tree → Tree → Tree
one_case span pattern body =
    added (with_detail (detail.Case false) (labelled kind.Case (codes "case") span span (pattern ∷ body ∷ [])))

abbrev pub cases_of : Tree → Tree → Tree
cases_of pattern body =
    let span = enclosing (span_in pattern) (span_in body) in added (unlabelled kind.CaseFunction span (one_case span pattern body ∷ []))

-- a variable is the parameter of a function; any other pattern is that of a case
abbrev pub taking : Bool → Tree → Tree → Tree
taking is_copy pattern body =
    let shown = if is_copy then hidden pattern else pattern in
    if is_variable pattern then function_of shown body else cases_of shown body

-- the label of the method has no token
abbrev pub added_select : Tree → Bytes → Tree
added_select receiver name = added (labelled kind.Select name (span_in receiver) (span_in receiver) (receiver ∷ []))

abbrev pub added_call : Tree → Bytes → Tree → Tree
added_call receiver name arg =
    added (unlabelled kind.Apply (enclosing (span_in receiver) (span_in arg)) (added_select receiver name ∷ arg ∷ []))

-- ---- the rewriting

-- Pat '<-' Expr {[sep] 'if' Infix}
pub record Generator : Type 0 where
  pub pattern : Tree
  pub from : Built
  pub guards : List Built

-- each guard filters; the pattern stands first in the first of these
abbrev pub filtered : Bool → Tree → Tree → List Built → Tree
filtered is_copy receiver pattern [] = receiver
filtered is_copy receiver pattern (guard ∷ guards) =
    filtered true (added_call receiver (codes "withFilter") (taking is_copy pattern guard.tree)) pattern guards

abbrev pub has_guards : List Built → Bool
has_guards [] = false
has_guards (guard ∷ guards) = true

abbrev pub calling : Bytes → Generator → Tree → Tree
calling method gen body =
    added_call (filtered false gen.from.tree gen.pattern gen.guards) method (taking (has_guards gen.guards) gen.pattern body)

abbrev pub last_method : Bool → Bytes
last_method yields = if yields then codes "map" else codes "foreach"

abbrev pub earlier_method : Bool → Bytes
earlier_method yields = if yields then codes "flatMap" else codes "foreach"

abbrev pub comprehended : Bool → Generator → List Generator → Tree → Tree
comprehended yields gen [] body = calling (last_method yields) gen body
comprehended yields gen (next ∷ gens) body = calling (earlier_method yields) gen (comprehended yields next gens body)

-- the whole result is a tree of the text
abbrev pub whole : Span → Tree → Tree
whole span tree = roll-Tree (record (out-Tree tree) { span = span; label_span = span; opaque = true })

abbrev pub gen_free : List Generator → List Place
gen_free [] = []
gen_free (gen ∷ gens) = gen.from.free ++ free_of gen.guards ++ gen_free gens

abbrev pub comprehension : Bool → Span → Generator → List Generator → Built → Built
comprehension yields span gen gens body = record {
  tree = whole span (comprehended yields gen gens body.tree);
  free = gen_free (gen ∷ gens) ++ body.free;
}
