-- The trees of parameters, type parameters and imports, and which modifiers count.
use Rattle.std.specs.Prelude.{ℕ, Bool, true, false, List, [], ◌∷◌, ◌++◌, length, map, Option, Some, None}
use Rattle.std.specs.List.{list_any, flat_map}
use Rattle.pc_terms.specs.declared.problems.Span.{Span}
use Rattle.pc_terms.specs.declared.tree_kinds.TreeKind.TheVariants as kind
use Rattle.positioned_trees.specs.declared.details.Access.{Access}
use Rattle.positioned_trees.specs.declared.details.Access.TheVariants as access
use Rattle.positioned_trees.specs.declared.details.Detail.TheVariants as detail
use Rattle.positioned_trees.specs.declared.details.ImportClause.{ImportClause}
use Rattle.positioned_trees.specs.declared.details.Modifiers.{Modifiers}
use Rattle.positioned_trees.specs.declared.details.Name.{Name}
use Rattle.positioned_trees.specs.declared.details.ParamKeyword.{ParamKeyword}
use Rattle.positioned_trees.specs.declared.details.ParamKeyword.TheVariants as keyword
use Rattle.positioned_trees.specs.declared.details.Selector.{Selector}
use Rattle.positioned_trees.specs.declared.details.Selector.TheVariants as selector
use Rattle.positioned_trees.specs.declared.details.Variance.{Variance}
use Rattle.positioned_trees.specs.declared.details.Variance.TheVariants as variance
use Rattle.positioned_trees.specs.declared.trees.Tree.{Tree}
use Rattle.source_grammar.specs.Definitions.{Mods, Mod, Abstract, Final, Sealed, Lazy, Override, CaseMod, Private, Protected, AccessQualifier, NoQualifier, OfId, OfThis, TypePart, NoType, OfType, Par, par_tokens, CPar, cpar_tokens, ParWord, NoWord, ValWord, VarWord, behind_items, items, ParList, TPar, tpar_tokens, TParams, NoTParams, TParamsOf, VarianceSign, NoSign, PlusSign, MinusSign, Bound, NoBound, BoundBy, Import, import_tokens, ImpExpr, ImportName, ImportWild, ImportSels, imp_expr_tokens, Sel, SelName, SelRenamed, SelHidden, SelWild}
use Rattle.source_grammar.specs.Lexemes.{Place, Id, QualId}
use Rattle.source_grammar.specs.Placeholders.{no_modifiers}
use Rattle.source_grammar.specs.Spans.{span_of, labelled, unlabelled, with_detail}
use Rattle.source_grammar.specs.Types.{type_tree}

-- ---- modifiers (SLS 5.2)

abbrev pub is_abstract : Mod → Bool
is_abstract (Abstract word) = true
is_abstract _ = false

abbrev pub is_final : Mod → Bool
is_final (Final word) = true
is_final _ = false

abbrev pub is_sealed : Mod → Bool
is_sealed (Sealed word) = true
is_sealed _ = false

abbrev pub is_lazy : Mod → Bool
is_lazy (Lazy word) = true
is_lazy _ = false

abbrev pub is_override : Mod → Bool
is_override (Override word) = true
is_override _ = false

abbrev pub is_case : Mod → Bool
is_case (CaseMod word) = true
is_case _ = false

abbrev pub has : (Mod → Bool) → Mods → Bool
has test mods = list_any test mods.mods

-- `[this]` changes nothing, and another qualifier makes public
abbrev pub qualified : AccessQualifier → Access → Access
qualified NoQualifier limited = limited
qualified (OfThis opening word closing) limited = limited
qualified (OfId opening id closing) limited = access.Public

-- the first modifier of access counts
abbrev pub access_in : List Mod → Access
access_in [] = access.Public
access_in (Private word qualifier ∷ mods) = qualified qualifier access.Private
access_in (Protected word qualifier ∷ mods) = qualified qualifier access.Protected
access_in (_ ∷ mods) = access_in mods

-- A modifier that a definition does not admit is passed over. Each admits one of access.
abbrev pub with_access : Mods → Modifiers
with_access mods = record no_modifiers { access = access_in mods.mods }

abbrev pub class_modifiers : Mods → Modifiers
class_modifiers mods = record (with_access mods) {
  abstract_ = has is_abstract mods;
  final_ = has is_final mods;
  sealed_ = has is_sealed mods;
  case_ = has is_case mods;
}

abbrev pub trait_modifiers : Mods → Modifiers
trait_modifiers mods = record (with_access mods) { sealed_ = has is_sealed mods }

abbrev pub object_modifiers : Mods → Modifiers
object_modifiers mods = record (with_access mods) { final_ = has is_final mods; case_ = has is_case mods }

-- of a member, and of a parameter of a class
abbrev pub member_modifiers : Mods → Modifiers
member_modifiers mods = record (with_access mods) { final_ = has is_final mods; override_ = has is_override mods }

-- ---- parameters

abbrev pub type_part_trees : TypePart → List Tree
type_part_trees NoType = []
type_part_trees (OfType point type) = type_tree type ∷ []

abbrev pub has_type : TypePart → Bool
has_type NoType = false
has_type (OfType point type) = true

abbrev pub repeats : Option Place → Bool
repeats None = false
repeats (Some star) = true

abbrev pub keyword_of : ParWord → ParamKeyword
keyword_of NoWord = keyword.Missing
keyword_of (ValWord word) = keyword.Val
keyword_of (VarWord word) = keyword.Var

abbrev pub param_tree : Modifiers → ParamKeyword → Span → Par → Tree
param_tree modifiers keyword span par =
    with_detail (detail.Param (record { modifiers = modifiers; keyword = keyword; binds = true; repeated = repeats par.star }))
    (labelled kind.Param par.id.name par.id.place.span span (type_tree par.type ∷ []))

abbrev pub par_tree : Par → Tree
par_tree par = param_tree no_modifiers keyword.Missing (span_of (par_tokens par)) par

-- A parameter of a class begins at the first of its modifiers.
abbrev pub cpar_tree : CPar → Tree
cpar_tree cpar = param_tree (member_modifiers cpar.mods) (keyword_of cpar.word) (span_of (cpar_tokens cpar)) cpar.par

abbrev pub par_list_trees : ParList → List Tree
par_list_trees list = map par_tree (items list.pars)

abbrev pub par_lists_trees : List ParList → List Tree
par_lists_trees lists = flat_map par_list_trees lists

abbrev pub par_counts : List ParList → List ℕ
par_counts lists = map (λ list. length (items list.pars)) lists

-- ---- type parameters

abbrev pub variance_of : VarianceSign → Variance
variance_of NoSign = variance.Invariant
variance_of (PlusSign sign) = variance.Covariant
variance_of (MinusSign sign) = variance.Contravariant

abbrev pub bound_trees : Bound → List Tree
bound_trees NoBound = []
bound_trees (BoundBy sign type) = type_tree type ∷ []

abbrev pub has_bound : Bound → Bool
has_bound NoBound = false
has_bound (BoundBy sign type) = true

abbrev pub tpar_tree : TPar → Tree
tpar_tree tpar =
    with_detail (detail.TypeParam (record { variance = variance_of tpar.variance; has_lower = has_bound tpar.lower; has_upper = has_bound tpar.upper }))
    (labelled kind.TypeParam tpar.id.name tpar.id.place.span (span_of (tpar_tokens tpar)) (bound_trees tpar.lower ++ bound_trees tpar.upper))

abbrev pub tparams_trees : TParams → List Tree
tparams_trees NoTParams = []
tparams_trees (TParamsOf opening tpar tpars closing) = tpar_tree tpar ∷ map tpar_tree (behind_items tpars)

-- ---- imports

abbrev pub name_of : Id → Name
name_of id = record { text = id.name; span = id.place.span }

abbrev pub names_of : QualId → List Name
names_of path = name_of path.first ∷ map (λ step. name_of step.id) path.steps

abbrev pub selector_of : Sel → Selector
selector_of (SelName id) = selector.Named (name_of id)
selector_of (SelRenamed id arrow shown) = selector.Renamed (name_of id) (name_of shown)
selector_of (SelHidden id arrow wild) = selector.Hidden (name_of id)
selector_of (SelWild wild) = selector.Wildcard wild.span

abbrev pub clause_of : ImpExpr → List Name → List Selector → ImportClause
clause_of expr path selectors = record { span = span_of (imp_expr_tokens expr); qualifier = path; selectors = selectors }

abbrev pub import_clause : ImpExpr → ImportClause
import_clause (ImportName path point id) = clause_of (ImportName path point id) (names_of path) (selector.Named (name_of id) ∷ [])
import_clause (ImportWild path point wild) = clause_of (ImportWild path point wild) (names_of path) (selector.Wildcard wild.span ∷ [])
import_clause (ImportSels path point opening sel sels closing) =
    clause_of (ImportSels path point opening sel sels closing) (names_of path) (selector_of sel ∷ map selector_of (behind_items sels))

-- without kids
abbrev pub import_tree : Import → Tree
import_tree i =
    with_detail (detail.Import (import_clause i.first ∷ map import_clause (behind_items i.others)))
    (unlabelled kind.Import (span_of (import_tokens i)) [])
