-- A tree that may define a symbol, where what stands before it is known.
use Rattle.std.proofs.Common.{◌≡◌, ℕ, ◌+◌, ◌-◌, Bool, true, false, not, cond, ◌&&◌, List, [], ◌∷◌, ◌++◌, length, Option, Some, refl, sym, ap, ◌∙◌, arith}
use Rattle.std.specs.List.{count_by, filter, slice_get}
use Rattle.std.proofs.Math.Seq.{get_or-append_seam}
use Rattle.std.proofs.lemmas.Bool.{and_from, and_parts, not_from_false}
use Rattle.std.proofs.lemmas.List.{length_push}
use Rattle.std.proofs.lemmas.List.Sums.{sum_by-cons}
use Rattle.std.proofs.lemmas.Option.{slice_get-get_or}
use Rattle.pc_terms.specs.Show.{last_step}
use Rattle.pc_terms.specs.declared.symbols.SymKind.{SymKind}
use Rattle.pc_terms.specs.declared.symbols.SymKind.TheVariants as symbol
use Rattle.pc_terms.specs.declared.symbols.SymStep.{SymStep}
use Rattle.pc_terms.specs.declared.tree_kinds.TreeKind.{TreeKind}
use Rattle.pc_terms.specs.declared.tree_kinds.TreeKind.TheVariants as kind
use Rattle.positioned_trees.specs.declared.details.Detail.{Detail}
use Rattle.positioned_trees.specs.declared.details.Detail.TheVariants as detail
use Rattle.positioned_trees.specs.declared.details.ParamKeyword.{ParamKeyword}
use Rattle.positioned_trees.specs.declared.details.ParamKeyword.TheVariants as keyword
use Rattle.positioned_trees.specs.declared.trees.Tree.{Tree}
use Rattle.positioned_trees.specs.declared.trees.Tree.TheViews.{out-Tree}
use Rattle.symbol_table.specs.declared.definitions.Found.{Found}
use Rattle.symbol_table.specs.Entering.{IsAt, Knows, admitted}
use Rattle.symbol_table.specs.Found.{owner_steps, steps_of, kinds_named, is_admitted, own_step}
use Rattle.symbol_table.specs.Owners.{symbol_at, defines_at, in_earlier_sources, rivals, may_follow, ordinal_after, is_second, is_refused, step_at}
use Rattle.symbol_table.specs.Sites.{Kid, kid_after}
use Rattle.symbol_table.specs.Symbols.{is_def, is_package, by_keyword, template_symbol, member_symbol, object_symbol, trait_symbol, class_param_symbol, class_symbol, method_symbol, symbol_by}
use Rattle.symbol_table.proofs.Admitted.{may_follow-admitted}
use Rattle.symbol_table.proofs.Rivals.{rivals-kinds}

-- ---- no tree defines a package

template_outside : (own : TreeKind) → is_package (template_symbol own) ≡ false
template_outside kind.ClassDef = refl
template_outside kind.TraitDef = refl
template_outside kind.ObjectDef = refl
template_outside _ = refl

member_outside : (own : TreeKind) → is_package (member_symbol own) ≡ false
member_outside kind.ValDef = refl
member_outside kind.VarDef = refl
member_outside kind.LazyDef = refl
member_outside kind.DefDef = refl
member_outside kind.AliasDef = refl
member_outside _ = refl

object_outside : (own : TreeKind) → is_package (object_symbol own) ≡ false
object_outside kind.ClassDef = refl
object_outside kind.TraitDef = refl
object_outside kind.ObjectDef = refl
object_outside own = member_outside own

trait_outside : (own : TreeKind) → is_package (trait_symbol own) ≡ false
trait_outside kind.TypeParam = refl
trait_outside own = member_outside own

keyword_outside : (word : ParamKeyword) → is_package (by_keyword word) ≡ false
keyword_outside keyword.Var = refl
keyword_outside _ = refl

param_outside : (parts : Detail) → is_package (class_param_symbol parts) ≡ false
param_outside (detail.Param parts) = keyword_outside parts.keyword
param_outside _ = refl

class_outside : (own : TreeKind) (parts : Detail) → is_package (class_symbol own parts) ≡ false
class_outside kind.Param parts = param_outside parts
class_outside kind.TypeParam parts = refl
class_outside own parts = member_outside own

method_outside : (own : TreeKind) → is_package (method_symbol own) ≡ false
method_outside kind.Param = refl
method_outside kind.TypeParam = refl
method_outside _ = refl

symbol_outside : (outer own : TreeKind) (parts : Detail) → is_package (symbol_by outer own parts) ≡ false
symbol_outside kind.Unit own parts = template_outside own
symbol_outside kind.ObjectDef own parts = object_outside own
symbol_outside kind.ClassDef own parts = class_outside own parts
symbol_outside kind.TraitDef own parts = trait_outside own
symbol_outside kind.DefDef own parts = method_outside own
symbol_outside _ own parts = refl

pub at_outside : (tree : Tree) (around : List Kid) → is_package (symbol_at tree around) ≡ false
at_outside tree [] = refl
at_outside tree (root ∷ []) = symbol_outside kind.Unit (out-Tree tree).kind (out-Tree tree).detail
at_outside tree (parent ∷ next ∷ outer) = symbol_outside (out-Tree parent.tree).kind (out-Tree tree).kind (out-Tree tree).detail

-- ---- how many methods are admitted

abbrev pub is_one : SymKind → ℕ
is_one own = cond (is_def own) 1 0

counted : (own : SymKind) (kinds : List SymKind) (b : Bool) → is_def own ≡ b → count_by is_def (filter is_def kinds) ≡ count_by is_def kinds
    → count_by is_def (cond b (own ∷ filter is_def kinds) (filter is_def kinds)) ≡ cond b 1 0 + count_by is_def kinds
counted own kinds true e rest = sum_by-cons is_one own (filter is_def kinds) ∙ (λ i. cond (e i) 1 0 + rest i)
counted own kinds false e rest = rest ∙ omega arith

count_filter : (kinds : List SymKind) → count_by is_def (filter is_def kinds) ≡ count_by is_def kinds
count_filter [] = refl
count_filter (own ∷ kinds) = counted own kinds (is_def own) refl (count_filter kinds) ∙ sym (sum_by-cons is_one own kinds)

-- the ordinal of what may follow does not see second definitions
ordinal-admitted : (kinds : List SymKind) (own : SymKind) → may_follow kinds own ≡ true → ordinal_after (admitted kinds) own ≡ ordinal_after kinds own
ordinal-admitted [] own h = refl
ordinal-admitted (first ∷ others) symbol.Def h =
    ap (λ b. count_by is_def (first ∷ cond b (filter is_def others) [])) (and_parts _ _ h).0
    ∙ sum_by-cons is_one first (filter is_def others)
    ∙ ap (λ n. is_one first + n) (count_filter others)
    ∙ sym (sum_by-cons is_one first others)
ordinal-admitted (first ∷ others) _ h = refl

-- ---- one tree

abbrev pub as_step : SymKind → List ℕ → ℕ → SymStep
as_step own name ordinal = record { kind = own; name = name; ordinal = ordinal }

module _ (roots : List Tree) (file : ℕ) (owner : Option ℕ) (around : List Kid) (found : List Found) (tree : Tree) (before : List Tree)
    (knows : Knows found owner around (in_earlier_sources roots file around ++ before)) (defined : defines_at tree around ≡ true) where
  abbrev Admits : Bool
  Admits = is_admitted found owner (symbol_at tree around) (out-Tree tree).label

  -- the definitions so far have all that stands before the tree, but for second ones
  known : kinds_named found owner (symbol_at tree around) (out-Tree tree).label ≡ admitted (rivals roots file (kid_after tree before) around)
  known = knows.each (symbol_at tree around) (out-Tree tree).label (at_outside tree around)
      ∙ ap admitted (sym (rivals-kinds roots file (kid_after tree before) around defined))

  admits : Admits ≡ may_follow (rivals roots file (kid_after tree before) around) (symbol_at tree around)
  admits = ap (λ kinds. may_follow kinds (symbol_at tree around)) known
      ∙ may_follow-admitted (rivals roots file (kid_after tree before) around) (symbol_at tree around)

  -- a second definition is refused
  pub second-known : is_second roots file (kid_after tree before) around ≡ not Admits
  second-known = ap (λ b. b && not (may_follow (rivals roots file (kid_after tree before) around) (symbol_at tree around))) defined ∙ ap not (sym admits)

  -- and another one has the step that the definitions so far give it
  pub step-known : Admits ≡ true → own_step found owner (symbol_at tree around) (out-Tree tree).label ≡ step_at roots file (kid_after tree before) around
  step-known h = ap (as_step (symbol_at tree around) (out-Tree tree).label)
      (ap (λ kinds. ordinal_after kinds (symbol_at tree around)) known
      ∙ ordinal-admitted (rivals roots file (kid_after tree before) around) (symbol_at tree around) (sym admits ∙ h))

-- ---- directly in it

pub slice_get-last : {X : Type 0} (xs : List X) (last : X) → slice_get (xs ++ last ∷ []) (length xs) ≡ Some last
slice_get-last xs last =
    slice_get-get_or (xs ++ last ∷ []) (length xs) last (omega (arith, length_push xs last)) ∙ ap Some (get_or-append_seam xs last [] last)

pub last_at : {X : Type 0} (xs : List X) (last : X) → length (xs ++ last ∷ []) - 1 ≡ length xs
last_at xs last = omega (arith, length_push xs last)

pub last_step-push : (steps : List SymStep) (own : SymStep) → last_step (steps ++ own ∷ []) ≡ Some own
last_step-push steps own = ap (slice_get (steps ++ own ∷ [])) (last_at steps own) ∙ slice_get-last steps own

-- where a tree defines a symbol, that owns what stands directly in it
pub IsAt-kid : (roots : List Tree) (file : ℕ) (owner : Option ℕ) (outer : TreeKind) (parts : Detail) (next : Kid) (others : List Kid) (found : List Found)
    (tree : Tree) (before : List Tree) (own : SymStep) (last : Found)
    → IsAt roots file owner outer parts (next ∷ others) found
    → defines_at tree (next ∷ others) ≡ true
    → is_refused roots file (kid_after tree before) (next ∷ others) ≡ false
    → own ≡ step_at roots file (kid_after tree before) (next ∷ others)
    → last.decl.path.steps ≡ owner_steps found owner ++ own ∷ []
    → IsAt roots file (Some (length found)) (out-Tree tree).kind (out-Tree tree).detail (kid_after tree before ∷ next ∷ others) (found ++ last ∷ [])
IsAt-kid roots file owner outer parts next others found tree before own last at defined kept step path = record {
  path = ap steps_of (slice_get-last found last) ∙ path ∙ (λ i. at.path i ++ step i ∷ []);
  symbols = λ _. refl;
  wrong = λ _. refl;
  detail = refl;
  owned = and_from _ _ defined at.owned;
  live = and_from _ _ (not_from_false _ kept) at.live;
}
