-- What a `for` is rewritten to is what the grammar says, as far as it is kept.
use Rattle.std.proofs.Common.{◌≡◌, ℕ, ◌+◌, max, nat_le, Bool, true, false, ◌&&◌, if◌then◌else◌, List, [], ◌∷◌, map, Option, None, codes, ◌⊎◌, inl, inr, refl, ap, sym, ◌∙◌, subst}
use Rattle.pc_terms.specs.declared.problems.Span.{Span}
use Rattle.pc_terms.specs.declared.tree_kinds.TreeKind.TheVariants as kind
use Rattle.positioned_trees.specs.declared.details.Detail.TheVariants as detail
use Rattle.positioned_trees.specs.declared.trees.Tree.{Tree}
use Rattle.positioned_trees.specs.declared.trees.Tree.TheFolds.{ind-Tree, fold-roll-Tree}
use Rattle.positioned_trees.specs.declared.trees.Tree.TheOpen.{Tree-F}
use Rattle.positioned_trees.specs.declared.trees.Tree.TheViews.{out-Tree, roll-Tree, out-roll-Tree}
use Rattle.positioned_trees.specs.Trees.{height, highest}
use Rattle.positioned_trees.proofs.Heights.{height-roll}
use Rattle.scan_tokens.specs.Words.{Bytes}
use Rattle.source_grammar.specs.Comprehensions as grammar
use Rattle.source_grammar.specs.Comprehensions.{hidden, hidden_step, is_leaf, is_bind, is_variable, param_of, last_method, earlier_method, whole}
use Rattle.source_grammar.specs.Placeholders.{Built}
use Rattle.source_grammar.specs.Spans.{enclosing, span_in as span_of_tree}
use Rattle.parse_parts.specs.Built.{max_height, alone, node}
use Rattle.parse_parts.specs.declared.built.Tall.{Tall}
use Rattle.parse_parts.proofs.Kept.{keep, kept, alone-kept, node-kept}
use Rattle.tree_lower.specs.Keeping.{guards_shown, generator_shown}
use Rattle.tree_lower.specs.Comprehending.{copied, is_variable_in, function_of, cases_of, taking, added_select, added_call, filtered_once, filtered, calling_over, calling, comprehended, comprehension}
use Rattle.tree_lower.specs.Lowering.{unlabelled, pair, changed, added, detailed}
use Rattle.tree_lower.proofs.HiddenTrees.{hidden_out}
use Rattle.tree_lower.proofs.KeptTrees.{changed-kept, same-height, added-kept, detailed-kept, unlabelled-kept, pair-kept, over-one, over-two}

-- ---- copies

abbrev IsAsHigh : Tree → Type 0
IsAsHigh tree = height (hidden tree) ≡ height tree

kids-high : (kids : List ((tree : Tree) × IsAsHigh tree)) → highest (map hidden (map (λ k. k.0) kids)) ≡ highest (map (λ k. k.0) kids)
kids-high [] = refl
kids-high (kid ∷ kids) = λ i. max (kid.1 i) (kids-high kids i)

pub hidden-high : (tree : Tree) → IsAsHigh tree
unfolding hidden
hidden-high = ind-Tree IsAsHigh (λ x y is.
    let kids : highest (map hidden x.kids) ≡ highest x.kids = subst (λ z. highest (map hidden z.kids) ≡ highest z.kids) is (kids-high y.kids) in
    ap height (fold-roll-Tree Tree hidden_step x) ∙ height-roll _ ∙ ap (λ n. n + 1) kids ∙ sym (height-roll x))

abbrev IsHidden : Tree → Type 0
IsHidden tree = hidden (hidden tree) ≡ hidden tree

kids-hidden : (kids : List ((tree : Tree) × IsHidden tree)) → map hidden (map hidden (map (λ k. k.0) kids)) ≡ map hidden (map (λ k. k.0) kids)
kids-hidden [] = refl
kids-hidden (kid ∷ kids) = λ i. kid.1 i ∷ kids-hidden kids i

-- a copy of a copy is that copy
pub hidden-again : (tree : Tree) → IsHidden tree
unfolding hidden
hidden-again = ind-Tree IsHidden (λ x y is.
    let kids : map hidden (map hidden x.kids) ≡ map hidden x.kids = subst (λ z. map hidden (map hidden z.kids) ≡ map hidden z.kids) is (kids-hidden y.kids) in
    let once : hidden (roll-Tree x) ≡ hidden_step (record x { kids = map hidden x.kids }) = fold-roll-Tree Tree hidden_step x in
    ap hidden once ∙ fold-roll-Tree Tree hidden_step _ ∙ ap (λ ks. hidden_step (record x { kids = ks })) kids ∙ sym once)

pub copied-kept : (tree : Tree) → copied (kept tree) ≡ kept (hidden tree)
copied-kept tree = changed-kept hidden tree (hidden-high tree)

leaf-hidden : (kids : List Tree) → is_leaf (map hidden kids) ≡ is_leaf kids
leaf-hidden [] = refl
leaf-hidden (kid ∷ kids) = refl

variable-hidden : (tree : Tree) → is_variable (hidden tree) ≡ is_variable tree
variable-hidden tree =
    ap is_variable (hidden_out tree) ∙ ap is_bind_of (out-roll-Tree layer) ∙ go (is_bind (out-Tree tree).kind)
  where
    layer : Tree-F Tree
    layer = record (out-Tree tree) { opaque = false; kids = map hidden (out-Tree tree).kids; detail = detail.Plain }

    is_bind_of : Tree-F Tree → Bool
    is_bind_of l = is_bind l.kind && is_leaf l.kids

    go : (b : Bool) → (b && is_leaf (map hidden (out-Tree tree).kids)) ≡ (b && is_leaf (out-Tree tree).kids)
    go true = leaf-hidden (out-Tree tree).kids
    go false = refl

-- ---- what is added

param-kept : (p : Tree) → changed param_of (kept p) ≡ kept (param_of p)
param-kept p = changed-kept param_of p (same-height p _ refl)

function-kept : (p b : Tree) → function_of (kept p) (kept b) ≡ kept (grammar.function_of p b)
function-kept p b =
    ap added
    (over-two (unlabelled kind.Function) (λ s. refl) p b (changed param_of (kept p)) (λ e. ap (changed param_of) e)
    ∙ ap (λ x. unlabelled kind.Function (enclosing (span_of_tree p) (span_of_tree b)) (pair x (kept b))) (param-kept p)
    ∙ ap (unlabelled kind.Function (enclosing (span_of_tree p) (span_of_tree b))) (pair-kept (param_of p) b)
    ∙ unlabelled-kept kind.Function (enclosing (span_of_tree p) (span_of_tree b)) (param_of p ∷ b ∷ []))
    ∙ added-kept _

cases-kept : (p b : Tree) → cases_of (kept p) (kept b) ≡ kept (grammar.cases_of p b)
cases-kept p b =
    let s = enclosing (span_of_tree p) (span_of_tree b) in
    let one : added (detailed (detail.Case false) (node kind.Case (codes "case") s s (pair (kept p) (kept b)))) ≡ kept (grammar.one_case s p b) =
    ap (λ k. added (detailed (detail.Case false) (node kind.Case (codes "case") s s k))) (pair-kept p b)
    ∙ ap (λ t. added (detailed (detail.Case false) t)) (node-kept kind.Case (codes "case") s s (p ∷ b ∷ []))
    ∙ ap added (detailed-kept (detail.Case false) _) ∙ added-kept _ in
    ap added
    (over-two (λ n k. unlabelled kind.CaseFunction n (alone (added (detailed (detail.Case false) (node kind.Case (codes "case") n n k))))) (λ n. refl) p b (kept p) (λ e. e)
    ∙ ap (λ t. unlabelled kind.CaseFunction s (alone t)) one
    ∙ ap (unlabelled kind.CaseFunction s) (alone-kept (grammar.one_case s p b))
    ∙ unlabelled-kept kind.CaseFunction s (grammar.one_case s p b ∷ []))
    ∙ added-kept _

variable-kept : (p : Tree) → (kept p ≡ None) ⊎ (is_variable_in (kept p) ≡ is_variable p)
variable-kept p = go (nat_le (height p) max_height) (height p) where
  go : (b : Bool) (h : ℕ) → (keep b h p ≡ None) ⊎ (is_variable_in (keep b h p) ≡ is_variable p)
  go true h = inr refl
  go false h = inl refl

abbrev either_of : Bool → Tree → Tree → Tree
either_of v p b = if v then grammar.function_of p b else grammar.cases_of p b

taking-kept : (p b : Tree) → taking (kept p) (kept b) ≡ kept (either_of (is_variable p) p b)
taking-kept p b = elim (variable-kept p) [
  | inl none ↦ nothing (is_variable_in (kept p)) none ∙ sym (nothing (is_variable p) none) ∙ each (is_variable p)
  | inr is ↦ ap over is ∙ each (is_variable p)
]
  where
    over : Bool → Option Tall
    over t = if t then function_of (kept p) (kept b) else cases_of (kept p) (kept b)

    each : (t : Bool) → over t ≡ kept (either_of t p b)
    each true = function-kept p b
    each false = cases-kept p b

    -- where the pattern is not kept, neither is made
    nothing : (t : Bool) → kept p ≡ None → over t ≡ None
    nothing true none = ap (λ x. function_of x (kept b)) none
    nothing false none = ap (λ x. cases_of x (kept b)) none

copy-kept : (p b : Tree) → taking (kept (hidden p)) (kept b) ≡ kept (grammar.taking true p b)
copy-kept p b = taking-kept (hidden p) b ∙ ap (λ v. kept (either_of v (hidden p) b)) (variable-hidden p)

select-kept : (receiver : Tree) (method : Bytes) → added_select (kept receiver) method ≡ kept (grammar.added_select receiver method)
select-kept receiver method =
    ap added
    (over-one (λ s k. node kind.Select method s s k) (λ s. refl) receiver
    ∙ node-kept kind.Select method (span_of_tree receiver) (span_of_tree receiver) (receiver ∷ []))
    ∙ added-kept _

call-kept : (receiver : Tree) (method : Bytes) (arg : Tree) → added_call (kept receiver) method (kept arg) ≡ kept (grammar.added_call receiver method arg)
call-kept receiver method arg =
    let s = enclosing (span_of_tree receiver) (span_of_tree arg) in
    ap added
    (over-two (unlabelled kind.Apply) (λ n. refl) receiver arg (added_select (kept receiver) method) (λ e. ap (λ x. added_select x method) e)
    ∙ ap (λ x. unlabelled kind.Apply s (pair x (kept arg))) (select-kept receiver method)
    ∙ ap (unlabelled kind.Apply s) (pair-kept (grammar.added_select receiver method) arg)
    ∙ unlabelled-kept kind.Apply s (grammar.added_select receiver method ∷ arg ∷ []))
    ∙ added-kept _

-- ---- the rewriting

filtered-kept : (receiver p : Tree) (guards : List Built)
    → filtered (kept receiver) (kept (hidden p)) (guards_shown guards) ≡ kept (grammar.filtered true receiver p guards)
filtered-kept receiver p [] = refl
filtered-kept receiver p (guard ∷ guards) =
    let again : copied (kept (hidden p)) ≡ kept (hidden p) = copied-kept (hidden p) ∙ ap kept (hidden-again p) in
    ap (λ x. filtered (added_call (kept receiver) (codes "withFilter") (taking x (kept guard.tree))) (kept (hidden p)) (guards_shown guards)) again
    ∙ ap (λ x. filtered (added_call (kept receiver) (codes "withFilter") x) (kept (hidden p)) (guards_shown guards)) (copy-kept p guard.tree)
    ∙ ap (λ x. filtered x (kept (hidden p)) (guards_shown guards)) (call-kept receiver (codes "withFilter") (grammar.taking true p guard.tree))
    ∙ filtered-kept (grammar.added_call receiver (codes "withFilter") (grammar.taking true p guard.tree)) p guards

calling-kept : (method : Bytes) (gen : grammar.Generator) (body : Tree) → calling method (generator_shown gen) (kept body) ≡ kept (grammar.calling method gen body)
calling-kept method gen body = go gen.guards where
  from : Tree
  from = gen.from.tree

  go : (guards : List Built) → calling_over method (kept gen.pattern) (kept from) (guards_shown guards) (kept body)
      ≡ kept (grammar.added_call (grammar.filtered false from gen.pattern guards) method (grammar.taking (grammar.has_guards guards) gen.pattern body))
  go [] = ap (added_call (kept from) method) (taking-kept gen.pattern body) ∙ call-kept from method (grammar.taking false gen.pattern body)
  go (guard ∷ guards) =
      let first : filtered_once (kept from) (kept gen.pattern) (kept guard.tree) ≡ kept (grammar.added_call from (codes "withFilter") (grammar.taking false gen.pattern guard.tree)) =
      ap (added_call (kept from) (codes "withFilter")) (taking-kept gen.pattern guard.tree) ∙ call-kept from (codes "withFilter") (grammar.taking false gen.pattern guard.tree) in
      ap (λ x. added_call (filtered x (copied (kept gen.pattern)) (guards_shown guards)) method (taking (copied (kept gen.pattern)) (kept body))) first
      ∙ ap (λ x. added_call (filtered (kept (grammar.added_call from (codes "withFilter") (grammar.taking false gen.pattern guard.tree))) x (guards_shown guards)) method (taking x (kept body))) (copied-kept gen.pattern)
      ∙ ap (λ x. added_call x method (taking (kept (hidden gen.pattern)) (kept body))) (filtered-kept (grammar.added_call from (codes "withFilter") (grammar.taking false gen.pattern guard.tree)) gen.pattern guards)
      ∙ ap (added_call (kept (grammar.filtered false from gen.pattern (guard ∷ guards))) method) (copy-kept gen.pattern body)
      ∙ call-kept (grammar.filtered false from gen.pattern (guard ∷ guards)) method (grammar.taking true gen.pattern body)

comprehended-kept : (yields : Bool) (gen : grammar.Generator) (gens : List grammar.Generator) (body : Tree)
    → comprehended yields (generator_shown gen) (map generator_shown gens) (kept body) ≡ kept (grammar.comprehended yields gen gens body)
comprehended-kept yields gen [] body = calling-kept (last_method yields) gen body
comprehended-kept yields gen (next ∷ gens) body =
    ap (calling (earlier_method yields) (generator_shown gen)) (comprehended-kept yields next gens body)
    ∙ calling-kept (earlier_method yields) gen (grammar.comprehended yields next gens body)

pub comprehension-kept : (yields : Bool) (span : Span) (gen : grammar.Generator) (gens : List grammar.Generator) (body : Built)
    → comprehension yields span (generator_shown gen ∷ map generator_shown gens) (kept body.tree) ≡ kept (grammar.comprehension yields span gen gens body).tree
comprehension-kept yields span gen gens body =
    ap (changed (whole span)) (comprehended-kept yields gen gens body.tree)
    ∙ changed-kept (whole span) (grammar.comprehended yields gen gens body.tree) (same-height _ _ refl)
