-- Trees as far as they are kept, through what changes or joins them.
use Rattle.std.proofs.Common.{◌≡◌, ℕ, ◌+◌, ◌≤◌, max, nat_le, nat_lt, Bool, true, false, if◌then◌else◌, List, [], ◌∷◌, ◌++◌, Option, Some, None, ◌⊎◌, inl, inr, refl, ap, sym, ◌∙◌, arith}
use Rattle.std.proofs.lemmas.Bool.Decides.{nat_tests}
use Rattle.pc_terms.specs.declared.problems.Span.{Span}
use Rattle.pc_terms.specs.declared.tree_kinds.TreeKind.{TreeKind}
use Rattle.positioned_trees.specs.declared.details.Detail.{Detail}
use Rattle.positioned_trees.specs.declared.trees.Tree.{Tree}
use Rattle.positioned_trees.specs.declared.trees.Tree.TheOpen.{Tree-F}
use Rattle.positioned_trees.specs.declared.trees.Tree.TheViews.{out-Tree, roll-Tree}
use Rattle.positioned_trees.specs.Trees.{height, highest}
use Rattle.positioned_trees.proofs.Heights.{height-roll, height-out, highest-append}
use Rattle.scan_tokens.specs.Words.{Bytes}
use Rattle.source_grammar.specs.Spans.{enclosing, labelled, with_detail, added as added_tree, unlabelled as unlabelled_tree, span_in as span_of_tree}
use Rattle.parse_parts.specs.Built.{max_height, joined, alone}
use Rattle.parse_parts.specs.declared.built.Kids.{Kids}
use Rattle.parse_parts.specs.declared.built.Tall.{Tall}
use Rattle.parse_parts.proofs.Kept.{keep, keep_all, kept, kept_all, le-is, le-not, joined-kept, alone-kept, node-kept}
use Rattle.tree_lower.specs.Comprehending.{around}
use Rattle.tree_lower.specs.Lowering.{unlabelled, leaf, pair, changed, added, detailed, higher, appended, span_in}

-- ---- one tree

pub changed-kept : (f : Tree → Tree) (t : Tree) → height (f t) ≡ height t → changed f (kept t) ≡ kept (f t)
changed-kept f t e = go (nat_le (height t) max_height) (height t) ∙ ap (λ h. keep (nat_le h max_height) h (f t)) (sym e) where
  go : (b : Bool) (h : ℕ) → changed f (keep b h t) ≡ keep b h (f t)
  go true h = refl
  go false h = refl

-- what the root says makes no height
pub same-height : (t : Tree) (layer : Tree-F Tree) → layer.kids ≡ (out-Tree t).kids → height (roll-Tree layer) ≡ height t
same-height t layer e = height-roll layer ∙ ap (λ ks. highest ks + 1) e ∙ sym (height-out t)

pub added-kept : (t : Tree) → added (kept t) ≡ kept (added_tree t)
added-kept t = changed-kept added_tree t (same-height t _ refl)

pub detailed-kept : (d : Detail) (t : Tree) → detailed d (kept t) ≡ kept (with_detail d t)
detailed-kept d t = changed-kept (with_detail d) t (same-height t _ refl)

pub unlabelled-kept : (kind : TreeKind) (span : Span) (kids : List Tree) → unlabelled kind span (kept_all kids) ≡ kept (unlabelled_tree kind span kids)
unlabelled-kept kind span kids = node-kept kind [] span span kids

pub leaf-kept : (kind : TreeKind) (label : Bytes) (span : Span) → leaf kind label span ≡ kept (labelled kind label span span [])
leaf-kept kind label span = node-kept kind label span span []

pub pair-kept : (a b : Tree) → pair (kept a) (kept b) ≡ kept_all (a ∷ b ∷ [])
pair-kept a b = ap (λ k. joined k (kept b)) (alone-kept a) ∙ joined-kept (a ∷ []) b

-- ---- many trees

higher-max : (a b : ℕ) → higher a b ≡ max a b
higher-max a b = go (nat_lt a b) refl where
  go : (t : Bool) → nat_lt a b ≡ t → (if t then b else a) ≡ max a b
  go true e = (let h : a + 1 ≤ b = grind (arith, nat_tests, e) in omega arith)
  go false e = (let h : b ≤ a = grind (arith, nat_tests, e) in omega arith)

pub appended-kept : (first second : List Tree) → appended (kept_all first) (kept_all second) ≡ kept_all (first ++ second)
appended-kept first second = go (nat_le (highest first) max_height) (nat_le (highest second) max_height) (nat_le (highest (first ++ second)) max_height) refl refl refl where
  go : (a b c : Bool) → nat_le (highest first) max_height ≡ a → nat_le (highest second) max_height ≡ b → nat_le (highest (first ++ second)) max_height ≡ c
      → appended (keep_all a (highest first) first) (keep_all b (highest second) second) ≡ keep_all c (highest (first ++ second)) (first ++ second)
  go true true true e f g = ap (λ h. Some (record { trees = first ++ second; height = h })) (higher-max (highest first) (highest second) ∙ sym (highest-append first second))
  go true true false e f g = absurd (omega (arith, highest-append first second, le-is _ _ e, le-is _ _ f, le-not _ _ g))
  go true false true e f g = absurd (omega (arith, highest-append first second, le-not _ _ f, le-is _ _ g))
  go true false false e f g = refl
  go false b true e f g = absurd (omega (arith, highest-append first second, le-not _ _ e, le-is _ _ g))
  go false b false e f g = refl

-- ---- spans

pub span-kept : (t : Tree) → (kept t ≡ None) ⊎ (span_in (kept t) ≡ span_of_tree t)
span-kept t = go (nat_le (height t) max_height) (height t) where
  go : (b : Bool) (h : ℕ) → (keep b h t ≡ None) ⊎ (span_in (keep b h t) ≡ span_of_tree t)
  go true h = inr refl
  go false h = inl refl

-- Where a tree is not kept there is no node over it, so its span does not matter.
pub over-one : (f : Span → Option Kids → Option Tall) → ((s : Span) → f s None ≡ None) → (a : Tree)
    → f (span_in (kept a)) (alone (kept a)) ≡ f (span_of_tree a) (kept_all (a ∷ []))
over-one f none a = elim (span-kept a) [
  | inl e ↦ (let gone : alone (kept a) ≡ None = ap alone e in
      ap (f (span_in (kept a))) gone ∙ none (span_in (kept a)) ∙ sym (none (span_of_tree a)) ∙ ap (f (span_of_tree a)) (sym gone ∙ alone-kept a))
  | inr e ↦ ap (λ s. f s (alone (kept a))) e ∙ ap (f (span_of_tree a)) (alone-kept a)
]

no-second : (x : Option Tall) → pair x None ≡ None
no-second None = refl
no-second (Some x) = refl

-- the same over two, of which the first stands for another tree
pub over-two : (f : Span → Option Kids → Option Tall) → ((s : Span) → f s None ≡ None) → (a b : Tree) (x : Option Tall) → (kept a ≡ None → x ≡ None)
    → f (around (kept a) (kept b)) (pair x (kept b)) ≡ f (enclosing (span_of_tree a) (span_of_tree b)) (pair x (kept b))
over-two f none a b x goes = elim (span-kept a) [
  | inl e ↦ gone (ap (λ y. pair y (kept b)) (goes e))
  | inr e ↦ elim (span-kept b) [
    | inl g ↦ gone (ap (pair x) g ∙ no-second x)
    | inr g ↦ ap (λ s. f (enclosing s (span_in (kept b))) (pair x (kept b))) e ∙ ap (λ s. f (enclosing (span_of_tree a) s) (pair x (kept b))) g
  ]
]
  where
    gone : pair x (kept b) ≡ None → f (around (kept a) (kept b)) (pair x (kept b)) ≡ f (enclosing (span_of_tree a) (span_of_tree b)) (pair x (kept b))
    gone e =
        ap (f (around (kept a) (kept b))) e ∙ none (around (kept a) (kept b)) ∙ sym (none (enclosing (span_of_tree a) (span_of_tree b)))
        ∙ ap (f (enclosing (span_of_tree a) (span_of_tree b))) (sym e)
