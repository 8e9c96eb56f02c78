-- Trees that are given numbers stay apart.
use Rattle.std.proofs.Common.{◌≡◌, ℕ, ◌+◌, Bool, true, false, cond, List, [], ◌∷◌, map, refl, sym, ap, subst, ◌∙◌}
use Rattle.std.specs.List.{All, AllPairs, filter, flat_map}
use Rattle.std.proofs.lemmas.List.Elements.{All-nil, All-cons, All-append}
use Rattle.pc_terms.specs.declared.problems.Span.{Span}
use Rattle.positioned_trees.specs.Located.{AreApart, KeepsKidsApart}
use Rattle.positioned_trees.specs.Trees.{all_trees, numbered}
use Rattle.positioned_trees.specs.declared.trees.Tree.{Tree}
use Rattle.positioned_trees.specs.declared.trees.Tree.TheViews.{out-Tree, roll-Tree, out-roll-Tree}
use Rattle.positioned_trees.specs.declared.trees.Tree.TheFolds.{ind-Tree}
use Rattle.positioned_trees.proofs.Numbers.{kids_numbered, renumbered, numbered-out}
use Rattle.positioned_trees.proofs.PreOrder.{span_kept, opaque_kept}
use Rattle.positioned_trees.proofs.Spans.{All-front, All-back, All-kids, All-root}
use Rattle.positioned_trees.proofs.Walks.{all_trees-out}

abbrev pub spans_of : List Tree → List Span
spans_of trees = map (λ kid. (out-Tree kid).span) (filter (λ kid. (out-Tree kid).opaque) trees)

abbrev pub put : Bool → Span → List Span → List Span
put true span spans = span ∷ spans
put false span spans = spans

pub spans-cons : (tree : Tree) (trees : List Tree) → spans_of (tree ∷ trees) ≡ put (out-Tree tree).opaque (out-Tree tree).span (spans_of trees)
spans-cons tree trees = go (out-Tree tree).opaque where
  go : (b : Bool) → map (λ kid. (out-Tree kid).span) (cond b (tree ∷ filter (λ kid. (out-Tree kid).opaque) trees) (filter (λ kid. (out-Tree kid).opaque) trees))
      ≡ put b (out-Tree tree).span (spans_of trees)
  go true = refl
  go false = refl

-- the numbered kids have the spans of the kids
spans-numbered : (kids : List Tree) (start : ℕ) → spans_of (kids_numbered kids start).trees ≡ spans_of kids
spans-numbered [] start = refl
spans-numbered (kid ∷ kids) start =
    spans-cons (numbered kid start).tree (kids_numbered kids (numbered kid start).next).trees
    ∙ ap (λ b. put b (out-Tree (numbered kid start).tree).span (spans_of (kids_numbered kids (numbered kid start).next).trees)) (opaque_kept kid start)
    ∙ ap (λ span. put (out-Tree kid).opaque span (spans_of (kids_numbered kids (numbered kid start).next).trees)) (span_kept kid start)
    ∙ ap (put (out-Tree kid).opaque (out-Tree kid).span) (spans-numbered kids (numbered kid start).next)
    ∙ sym (spans-cons kid kids)

abbrev KeepApart : List Tree → Type 0
KeepApart trees = All KeepsKidsApart (flat_map all_trees trees)

abbrev StaysApart : Tree → Type 0
StaysApart tree = (start : ℕ) → All KeepsKidsApart (all_trees tree) → All KeepsKidsApart (all_trees (numbered tree start).tree)

abbrev KidsStay : List Tree → Type 0
KidsStay kids = (start : ℕ) → KeepApart kids → KeepApart (kids_numbered kids start).trees

kids_stay : (kids : List ((tree : Tree) × StaysApart tree)) → KidsStay (map (λ k. k.0) kids)
kids_stay [] start each = All-nil KeepsKidsApart
kids_stay (kid ∷ kids) start each =
    let below = flat_map all_trees (map (λ k. k.0) kids) in
    All-append KeepsKidsApart (all_trees (numbered kid.0 start).tree) (flat_map all_trees (kids_numbered (map (λ k. k.0) kids) (numbered kid.0 start).next).trees)
    (kid.1 start (All-front KeepsKidsApart (all_trees kid.0) below each))
    (kids_stay kids (numbered kid.0 start).next (All-back KeepsKidsApart (all_trees kid.0) below each))

pub stays_apart : (tree : Tree) → StaysApart tree
stays_apart = ind-Tree StaysApart (λ x y is start each.
    let tree : Tree = roll-Tree x in
    let at_layer : KidsStay x.kids = subst (λ z. KidsStay z.kids) is (kids_stay y.kids) in
    let keep : KidsStay (out-Tree tree).kids = subst (λ z. KidsStay z.kids) (sym (out-roll-Tree x)) at_layer in
    let new : List Tree = (kids_numbered (out-Tree tree).kids (start + 1)).trees in
    let below : KeepApart new = keep (start + 1) (All-kids KeepsKidsApart tree each) in
    let now : Tree = renumbered tree start new in
    let here : AllPairs AreApart (spans_of new) = subst (AllPairs AreApart) (sym (spans-numbered (out-Tree tree).kids (start + 1))) (All-root KeepsKidsApart tree each) in
    let apart : KeepsKidsApart now = subst (λ z. AllPairs AreApart (spans_of z.kids)) (sym (out-roll-Tree _)) here in
    let under : KeepApart (out-Tree now).kids = subst (λ z. KeepApart z.kids) (sym (out-roll-Tree _)) below in
    let all : All KeepsKidsApart (all_trees now) = subst (All KeepsKidsApart) (sym (all_trees-out now)) (All-cons KeepsKidsApart now (flat_map all_trees (out-Tree now).kids) apart under) in
    subst (λ n. All KeepsKidsApart (all_trees n.tree)) (sym (numbered-out tree start)) all)
