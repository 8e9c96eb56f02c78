-- The span of a tree encloses all trees below it.
use Rattle.std.proofs.Common.{ℕ, zero, suc, ◌<◌, List, [], ◌∷◌, ◌++◌, map, length, get_or, sym, subst, arith}
use Rattle.std.specs.List.{All, flat_map}
use Rattle.std.proofs.lemmas.List.Elements.{All-nil, All-cons, All-head, All-tail, All-append, All-weaker}
use Rattle.pc_terms.specs.declared.problems.Span.{Span}
use Rattle.positioned_trees.specs.Located.{IsWithin, EnclosesKids, Encloses}
use Rattle.positioned_trees.specs.Trees.{all_trees}
use Rattle.positioned_trees.proofs.Walks.{all_trees-out}
use Rattle.positioned_trees.specs.declared.trees.Tree.{Tree}
use Rattle.positioned_trees.specs.declared.trees.Tree.TheViews.{out-Tree, roll-Tree, out-roll-Tree}
use Rattle.positioned_trees.specs.declared.trees.Tree.TheFolds.{ind-Tree}

pub All-front : {X : Type 0} (P : X → Type 0) (xs ys : List X) → All P (xs ++ ys) → All P xs
All-front P [] ys each = All-nil P
All-front P (x ∷ xs) ys each = All-cons P x xs (All-head P x (xs ++ ys) each) (All-front P xs ys (All-tail P x (xs ++ ys) each))

pub All-back : {X : Type 0} (P : X → Type 0) (xs ys : List X) → All P (xs ++ ys) → All P ys
All-back P [] ys each = each
All-back P (x ∷ xs) ys each = All-back P xs ys (All-tail P x (xs ++ ys) each)

-- what holds of a tree and all below it holds of each kid and all below that
pub All-kid : (P : Tree → Type 0) (trees : List Tree) (at : ℕ) (d : Tree) → at < length trees → All P (flat_map all_trees trees) → All P (all_trees (get_or trees at d))
All-kid P [] at d within each = absurd (omega (arith, within))
All-kid P (tree ∷ trees) zero d within each = All-front P (all_trees tree) (flat_map all_trees trees) each
All-kid P (tree ∷ trees) (suc at) d within each = All-kid P trees at d (omega (arith, within)) (All-back P (all_trees tree) (flat_map all_trees trees) each)

pub All-kids : (P : Tree → Type 0) (tree : Tree) → All P (all_trees tree) → All P (flat_map all_trees (out-Tree tree).kids)
All-kids P tree each = All-tail P tree (flat_map all_trees (out-Tree tree).kids) (subst (All P) (all_trees-out tree) each)

pub All-root : (P : Tree → Type 0) (tree : Tree) → All P (all_trees tree) → P tree
All-root P tree each = All-head P tree (flat_map all_trees (out-Tree tree).kids) (subst (All P) (all_trees-out tree) each)

within_twice : (a b c : Span) → IsWithin a b → IsWithin b c → IsWithin a c
within_twice a b c ab bc = (omega (arith, ab.0, bc.0), omega (arith, ab.1, bc.1))

enclosed_kids : (outer : Span) (kids : List ((tree : Tree) × Encloses tree))
    → All (λ kid. IsWithin outer (out-Tree kid).span) (map (λ k. k.0) kids)
    → All EnclosesKids (flat_map all_trees (map (λ k. k.0) kids))
    → All (λ other. IsWithin outer (out-Tree other).span) (flat_map all_trees (map (λ k. k.0) kids))
enclosed_kids outer [] within encloses = All-nil (λ other. IsWithin outer (out-Tree other).span)
enclosed_kids outer (kid ∷ kids) within encloses =
    let below = flat_map all_trees (map (λ k. k.0) kids) in
    let here = All-head (λ k. IsWithin outer (out-Tree k).span) kid.0 (map (λ k. k.0) kids) within in
    All-append (λ other. IsWithin outer (out-Tree other).span) (all_trees kid.0) below
    (All-weaker (λ other. IsWithin (out-Tree kid.0).span (out-Tree other).span) (λ other. IsWithin outer (out-Tree other).span)
    (λ other is. within_twice outer (out-Tree kid.0).span (out-Tree other).span here is) (all_trees kid.0)
    (kid.1 (All-front EnclosesKids (all_trees kid.0) below encloses)))
    (enclosed_kids outer kids (All-tail (λ k. IsWithin outer (out-Tree k).span) kid.0 (map (λ k. k.0) kids) within)
    (All-back EnclosesKids (all_trees kid.0) below encloses))

abbrev EnclosedKids : List Tree → Type 0
EnclosedKids kids = (outer : Span) → All (λ kid. IsWithin outer (out-Tree kid).span) kids
    → All EnclosesKids (flat_map all_trees kids) → All (λ other. IsWithin outer (out-Tree other).span) (flat_map all_trees kids)

-- Where every tree encloses its kids, each encloses all below it.
pub enclosed : (tree : Tree) → Encloses tree
enclosed = ind-Tree Encloses (λ x y is encloses.
    let tree : Tree = roll-Tree x in
    let at_layer : EnclosedKids x.kids = subst (λ z. EnclosedKids z.kids) is (λ outer. enclosed_kids outer y.kids) in
    let kids : EnclosedKids (out-Tree tree).kids = subst (λ z. EnclosedKids z.kids) (sym (out-roll-Tree x)) at_layer in
    subst (All (λ other. IsWithin (out-Tree tree).span (out-Tree other).span)) (sym (all_trees-out tree))
    (All-cons (λ other. IsWithin (out-Tree tree).span (out-Tree other).span) tree (flat_map all_trees (out-Tree tree).kids) (omega arith, omega arith)
    (kids (out-Tree tree).span (All-root EnclosesKids tree encloses) (All-kids EnclosesKids tree encloses))))
