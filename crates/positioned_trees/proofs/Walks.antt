-- All trees that stand in a tree, layer by layer.
use Rattle.std.proofs.Common.{◌≡◌, ℕ, ◌+◌, List, [], ◌∷◌, ◌++◌, map, refl, sym, ap, subst, ◌∙◌}
use Rattle.std.specs.List.{flat_map}
use Rattle.std.proofs.lemmas.List.{map-append}
use Rattle.std.proofs.lemmas.List.Folds.{flat_map-map}
use Rattle.positioned_trees.specs.Trees.{Placed, Walk, with_kids, walk_step, placed_from, all_trees}
use Rattle.positioned_trees.specs.declared.trees.Tree.{Tree}
use Rattle.positioned_trees.specs.declared.trees.Tree.TheViews.{out-Tree, roll-Tree, out-roll-Tree}
use Rattle.positioned_trees.specs.declared.trees.Tree.TheFolds.{fold-Tree, fold-roll-Tree, fold_out-Tree, ind-Tree}

abbrev walk : Tree → Walk
walk = fold-Tree Walk walk_step

abbrev KeepsTree : Tree → Type 0
KeepsTree tree = (walk tree).tree ≡ tree

kids_kept : (kids : List ((tree : Tree) × KeepsTree tree)) → map (λ w. w.tree) (map walk (map (λ k. k.0) kids)) ≡ map (λ k. k.0) kids
kids_kept [] = refl
kids_kept (kid ∷ kids) = λ i. kid.1 i ∷ kids_kept kids i

keeps_tree : (tree : Tree) → KeepsTree tree
keeps_tree = ind-Tree KeepsTree (λ x y is.
    let kept : map (λ w. w.tree) (map walk x.kids) ≡ x.kids = subst (λ z. map (λ w. w.tree) (map walk z.kids) ≡ z.kids) is (kids_kept y.kids) in
    ap (λ w. w.tree) (fold-roll-Tree Walk walk_step x) ∙ ap (with_kids x) kept)

pub placed_from-out : (depth : ℕ) (tree : Tree) → placed_from depth tree ≡ record { tree = tree; depth = depth } ∷ flat_map (placed_from (depth + 1)) (out-Tree tree).kids
unfolding placed_from
placed_from-out depth tree =
    let opened : walk tree ≡ walk_step _ = fold_out-Tree Walk walk_step tree in
    ap (λ w. w.from depth) opened
    ∙ (λ i. record { tree = (sym (ap (λ w. w.tree) opened) ∙ keeps_tree tree) i; depth = depth } ∷ flat_map-map (λ w. w.from (depth + 1)) walk (out-Tree tree).kids i)

-- ---- all trees, which no depth changes

abbrev trees_of : List Placed → List Tree
trees_of placed = map (λ p. p.tree) placed

abbrev IsSameAtEachDepth : Tree → Type 0
IsSameAtEachDepth tree = (depth : ℕ) → trees_of (placed_from depth tree) ≡ all_trees tree

abbrev Same : Type 0
Same = (tree : Tree) × IsSameAtEachDepth tree

same_kids : (depth other : ℕ) (kids : List Same) → trees_of (flat_map (placed_from depth) (map (λ k. k.0) kids)) ≡ trees_of (flat_map (placed_from other) (map (λ k. k.0) kids))
same_kids depth other [] = refl
same_kids depth other (kid ∷ kids) =
    map-append (λ p. p.tree) (placed_from depth kid.0) (flat_map (placed_from depth) (map (λ k. k.0) kids))
    ∙ (λ i. (kid.1 depth ∙ sym (kid.1 other)) i ++ same_kids depth other kids i)
    ∙ sym (map-append (λ p. p.tree) (placed_from other kid.0) (flat_map (placed_from other) (map (λ k. k.0) kids)))

abbrev AreSameBelow : ℕ → List Tree → Type 0
AreSameBelow depth kids = trees_of (flat_map (placed_from (depth + 1)) kids) ≡ trees_of (flat_map (placed_from (0 + 1)) kids)

pub same_at_each_depth : (tree : Tree) → IsSameAtEachDepth tree
same_at_each_depth = ind-Tree IsSameAtEachDepth (λ x y is depth.
    let kids : AreSameBelow depth x.kids = subst (λ z. AreSameBelow depth z.kids) is (same_kids (depth + 1) (0 + 1) y.kids) in
    let below : AreSameBelow depth (out-Tree (roll-Tree x)).kids = subst (λ z. AreSameBelow depth z.kids) (sym (out-roll-Tree x)) kids in
    ap trees_of (placed_from-out depth (roll-Tree x)) ∙ (λ i. roll-Tree x ∷ below i) ∙ sym (ap trees_of (placed_from-out 0 (roll-Tree x))))

trees_of-flat_map : (depth : ℕ) (trees : List Tree) → trees_of (flat_map (placed_from depth) trees) ≡ flat_map all_trees trees
trees_of-flat_map depth [] = refl
trees_of-flat_map depth (tree ∷ trees) =
    map-append (λ p. p.tree) (placed_from depth tree) (flat_map (placed_from depth) trees)
    ∙ (λ i. same_at_each_depth tree depth i ++ trees_of-flat_map depth trees i)

pub all_trees-out : (tree : Tree) → all_trees tree ≡ tree ∷ flat_map all_trees (out-Tree tree).kids
all_trees-out tree = ap trees_of (placed_from-out 0 tree) ∙ (λ i. tree ∷ trees_of-flat_map (0 + 1) (out-Tree tree).kids i)
