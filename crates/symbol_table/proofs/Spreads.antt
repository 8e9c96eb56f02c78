-- All trees of a source with what stands before and around them, layer by layer.
use Rattle.std.proofs.Common.{◌≡◌, ℕ, List, [], ◌∷◌, ◌++◌, map, refl, sym, ap, subst, ◌∙◌}
use Rattle.positioned_trees.specs.Trees.{with_kids}
use Rattle.positioned_trees.specs.declared.trees.Tree.{Tree}
use Rattle.positioned_trees.specs.declared.trees.Tree.TheViews.{out-Tree}
use Rattle.positioned_trees.specs.declared.trees.Tree.TheFolds.{fold-Tree, fold-roll-Tree, fold_out-Tree, ind-Tree}
use Rattle.symbol_table.specs.Sites.{Kid, Site, Spread, kid_sites, kid_after, site_of, spread_step, sites_from}

abbrev spread : Tree → Spread
spread = fold-Tree Spread spread_step

abbrev KeepsTree : Tree → Type 0
KeepsTree tree = (spread tree).tree ≡ tree

kids_kept : (kids : List ((tree : Tree) × KeepsTree tree)) → map (λ s. s.tree) (map spread (map (λ k. k.0) kids)) ≡ map (λ k. k.0) kids
kids_kept [] = refl
kids_kept (kid ∷ kids) = λ i. kid.1 i ∷ kids_kept kids i

keeps_tree : (tree : Tree) → KeepsTree tree
keeps_tree = ind-Tree KeepsTree (λ x y is.
    let kept : map (λ s. s.tree) (map spread x.kids) ≡ x.kids = subst (λ z. map (λ s. s.tree) (map spread z.kids) ≡ z.kids) is (kids_kept y.kids) in
    ap (λ s. s.tree) (fold-roll-Tree Spread spread_step x) ∙ ap (with_kids x) kept)

-- the trees of some kids, where these stand before them and around them
abbrev pub kids_from : ℕ → List Kid → List Tree → List Tree → List Site
kids_from file around before [] = []
kids_from file around before (kid ∷ kids) = sites_from file kid before around ++ kids_from file around (before ++ kid ∷ []) kids

spread_kids : (file : ℕ) (around : List Kid) (before kids : List Tree) → kid_sites file around before (map spread kids) ≡ kids_from file around before kids
unfolding sites_from
spread_kids file around before [] = refl
spread_kids file around before (kid ∷ kids) =
    ap (λ t. (spread kid).sites file before around ++ kid_sites file around (before ++ t ∷ []) (map spread kids)) (keeps_tree kid)
    ∙ ap (λ xs. (spread kid).sites file before around ++ xs) (spread_kids file around (before ++ kid ∷ []) kids)

pub sites_from-out : (file : ℕ) (tree : Tree) (before : List Tree) (around : List Kid)
    → sites_from file tree before around ≡ site_of file (kid_after tree before) around ∷ kids_from file (kid_after tree before ∷ around) [] (out-Tree tree).kids
unfolding sites_from
sites_from-out file tree before around =
    let opened : spread tree ≡ spread_step _ = fold_out-Tree Spread spread_step tree in
    ap (λ s. s.sites file before around) opened
    ∙ (λ i. site_of file (kid_after ((sym (ap (λ s. s.tree) opened) ∙ keeps_tree tree) i) before) around
    ∷ kid_sites file (kid_after ((sym (ap (λ s. s.tree) opened) ∙ keeps_tree tree) i) before ∷ around) [] (map spread (out-Tree tree).kids))
    ∙ ap (λ xs. site_of file (kid_after tree before) around ∷ xs) (spread_kids file (kid_after tree before ∷ around) [] (out-Tree tree).kids)
