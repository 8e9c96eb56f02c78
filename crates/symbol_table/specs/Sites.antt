-- The trees of sources, each with what stands around it and before it.
use Rattle.std.specs.Prelude.{ℕ, ◌+◌, List, [], ◌∷◌, ◌++◌, map, drop}
use Rattle.positioned_trees.specs.declared.trees.Tree.{Tree}
use Rattle.positioned_trees.specs.declared.trees.Tree.TheOpen.{Tree-F}
use Rattle.positioned_trees.specs.declared.trees.Tree.TheFolds.{fold-Tree}
use Rattle.positioned_trees.specs.Trees.{with_kids}

-- a tree, and the kids of the same tree that stand before it
pub record Kid : Type 0 where
  pub tree : Tree
  pub before : List Tree

-- A tree of the source at this position, and the trees around it, from the innermost to the root.
pub record Site : Type 0 where
  pub file : ℕ
  pub kid : Kid
  pub around : List Kid

-- a tree, and all that stand in it, where these stand before it and around it
pub record Spread : Type 0 where
  pub tree : Tree
  pub sites : ℕ → List Tree → List Kid → List Site

-- the trees of some kids, after those before them
abbrev pub kid_sites : ℕ → List Kid → List Tree → List Spread → List Site
kid_sites file around before [] = []
kid_sites file around before (kid ∷ kids) =
    kid.sites file before around ++ kid_sites file around (before ++ kid.tree ∷ []) kids

abbrev pub kid_after : Tree → List Tree → Kid
kid_after tree before = record { tree = tree; before = before }

abbrev pub site_of : ℕ → Kid → List Kid → Site
site_of file kid around = record { file = file; kid = kid; around = around }

abbrev pub spread_tree : Tree-F Spread → Tree
spread_tree layer = with_kids layer (map (λ kid. kid.tree) layer.kids)

abbrev pub spread_step : Tree-F Spread → Spread
spread_step layer = record {
  tree = spread_tree layer;
  sites = λ file before around.
      site_of file (kid_after (spread_tree layer) before) around
      ∷ kid_sites file (kid_after (spread_tree layer) before ∷ around) [] layer.kids;
}

-- A tree of a source, and all below it, in pre-order, where these stand before it and around it.
unfoldable pub sites_from : ℕ → Tree → List Tree → List Kid → List Site
sites_from file tree before around = (fold-Tree Spread spread_step tree).sites file before around

-- all trees below a tree
abbrev pub kid_sites_of : ℕ → Kid → List Kid → List Site
kid_sites_of file kid around = drop 1 (sites_from file kid.tree kid.before around)

-- all trees of the source at this position, but the root, which is its Unit
abbrev pub sites_of : ℕ → Tree → List Site
sites_of file root = kid_sites_of file (kid_after root []) []

abbrev pub sites_behind : ℕ → List Tree → List Site
sites_behind file [] = []
sites_behind file (root ∷ roots) = sites_of file root ++ sites_behind (file + 1) roots

-- All trees of all sources but the roots: the sources in load order, the trees of each in pre-order.
abbrev pub all_sites : List Tree → List Site
all_sites roots = sites_behind 0 roots
