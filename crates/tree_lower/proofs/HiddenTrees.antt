-- Copies of patterns, layer by layer.
use Rattle.std.proofs.Common.{◌≡◌, map}
use Rattle.positioned_trees.specs.declared.trees.Tree.{Tree}
use Rattle.positioned_trees.specs.declared.trees.Tree.TheFolds.{fold_out-Tree}
use Rattle.positioned_trees.specs.declared.trees.Tree.TheViews.{out-Tree}
use Rattle.source_grammar.specs.Comprehensions.{hidden, hidden_step}

pub hidden_out : (tree : Tree) → hidden tree ≡ hidden_step (record (out-Tree tree) { kids = map hidden (out-Tree tree).kids })
unfolding hidden
hidden_out tree = fold_out-Tree Tree hidden_step tree
