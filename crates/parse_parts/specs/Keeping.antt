-- Trees as far as they are kept.
use Rattle.std.specs.Prelude.{ℕ, nat_le, Bool, true, false, List, Option, Some, None}
use Rattle.positioned_trees.specs.Trees.{height, highest}
use Rattle.positioned_trees.specs.declared.trees.Tree.{Tree}
use Rattle.parse_parts.specs.Built.{max_height}
use Rattle.parse_parts.specs.declared.built.Kids.{Kids}
use Rattle.parse_parts.specs.declared.built.Tall.{Tall}

abbrev pub keep : Bool → ℕ → Tree → Option Tall
keep true h tree = Some (record { tree = tree; height = h })
keep false h tree = None

abbrev pub keep_all : Bool → ℕ → List Tree → Option Kids
keep_all true h trees = Some (record { trees = trees; height = h })
keep_all false h trees = None

-- the tree, where it is not too high
abbrev pub kept : Tree → Option Tall
kept tree = keep (nat_le (height tree) max_height) (height tree) tree

abbrev pub kept_all : List Tree → Option Kids
kept_all trees = keep_all (nat_le (highest trees) max_height) (highest trees) trees
