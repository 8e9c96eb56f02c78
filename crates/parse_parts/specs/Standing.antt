-- Where the tree of a part stands.
use Rattle.std.specs.Prelude.{ℕ, ◌≤◌}
use Rattle.std.specs.List.{All}
use Rattle.positioned_trees.specs.Located.{KeepsKidsApart, Stands, max_height}
use Rattle.positioned_trees.specs.Trees.{all_trees}
use Rattle.positioned_trees.specs.declared.trees.Tree.{Tree}
use Rattle.positioned_trees.specs.declared.trees.Tree.TheViews.{out-Tree}
use Rattle.parse_parts.specs.declared.parts.Part.{Part}
use Rattle.parse_parts.specs.declared.parts.Part.TheVariants.{Read}

-- A tree within a text of this length. It and all trees below it enclose their kids, and opaque siblings do not overlap.
pub record StandsWithin (length : ℕ) (tree : Tree) : Type 0 where
  pub stands : Stands max_height tree
  pub apart : All KeepsKidsApart (all_trees tree)
  pub order : (out-Tree tree).span.start ≤ (out-Tree tree).span.end
  pub within : (out-Tree tree).span.end ≤ length

abbrev pub IsPlacedPart : ℕ → Part → Type 0
IsPlacedPart length (Read tree behind) = StandsWithin length tree
IsPlacedPart length _ = Unit {0}
