-- The tree that is found at an offset.
use Rattle.std.specs.Prelude.{◌≡◌, ℕ, ◌≤◌, ◌==◌, nat_lt, nat_le, Bool, true, ◌&&◌, ◌||◌, if◌then◌else◌, List, length, map, Option, option_map, slice_index_or, ◌⊎◌}
use Rattle.std.specs.List.{All, AllPairs, filter, reduce, IsFirstBest}
use Rattle.pc_terms.specs.declared.problems.Span.{Span}
use Rattle.positioned_trees.specs.Trees.{Placed, placed_from, all_trees, height}
use Rattle.positioned_trees.specs.declared.locating.Found.{Found}
use Rattle.positioned_trees.specs.declared.trees.SourceUnit.{SourceUnit}
use Rattle.positioned_trees.specs.declared.trees.Tree.{Tree}
use Rattle.positioned_trees.specs.declared.trees.Tree.TheViews.{out-Tree}

-- ---- what is true of each unit

abbrev pub max_height : ℕ
max_height = 400

-- the inner span is within the outer one
abbrev pub IsWithin : Span → Span → Type 0
IsWithin outer inner = (outer.start ≤ inner.start) × (inner.end ≤ outer.end)

-- a tree's span encloses the spans of its kids
abbrev pub EnclosesKids : Tree → Type 0
EnclosesKids tree = All (λ kid. IsWithin (out-Tree tree).span (out-Tree kid).span) (out-Tree tree).kids

-- a tree of at most this height, of which every tree encloses its kids
pub record Stands (room : ℕ) (tree : Tree) : Type 0 where
  pub low : height tree ≤ room
  pub encloses : All EnclosesKids (all_trees tree)

-- A unit whose trees stand where they can be found: the root is the whole text's, every tree encloses its kids, and none
-- is higher than the limit.
pub record IsPlaced (unit : SourceUnit) : Type 0 where
  pub opaque : (out-Tree unit.root).opaque ≡ true
  pub start : (out-Tree unit.root).span.start ≡ 0
  pub end : (out-Tree unit.root).span.end ≡ unit.length
  pub stands : Stands max_height unit.root

-- ---- the choice

-- at the start or the end of a span is within it
abbrev pub holds_offset : Span → ℕ → Bool
holds_offset span offset = nat_le span.start offset && nat_le offset span.end

-- later start, then shorter, then deeper
abbrev pub beats : Found → Found → Bool
beats new old = nat_lt old.span.start new.span.start || (old.span.start == new.span.start &&
    (nat_lt new.span.end old.span.end || (new.span.end == old.span.end && nat_lt old.depth new.depth)))

abbrev pub better_of : Found → Found → Found
better_of old new = if beats new old then new else old

abbrev pub is_candidate : ℕ → Placed → Bool
is_candidate offset placed = (out-Tree placed.tree).opaque && holds_offset (out-Tree placed.tree).span offset

abbrev pub found_of : Placed → Found
found_of placed = record { id = (out-Tree placed.tree).id; span = (out-Tree placed.tree).span; depth = placed.depth }

abbrev pub better_with : Found → Tree → ℕ → Found
better_with old tree depth = if (out-Tree tree).opaque then better_of old (found_of (record { tree = tree; depth = depth })) else old

-- the opaque trees whose spans hold the offset
abbrev pub candidates : ℕ → List Placed → List Found
candidates offset placed = map found_of (filter (is_candidate offset) placed)

-- Of all opaque trees of a unit whose spans hold the offset, the one with the latest start, then the shortest, then the
-- deepest; of several such ones, which are empty and stand beside each other, the first.
abbrev pub located : SourceUnit → ℕ → Option ℕ
located unit offset = option_map (λ found. found.id) (reduce better_of (candidates offset (placed_from 0 unit.root)))

-- The one that no candidate beats and that beats each that comes before it in pre-order, and the only one of this kind.
pub record IsChosen (unit : SourceUnit) (offset id : ℕ) : Type 0 where
  pub position : ℕ
  pub best : IsFirstBest beats (candidates offset (placed_from 0 unit.root)) (length (candidates offset (placed_from 0 unit.root))) position
  pub only : (other : ℕ) → IsFirstBest beats (candidates offset (placed_from 0 unit.root)) (length (candidates offset (placed_from 0 unit.root))) other → other ≡ position
  pub named : (other : Found) → (slice_index_or (candidates offset (placed_from 0 unit.root)) position other).id ≡ id

-- ---- siblings that do not overlap

-- one of the spans ends where the other starts, or before
abbrev pub AreApart : Span → Span → Type 0
AreApart a b = (a.end ≤ b.start) ⊎ (b.end ≤ a.start)

-- the spans of a tree's opaque kids
abbrev pub opaque_spans : Tree → List Span
opaque_spans tree = map (λ kid. (out-Tree kid).span) (filter (λ kid. (out-Tree kid).opaque) (out-Tree tree).kids)

-- no two opaque kids of a tree overlap
abbrev pub KeepsKidsApart : Tree → Type 0
KeepsKidsApart tree = AllPairs AreApart (opaque_spans tree)

-- those of the spans that are not empty and hold the offset
abbrev pub holding : ℕ → List Span → List Span
holding offset spans = filter (λ span. nat_lt span.start span.end && holds_offset span offset) spans

-- ---- what the kids' spans say of all trees

-- Where every tree encloses its kids, it encloses all trees below it.
abbrev pub Encloses : Tree → Type 0
Encloses tree = All EnclosesKids (all_trees tree) → All (λ other. IsWithin (out-Tree tree).span (out-Tree other).span) (all_trees tree)
