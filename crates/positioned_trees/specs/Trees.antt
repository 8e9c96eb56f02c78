-- Trees: how high one is, which trees stand in it, and their numbers.
use Rattle.std.specs.Prelude.{◌≡◌, ℕ, ◌+◌, max, nat_lt, if◌then◌else◌, Option, Some, None, List, [], ◌∷◌, length, map}
use Rattle.std.specs.List.{flat_map, range_with_len}
use Rattle.positioned_trees.specs.declared.trees.Tree.{Tree}
use Rattle.positioned_trees.specs.declared.trees.Tree.TheOpen.{Tree-F}
use Rattle.positioned_trees.specs.declared.trees.Tree.TheViews.{out-Tree, roll-Tree}
use Rattle.positioned_trees.specs.declared.trees.Tree.TheFolds.{fold-Tree}

-- ---- height

abbrev pub greatest : List ℕ → ℕ
greatest [] = 0
greatest (number ∷ numbers) = max number (greatest numbers)

abbrev pub height_step : Tree-F ℕ → ℕ
height_step layer = greatest layer.kids + 1

-- The height of a tree: 1 where it has no kids, and else 1 more than that of its highest kid.
unfoldable pub height : Tree → ℕ
height = fold-Tree ℕ height_step

-- the height of the highest of these trees, and 0 of none
abbrev pub highest : List Tree → ℕ
highest trees = greatest (map height trees)

-- ---- all trees

-- a tree, and the number of trees that it stands in
pub record Placed : Type 0 where
  pub tree : Tree
  pub depth : ℕ

-- a tree, and all that stand in it, where it stands at this depth
pub record Walk : Type 0 where
  pub tree : Tree
  pub from : ℕ → List Placed

-- what a layer says, over these kids
abbrev pub with_kids : {A : Type 0} → Tree-F A → List Tree → Tree
with_kids layer kids = roll-Tree (record { id = layer.id; span = layer.span; opaque = layer.opaque; kind = layer.kind; label = layer.label; label_span = layer.label_span; kids = kids; detail = layer.detail })

abbrev pub walk_step : Tree-F Walk → Walk
walk_step layer = record {
  tree = with_kids layer (map (λ kid. kid.tree) layer.kids);
  from = λ depth. record { tree = with_kids layer (map (λ kid. kid.tree) layer.kids); depth = depth }
      ∷ flat_map (λ kid. kid.from (depth + 1)) layer.kids;
}

-- A tree that stands at this depth, and all trees below it, in pre-order.
unfoldable pub placed_from : ℕ → Tree → List Placed
placed_from depth tree = (fold-Tree Walk walk_step tree).from depth

-- A tree and all trees below it, in pre-order.
abbrev pub all_trees : Tree → List Tree
all_trees tree = map (λ placed. placed.tree) (placed_from 0 tree)

-- ---- numbers

-- the highest number
abbrev pub max_number : ℕ
max_number = 4294967295

abbrev pub fitting : ℕ → Option ℕ
fitting number = if nat_lt max_number number then None else Some number

-- a tree with its numbers, and the number that follows its last one
pub record Numbered : Type 0 where
  pub tree : Tree
  pub next : ℕ

pub record NumberedKids : Type 0 where
  pub trees : List Tree
  pub next : ℕ

abbrev pub number_kids : List (ℕ → Numbered) → ℕ → NumberedKids
number_kids [] start = record { trees = []; next = start }
number_kids (kid ∷ kids) start = record {
  trees = (kid start).tree ∷ (number_kids kids (kid start).next).trees;
  next = (number_kids kids (kid start).next).next;
}

abbrev pub number_step : Tree-F (ℕ → Numbered) → ℕ → Numbered
number_step layer start = record {
  tree = roll-Tree (record { id = start; span = layer.span; opaque = layer.opaque; kind = layer.kind; label = layer.label; label_span = layer.label_span; kids = (number_kids layer.kids (start + 1)).trees; detail = layer.detail });
  next = (number_kids layer.kids (start + 1)).next;
}

-- A tree with this number, and all below it with the next ones, in pre-order.
unfoldable pub numbered : Tree → ℕ → Numbered
numbered = fold-Tree (ℕ → Numbered) number_step

abbrev pub ids : List Tree → List ℕ
ids trees = map (λ tree. (out-Tree tree).id) trees

-- The numbers of a tree and of all below it, in pre-order, are this one and those that follow it.
abbrev pub AreInPreOrder : ℕ → Tree → Type 0
AreInPreOrder start tree = ids (all_trees tree) ≡ range_with_len start (length (all_trees tree))
