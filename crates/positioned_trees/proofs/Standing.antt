-- A tree stands where its kids do and it encloses them.
use Rattle.std.proofs.Common.{ℕ, ◌-◌, ◌<◌, ◌≤◌, List, [], ◌∷◌, length, get_or, sym, subst, arith}
use Rattle.std.specs.List.{All, flat_map}
use Rattle.std.proofs.lemmas.List.Elements.{All-nil, All-cons, All-head, All-tail, All-append, All-weaker}
use Rattle.positioned_trees.specs.Located.{IsWithin, EnclosesKids, Stands}
use Rattle.positioned_trees.specs.Trees.{highest, all_trees}
use Rattle.positioned_trees.proofs.Heights.{height-out, height-get_or}
use Rattle.positioned_trees.proofs.Spans.{All-kid, All-kids, All-root}
use Rattle.positioned_trees.proofs.Walks.{all_trees-out}
use Rattle.positioned_trees.specs.declared.trees.Tree.{Tree}
use Rattle.positioned_trees.specs.declared.trees.Tree.TheViews.{out-Tree}

-- a kid within the outer tree
abbrev pub StandsIn : Tree → ℕ → Tree → Type 0
StandsIn outer room kid = IsWithin (out-Tree outer).span (out-Tree kid).span × Stands room kid

kids_low : (outer : Tree) (room : ℕ) (kids : List Tree) → All (StandsIn outer room) kids → highest kids ≤ room
kids_low outer room [] each = omega arith
kids_low outer room (kid ∷ kids) each = omega (arith, (All-head (StandsIn outer room) kid kids each).1.low, kids_low outer room kids (All-tail (StandsIn outer room) kid kids each))

kids_enclose : (outer : Tree) (room : ℕ) (kids : List Tree) → All (StandsIn outer room) kids → All EnclosesKids (flat_map all_trees kids)
kids_enclose outer room [] each = All-nil EnclosesKids
kids_enclose outer room (kid ∷ kids) each =
    All-append EnclosesKids (all_trees kid) (flat_map all_trees kids) (All-head (StandsIn outer room) kid kids each).1.encloses
    (kids_enclose outer room kids (All-tail (StandsIn outer room) kid kids each))

pub stands-from_kids : (tree : Tree) (room : ℕ) → 0 < room → All (StandsIn tree (room - 1)) (out-Tree tree).kids → Stands room tree
stands-from_kids tree room some each = record {
  low = omega (arith, some, height-out tree, kids_low tree (room - 1) (out-Tree tree).kids each);
  encloses = subst (All EnclosesKids) (sym (all_trees-out tree))
      (All-cons EnclosesKids tree (flat_map all_trees (out-Tree tree).kids)
      (All-weaker (StandsIn tree (room - 1)) (λ kid. IsWithin (out-Tree tree).span (out-Tree kid).span) (λ kid is. is.0) (out-Tree tree).kids each)
      (kids_enclose tree (room - 1) (out-Tree tree).kids each));
}

pub stands_some : (tree : Tree) (room : ℕ) → Stands room tree → 0 < room
stands_some tree room stands = omega (arith, stands.low, height-out tree)

pub stands-kid : (tree : Tree) (room at : ℕ) (d : Tree) → at < length (out-Tree tree).kids → Stands room tree → StandsIn tree (room - 1) (get_or (out-Tree tree).kids at d)
stands-kid tree room at d within stands = (
  All-root EnclosesKids tree stands.encloses at d within,
  record {
    low = omega (arith, stands.low, height-out tree, height-get_or (out-Tree tree).kids at d within);
    encloses = All-kid EnclosesKids (out-Tree tree).kids at d within (All-kids EnclosesKids tree stands.encloses);
  },
)
