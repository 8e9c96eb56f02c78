-- The best of the candidates, tree by tree.
use Rattle.std.proofs.Common.{◌≡◌, ℕ, ◌+◌, ◌≤◌, ◌<◌, ◌==◌, nat_lt, ◌&&◌, ◌||◌, Bool, true, false, Some, None, List, [], ◌∷◌, ◌++◌, map, length, fold, if◌then◌else◌, refl, sym, ap, subst, ◌∙◌, arith}
use Rattle.std.specs.List.{All, filter, flat_map, reduce}
use Rattle.std.specs.Cmp.{IsStrictWeakOrder}
use Rattle.std.specs.Option.{option_map, IfSome}
use Rattle.std.proofs.lemmas.List.MinMax.{IsFirstBest-from_best_of, IsFirstBest-unique}
use Rattle.std.proofs.lemmas.List.{map-append, get_or_default}
use Rattle.std.proofs.lemmas.List.Elements.{All-head, All-tail, filter-append}
use Rattle.std.proofs.lemmas.List.Sums.{fold-append}
use Rattle.positioned_trees.specs.Located.{IsWithin, EnclosesKids, holds_offset, better_of, is_candidate, found_of, better_with, candidates, located, IsPlaced, IsChosen, beats}
use Rattle.positioned_trees.specs.Trees.{Placed, placed_from, all_trees}
use Rattle.positioned_trees.proofs.Spans.{enclosed}
use Rattle.positioned_trees.proofs.Walks.{placed_from-out, same_at_each_depth}
use Rattle.positioned_trees.specs.declared.locating.Found.{Found}
use Rattle.positioned_trees.specs.declared.trees.SourceUnit.{SourceUnit}
use Rattle.positioned_trees.specs.declared.trees.Tree.{Tree}
use Rattle.positioned_trees.specs.declared.trees.Tree.TheViews.{out-Tree}

pub candidates-append : (offset : ℕ) (first second : List Placed) → candidates offset (first ++ second) ≡ candidates offset first ++ candidates offset second
candidates-append offset first second = ap (map found_of) (filter-append (is_candidate offset) first second) ∙ map-append found_of (filter (is_candidate offset) first) (filter (is_candidate offset) second)

-- the first of several trees, and then the others
pub best_of_kids : (before : Found) (offset depth : ℕ) (kid : Tree) (kids : List Tree)
    → fold better_of before (candidates offset (flat_map (placed_from depth) (kid ∷ kids)))
    ≡ fold better_of (fold better_of before (candidates offset (placed_from depth kid))) (candidates offset (flat_map (placed_from depth) kids))
best_of_kids before offset depth kid kids =
    ap (fold better_of before) (candidates-append offset (placed_from depth kid) (flat_map (placed_from depth) kids))
    ∙ fold-append better_of before (candidates offset (placed_from depth kid)) (candidates offset (flat_map (placed_from depth) kids))

-- a tree that holds the offset, and then its kids
pub best_of_tree : (before : Found) (offset depth : ℕ) (tree : Tree) → holds_offset (out-Tree tree).span offset ≡ true
    → fold better_of before (candidates offset (placed_from depth tree))
    ≡ fold better_of (better_with before tree depth) (candidates offset (flat_map (placed_from (depth + 1)) (out-Tree tree).kids))
best_of_tree before offset depth tree holds = rw (placed_from-out depth tree, holds) (by_cases (out-Tree tree).opaque)
  where
    by_cases : (opaque : Bool) → fold better_of before (map found_of (if opaque && true then record { tree = tree; depth = depth } ∷ filter (is_candidate offset) (flat_map (placed_from (depth + 1)) (out-Tree tree).kids) else filter (is_candidate offset) (flat_map (placed_from (depth + 1)) (out-Tree tree).kids)))
        ≡ fold better_of (if opaque then better_of before (found_of (record { tree = tree; depth = depth })) else before) (candidates offset (flat_map (placed_from (depth + 1)) (out-Tree tree).kids))
    by_cases true = refl
    by_cases false = refl

-- a tree that does not hold the offset has no candidate below it
none_outside : (offset : ℕ) (tree : Tree) (placed : List Placed) → holds_offset (out-Tree tree).span offset ≡ false
    → All (λ other. IsWithin (out-Tree tree).span (out-Tree other).span) (map (λ p. p.tree) placed) → candidates offset placed ≡ []
none_outside offset tree [] out each = refl
none_outside offset tree (p ∷ placed) out each =
    let here = All-head (λ other. IsWithin (out-Tree tree).span (out-Tree other).span) p.tree (map (λ q. q.tree) placed) each in
    let rest = none_outside offset tree placed out (All-tail (λ other. IsWithin (out-Tree tree).span (out-Tree other).span) p.tree (map (λ q. q.tree) placed) each) in
    let no : is_candidate offset p ≡ false = grind (arith, out, here) in
    rw no rest

pub no_candidates : (offset depth : ℕ) (tree : Tree) → holds_offset (out-Tree tree).span offset ≡ false → All EnclosesKids (all_trees tree)
    → candidates offset (placed_from depth tree) ≡ []
no_candidates offset depth tree out encloses =
    none_outside offset tree (placed_from depth tree) out
    (subst (All (λ other. IsWithin (out-Tree tree).span (out-Tree other).span)) (sym (same_at_each_depth tree depth)) (enclosed tree encloses))

is_there : (unit : SourceUnit) (offset : ℕ) → IsPlaced unit → offset ≤ unit.length → is_candidate offset (record { tree = unit.root; depth = 0 }) ≡ true
is_there unit offset placed within = grind (arith, within, placed.opaque, placed.start, placed.end)

nothing_beats_itself : (found : Found) → better_of found found ≡ found
nothing_beats_itself found = grind arith

pub located_past_end : (unit : SourceUnit) (offset : ℕ) → IsPlaced unit → unit.length < offset → located unit offset ≡ None
located_past_end unit offset placed past =
    let outside : holds_offset (out-Tree unit.root).span offset ≡ false = grind (arith, past, placed.start, placed.end) in
    rw (no_candidates offset 0 unit.root outside placed.stands.encloses) refl

pub located_within : (unit : SourceUnit) (offset : ℕ) → IsPlaced unit → offset ≤ unit.length
    → located unit offset ≡ Some (fold better_of (found_of (record { tree = unit.root; depth = 0 })) (candidates offset (placed_from 0 unit.root))).id
located_within unit offset placed within =
    let root : Found = found_of (record { tree = unit.root; depth = 0 }) in
    let rest : List Found = candidates offset (flat_map (placed_from (0 + 1)) (out-Tree unit.root).kids) in
    let all : candidates offset (placed_from 0 unit.root) ≡ root ∷ rest =
    ap (candidates offset) (placed_from-out 0 unit.root) ∙ rw (is_there unit offset placed within) refl in
    ap (λ founds. option_map (λ found. found.id) (reduce better_of founds)) all
    ∙ ap (λ first. Some (fold better_of first rest).id) (sym (nothing_beats_itself root))
    ∙ ap (λ founds. Some (fold better_of root founds).id) (sym all)

-- an order by a number, and where that is the same by another order

one_way_by : (a b : ℕ) (p q : Bool) → (p ≡ true → q ≡ false) → (nat_lt a b || (a == b && p)) ≡ true → (nat_lt b a || (b == a && q)) ≡ false
one_way_by a b p q other = λ one. grind (arith, other, one)

chain_by : (a b c : ℕ) (p q r : Bool) → (p ≡ false → q ≡ false → r ≡ false)
    → (nat_lt a b || (a == b && p)) ≡ false → (nat_lt b c || (b == c && q)) ≡ false → (nat_lt a c || (a == c && r)) ≡ false
chain_by a b c p q r other = λ first second. grind (arith, other, first, second)

abbrev shorter : Found → Found → Bool
shorter new old = nat_lt new.span.end old.span.end || (new.span.end == old.span.end && nat_lt old.depth new.depth)

is_order : IsStrictWeakOrder beats
is_order = record {
  one_way = λ x y. one_way_by y.span.start x.span.start (shorter x y) (shorter y x)
      (one_way_by x.span.end y.span.end (nat_lt y.depth x.depth) (nat_lt x.depth y.depth) (λ one. grind (arith, one)));
  chain = λ x y z first second. chain_by z.span.start y.span.start x.span.start (shorter y z) (shorter x y) (shorter x z)
      (λ of_second of_first. chain_by x.span.end y.span.end z.span.end (nat_lt y.depth x.depth) (nat_lt z.depth y.depth) (nat_lt z.depth x.depth) (λ a b. grind (arith, a, b)) of_first of_second) second first;
}

pub is_chosen : (unit : SourceUnit) (offset : ℕ) → IsPlaced unit → offset ≤ unit.length → IfSome (located unit offset) (IsChosen unit offset)
is_chosen unit offset placed within =
    let root : Found = found_of (record { tree = unit.root; depth = 0 }) in
    let rest : List Found = candidates offset (flat_map (placed_from (0 + 1)) (out-Tree unit.root).kids) in
    let all : candidates offset (placed_from 0 unit.root) ≡ root ∷ rest =
    ap (candidates offset) (placed_from-out 0 unit.root) ∙ rw (is_there unit offset placed within) refl in
    let best = IsFirstBest-from_best_of is_order root rest in
    rw all (record { position = best.0; best = rw all best.1; only = rw all (λ other is. IsFirstBest-unique is_order (root ∷ rest) (length (root ∷ rest)) other best.0 root is best.1); named = λ d. rw all (ap (λ found. found.id) (get_or_default (root ∷ rest) best.0 d root best.1.0 ∙ best.2)) })
