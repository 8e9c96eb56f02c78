-- What numbering does: the numbers are in pre-order, and nothing else of a tree changes.
use Rattle.std.proofs.Common.{◌≡◌, ℕ, zero, suc, ◌+◌, ◌-◌, List, [], ◌∷◌, ◌++◌, length, map, refl, sym, ap, subst, ◌∙◌, arith}
use Rattle.std.specs.List.{All, flat_map, range_with_len}
use Rattle.std.proofs.lemmas.List.{map-append, length-append}
use Rattle.std.proofs.lemmas.List.Elements.{All-nil, All-cons, All-head, All-tail}
use Rattle.pc_terms.specs.declared.problems.Span.{Span}
use Rattle.positioned_trees.specs.Located.{IsWithin, Stands}
use Rattle.positioned_trees.specs.Trees.{all_trees, ids, numbered}
use Rattle.positioned_trees.proofs.Numbers.{kids_numbered, numbered-out, renumbered}
use Rattle.positioned_trees.proofs.Standing.{StandsIn, stands-from_kids, stands_some, stands-kid}
use Rattle.positioned_trees.proofs.Walks.{all_trees-out}
use Rattle.positioned_trees.specs.declared.trees.Tree.{Tree}
use Rattle.positioned_trees.specs.declared.trees.Tree.TheViews.{out-Tree, roll-Tree, out-roll-Tree}
use Rattle.positioned_trees.specs.declared.trees.Tree.TheFolds.{ind-Tree}

-- ---- in pre-order

-- the trees have the numbers from `start` on, of which `next` is the first that they do not have
pub record Follow (start next : ℕ) (trees : List Tree) : Type 0 where
  pub numbers : ids trees ≡ range_with_len start (length trees)
  pub next_is : next ≡ start + length trees

range_with_len-append : (start m n : ℕ) → range_with_len start m ++ range_with_len (start + m) n ≡ range_with_len start (m + n)
range_with_len-append start zero n = rw (plus_zero start, zero_plus n) refl
  where
    plus_zero : (a : ℕ) → a + 0 ≡ a
    plus_zero a = omega arith

    zero_plus : (a : ℕ) → 0 + a ≡ a
    zero_plus a = omega arith
range_with_len-append start (suc m) n =
    rw (moved start m, suc_plus m n) (ap (λ xs. start ∷ xs) (range_with_len-append (start + 1) m n))
  where
    moved : (a b : ℕ) → a + suc b ≡ a + 1 + b
    moved a b = omega arith

    suc_plus : (a b : ℕ) → suc a + b ≡ suc (a + b)
    suc_plus a b = omega arith

follow-append : (start middle next : ℕ) (first second : List Tree) → Follow start middle first → Follow middle next second → Follow start next (first ++ second)
follow-append start middle next first second one two = record {
  numbers = map-append (λ tree. (out-Tree tree).id) first second ∙ (λ i. one.numbers i ++ two.numbers i)
      ∙ ap (λ m. range_with_len start (length first) ++ range_with_len m (length second)) one.next_is
      ∙ range_with_len-append start (length first) (length second) ∙ ap (range_with_len start) (sym (length-append first second));
  next_is = omega (arith, one.next_is, two.next_is, length-append first second);
}

abbrev Follows : Tree → Type 0
Follows tree = (start : ℕ) → Follow start (numbered tree start).next (all_trees (numbered tree start).tree)

abbrev KidsFollow : List Tree → Type 0
KidsFollow kids = (start : ℕ) → Follow start (kids_numbered kids start).next (flat_map all_trees (kids_numbered kids start).trees)

kids_follow : (kids : List ((tree : Tree) × Follows tree)) → KidsFollow (map (λ k. k.0) kids)
kids_follow [] start = record { numbers = refl; next_is = omega arith }
kids_follow (kid ∷ kids) start =
    follow-append start (numbered kid.0 start).next (kids_numbered (map (λ k. k.0) kids) (numbered kid.0 start).next).next
    (all_trees (numbered kid.0 start).tree) (flat_map all_trees (kids_numbered (map (λ k. k.0) kids) (numbered kid.0 start).next).trees)
    (kid.1 start) (kids_follow kids (numbered kid.0 start).next)

-- all trees of a renumbered tree are it and those of its new kids
all_renumbered : (tree : Tree) (start : ℕ) (kids : List Tree) → all_trees (renumbered tree start kids) ≡ renumbered tree start kids ∷ flat_map all_trees kids
all_renumbered tree start kids = all_trees-out (renumbered tree start kids) ∙ ap (λ x. renumbered tree start kids ∷ flat_map all_trees x.kids) (out-roll-Tree _)

follow-cons : (start next : ℕ) (tree : Tree) (trees : List Tree) → (out-Tree tree).id ≡ start → Follow (start + 1) next trees → Follow start next (tree ∷ trees)
follow-cons start next tree trees is rest = record {
  numbers = (λ i. is i ∷ rest.numbers i);
  next_is = omega (arith, rest.next_is);
}

pub follows : (tree : Tree) → Follows tree
follows = ind-Tree Follows (λ x y is start.
    let tree : Tree = roll-Tree x in
    let at_layer : KidsFollow x.kids = subst (λ z. KidsFollow z.kids) is (kids_follow y.kids) in
    let kids : KidsFollow (out-Tree tree).kids = subst (λ z. KidsFollow z.kids) (sym (out-roll-Tree x)) at_layer in
    let new : List Tree = (kids_numbered (out-Tree tree).kids (start + 1)).trees in
    let next : ℕ = (kids_numbered (out-Tree tree).kids (start + 1)).next in
    let over : Follow start next (renumbered tree start new ∷ flat_map all_trees new) =
    follow-cons start next (renumbered tree start new) (flat_map all_trees new) (ap (λ z. z.id) (out-roll-Tree _)) (kids (start + 1)) in
    let here : Follow start next (all_trees (renumbered tree start new)) = subst (Follow start next) (sym (all_renumbered tree start new)) over in
    subst (λ n. Follow start n.next (all_trees n.tree)) (sym (numbered-out tree start)) here)

-- ---- in their places

pub span_kept : (tree : Tree) (start : ℕ) → (out-Tree (numbered tree start).tree).span ≡ (out-Tree tree).span
span_kept tree start = ap (λ n. (out-Tree n.tree).span) (numbered-out tree start) ∙ ap (λ x. x.span) (out-roll-Tree _)

pub opaque_kept : (tree : Tree) (start : ℕ) → (out-Tree (numbered tree start).tree).opaque ≡ (out-Tree tree).opaque
opaque_kept tree start = ap (λ n. (out-Tree n.tree).opaque) (numbered-out tree start) ∙ ap (λ x. x.opaque) (out-roll-Tree _)

abbrev KeepsPlaces : Tree → Type 0
KeepsPlaces tree = (start room : ℕ) → Stands room tree → Stands room (numbered tree start).tree

-- kids within a span and of at most this height
abbrev Within : Span → ℕ → Tree → Type 0
Within outer room kid = IsWithin outer (out-Tree kid).span × Stands room kid

abbrev KidsKeep : List Tree → Type 0
KidsKeep kids = (outer : Span) (start room : ℕ) → All (Within outer room) kids → All (Within outer room) (kids_numbered kids start).trees

kids_keep : (kids : List ((tree : Tree) × KeepsPlaces tree)) → KidsKeep (map (λ k. k.0) kids)
kids_keep [] outer start room each = All-nil (Within outer room)
kids_keep (kid ∷ kids) outer start room each =
    let first = All-head (Within outer room) kid.0 (map (λ k. k.0) kids) each in
    All-cons (Within outer room) (numbered kid.0 start).tree (kids_numbered (map (λ k. k.0) kids) (numbered kid.0 start).next).trees
    (subst (IsWithin outer) (sym (span_kept kid.0 start)) first.0, kid.1 start room first.1)
    (kids_keep kids outer (numbered kid.0 start).next room (All-tail (Within outer room) kid.0 (map (λ k. k.0) kids) each))

pub keeps_places : (tree : Tree) → KeepsPlaces tree
keeps_places = ind-Tree KeepsPlaces (λ x y is start room stands.
    let tree : Tree = roll-Tree x in
    let at_layer : KidsKeep x.kids = subst (λ z. KidsKeep z.kids) is (kids_keep y.kids) in
    let keep : KidsKeep (out-Tree tree).kids = subst (λ z. KidsKeep z.kids) (sym (out-roll-Tree x)) at_layer in
    let new : List Tree = (kids_numbered (out-Tree tree).kids (start + 1)).trees in
    let old_kids : All (Within (out-Tree tree).span (room - 1)) (out-Tree tree).kids = λ k d within. stands-kid tree room k d within stands in
    let new_kids : All (Within (out-Tree tree).span (room - 1)) new = keep (out-Tree tree).span (start + 1) (room - 1) old_kids in
    let over : All (StandsIn (renumbered tree start new) (room - 1)) (out-Tree (renumbered tree start new)).kids =
    subst (λ z. All (Within z.span (room - 1)) z.kids) (sym (out-roll-Tree _)) new_kids in
    subst (λ n. Stands room n.tree) (sym (numbered-out tree start)) (stands-from_kids (renumbered tree start new) room (stands_some tree room stands) over))
