-- The numbers of trees, layer by layer.
use Rattle.std.proofs.Common.{◌≡◌, ℕ, ◌+◌, ◌<◌, ◌≤◌, List, [], ◌∷◌, ◌++◌, Some, None, length, map, take, drop, get_or, set, sym, ap, subst, ◌∙◌, arith}
use Rattle.std.proofs.lemmas.Grind.{common_steps}
use Rattle.std.proofs.lemmas.List.{get_or-drop, take_more_set, take_all, drop_all, drop-set-lt, drop-drop, append-nil, append_assoc}
use Rattle.positioned_trees.specs.Trees.{Numbered, NumberedKids, number_kids, number_step, numbered, max_number, fitting}
use Rattle.positioned_trees.specs.declared.trees.Tree.{Tree}
use Rattle.positioned_trees.specs.declared.trees.Tree.TheViews.{out-Tree, roll-Tree, out-roll-Tree}
use Rattle.positioned_trees.specs.declared.trees.Tree.TheFolds.{fold_out-Tree, ind-Tree}

abbrev pub kids_numbered : List Tree → ℕ → NumberedKids
kids_numbered kids start = number_kids (map numbered kids) start

-- a tree with this number, over these kids
abbrev pub renumbered : Tree → ℕ → List Tree → Tree
renumbered tree start kids = roll-Tree (record { id = start; span = (out-Tree tree).span; opaque = (out-Tree tree).opaque; kind = (out-Tree tree).kind; label = (out-Tree tree).label; label_span = (out-Tree tree).label_span; kids = kids; detail = (out-Tree tree).detail })

abbrev pub numbered_over : Tree → ℕ → Numbered
numbered_over tree start = record {
  tree = renumbered tree start (kids_numbered (out-Tree tree).kids (start + 1)).trees;
  next = (kids_numbered (out-Tree tree).kids (start + 1)).next;
}

pub numbered-out : (tree : Tree) (start : ℕ) → numbered tree start ≡ numbered_over tree start
unfolding numbered
numbered-out tree start = ap (λ f. f start) (fold_out-Tree (ℕ → Numbered) number_step tree)

-- the next number is higher

abbrev IsFollowed : Tree → Type 0
IsFollowed tree = (start : ℕ) → start + 1 ≤ (numbered tree start).next

followed_kids : (kids : List ((tree : Tree) × IsFollowed tree)) (start : ℕ) → start ≤ (kids_numbered (map (λ k. k.0) kids) start).next
followed_kids [] start = omega arith
followed_kids (kid ∷ kids) start = omega (arith, kid.1 start, followed_kids kids (numbered kid.0 start).next)

abbrev AreFollowed : List Tree → Type 0
AreFollowed kids = (start : ℕ) → start ≤ (kids_numbered kids start).next

pub followed : (tree : Tree) → IsFollowed tree
followed = ind-Tree IsFollowed (λ x y is start.
    let kids : AreFollowed (out-Tree (roll-Tree x)).kids = subst (λ z. AreFollowed z.kids) (sym (out-roll-Tree x)) (subst (λ z. AreFollowed z.kids) is (λ first. followed_kids y.kids first)) in
    omega (arith, kids (start + 1), ap (λ n. n.next) (numbered-out (roll-Tree x) start)))

pub all_followed : (kids : List Tree) → AreFollowed kids
all_followed [] start = omega arith
all_followed (kid ∷ kids) start = omega (arith, followed kid start, all_followed kids (numbered kid start).next)

-- what is not numbered yet is as it was

pub same_at : (xs ys : List Tree) (at : ℕ) (d : Tree) → drop at xs ≡ drop at ys → get_or xs at d ≡ get_or ys at d
same_at xs ys at d same =
    subst (λ n. get_or xs n d ≡ get_or ys n d) (omega arith) (sym (get_or-drop at xs 0 d) ∙ ap (λ zs. get_or zs 0 d) same ∙ get_or-drop at ys 0 d)

-- a number that fits

pub too_high : (number : ℕ) → max_number < number → None ≡ fitting number
too_high number high = grind (arith, high)

pub not_too_high : (number : ℕ) → number ≤ max_number → Some number ≡ fitting number
not_too_high number low = grind (arith, low)

pub high-from_none : (number : ℕ) → None ≡ fitting number → max_number < number
high-from_none number none = grind (arith, none)

pub low-from_some : (number result : ℕ) → Some result ≡ fitting number → (result ≡ number) × (number ≤ max_number)
low-from_some number result some = (grind (arith, some), grind (arith, some))

-- ---- a loop that numbers the kids one after another: those before `at` are numbered, and `next` is the number of the one there

pub record Numbering (given items : List Tree) (first at next : ℕ) : Type 0 where
  pub trees : take at items ++ (kids_numbered (drop at items) next).trees ≡ (kids_numbered given first).trees
  pub next_is : (kids_numbered (drop at items) next).next ≡ (kids_numbered given first).next
  pub left : drop at items ≡ drop at given
  pub fits : next ≤ max_number

at_kid : (items : List Tree) (at : ℕ) (d : Tree) → at < length items → drop at items ≡ get_or items at d ∷ drop (at + 1) items
at_kid items at d within = grind (arith, common_steps, within)

pub step : (given items : List Tree) (first at next after : ℕ) (d kid : Tree) → at < length items → Numbering given items first at next
    → kid ≡ (numbered (get_or items at d) next).tree → Some after ≡ fitting (numbered (get_or items at d) next).next
    → Numbering given (set items at kid) first (at + 1) after
step given items first at next after d kid within before is fits =
    let at_next : drop at items ≡ get_or items at d ∷ drop (at + 1) items = at_kid items at d within in
    let low : (after ≡ (numbered (get_or items at d) next).next) × ((numbered (get_or items at d) next).next ≤ max_number) = low-from_some (numbered (get_or items at d) next).next after fits in
    let rest : drop (at + 1) (set items at kid) ≡ drop (at + 1) items = drop-set-lt (at + 1) items at kid (omega arith) in
    let trees : take at items ++ (numbered (get_or items at d) next).tree ∷ (kids_numbered (drop (at + 1) items) (numbered (get_or items at d) next).next).trees ≡ (kids_numbered given first).trees = rw at_next at before.trees in
    record {
      trees = rw (take_more_set items at kid within, rest, low.0, is) (append_assoc (take at items) _ _ ∙ trees);
      next_is = rw (rest, low.0) (rw at_next at before.next_is);
      left = rest ∙ drop_after items given at before.left;
      fits = omega (arith, low.0, low.1);
    }
  where
    drop_after : (xs ys : List Tree) (n : ℕ) → drop n xs ≡ drop n ys → drop (n + 1) xs ≡ drop (n + 1) ys
    drop_after xs ys n same = sym (drop-drop 1 n xs) ∙ ap (drop 1) same ∙ drop-drop 1 n ys

pub kid_fits : (tree : Tree) (start first : ℕ) (given items : List Tree) (at next : ℕ) (d : Tree) → given ≡ (out-Tree tree).kids → first ≡ start + 1
    → at < length items → Numbering given items first at next → (numbered (get_or items at d) next).next ≤ (numbered tree start).next
kid_fits tree start first given items at next d kids is_first within before =
    let total : (numbered tree start).next ≡ (kids_numbered given first).next =
    ap (λ n. n.next) (numbered-out tree start) ∙ ap (λ k. (kids_numbered k (start + 1)).next) (sym kids) ∙ ap (λ n. (kids_numbered given n).next) (sym is_first) in
    let now : (kids_numbered (drop (at + 1) items) (numbered (get_or items at d) next).next).next ≡ (kids_numbered given first).next = rw (at_kid items at d within) at before.next_is in
    omega (arith, total, now, all_followed (drop (at + 1) items) (numbered (get_or items at d) next).next)

pub ended : (tree : Tree) (start first : ℕ) (given items : List Tree) (at next : ℕ) → given ≡ (out-Tree tree).kids → first ≡ start + 1
    → length items ≤ at → Numbering given items first at next
    → (items ≡ (kids_numbered (out-Tree tree).kids (start + 1)).trees) × (next ≡ (numbered tree start).next)
ended tree start first given items at next kids is_first end before =
    let all : take at items ++ (kids_numbered [] next).trees ≡ (kids_numbered given first).trees = rw (drop_all at items end) at before.trees in
    let total : next ≡ (kids_numbered given first).next = rw (drop_all at items end) at before.next_is in
    let same : kids_numbered given first ≡ kids_numbered (out-Tree tree).kids (start + 1) = ap (λ k. kids_numbered k first) kids ∙ ap (λ n. kids_numbered (out-Tree tree).kids n) is_first in (
      sym (append-nil items) ∙ ap (λ xs. xs ++ []) (sym (take_all at items end)) ∙ all ∙ ap (λ n. n.trees) same,
      total ∙ ap (λ n. n.next) same ∙ sym (ap (λ n. n.next) (numbered-out tree start)),
    )

-- the tree that the loop's kids are put back into

pub put_back : (new old : List Tree) (len : ℕ) → length new ≡ length old → len ≡ length old → take len (new ++ drop (length new) old) ≡ new
put_back new old len same is_len = rw (drop_all (length new) old (omega (arith, same)), append-nil new) (take_all len new (omega (arith, same, is_len)))

abbrev marked : Tree → ℕ → Tree
marked tree start = roll-Tree (record { id = start; span = (out-Tree tree).span; opaque = (out-Tree tree).opaque; kind = (out-Tree tree).kind; label = (out-Tree tree).label; label_span = (out-Tree tree).label_span; kids = (out-Tree tree).kids; detail = (out-Tree tree).detail })

pub renumbered_is : (tree : Tree) (start : ℕ) (kids : List Tree)
    → roll-Tree (record { id = (out-Tree (marked tree start)).id; span = (out-Tree (marked tree start)).span; opaque = (out-Tree (marked tree start)).opaque; kind = (out-Tree (marked tree start)).kind; label = (out-Tree (marked tree start)).label; label_span = (out-Tree (marked tree start)).label_span; kids = kids; detail = (out-Tree (marked tree start)).detail })
    ≡ renumbered tree start kids
renumbered_is tree start kids =
    ap (λ y. roll-Tree (record { id = y.id; span = y.span; opaque = y.opaque; kind = y.kind; label = y.label; label_span = y.label_span; kids = kids; detail = y.detail })) (out-roll-Tree _)
