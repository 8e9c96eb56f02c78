-- Trees that stand one behind another, and the tree over them.
use Rattle.std.proofs.Common.{ℕ, ◌≤◌, Bool, true, false, List, [], ◌∷◌, ◌++◌, sym, subst, arith, inl}
use Rattle.std.specs.List.{All, AllPairs, flat_map}
use Rattle.std.proofs.lemmas.List.Elements.{All-nil, All-cons, All-append, All-weaker}
use Rattle.std.proofs.lemmas.List.Kept.{AllPairs-cons}
use Rattle.pc_terms.specs.declared.problems.Span.{Span}
use Rattle.pc_terms.specs.declared.tree_kinds.TreeKind.{TreeKind}
use Rattle.scan_tokens.specs.Words.{Bytes}
use Rattle.positioned_trees.specs.Located.{IsWithin, AreApart, EnclosesKids, KeepsKidsApart}
use Rattle.positioned_trees.specs.Trees.{all_trees}
use Rattle.positioned_trees.specs.declared.details.Detail.TheVariants.{Plain}
use Rattle.positioned_trees.specs.declared.trees.Tree.{Tree}
use Rattle.positioned_trees.specs.declared.trees.Tree.TheOpen.{Tree-F}
use Rattle.positioned_trees.specs.declared.trees.Tree.TheViews.{out-Tree, out-roll-Tree}
use Rattle.positioned_trees.proofs.Apart.{spans_of, put, spans-cons}
use Rattle.positioned_trees.proofs.Walks.{all_trees-out}
use Rattle.source_grammar.specs.Spans.{labelled}

-- a tree that encloses its kids, and whose opaque kids do not overlap
pub record IsSound (tree : Tree) : Type 0 where
  pub encloses : EnclosesKids tree
  pub apart : KeepsKidsApart tree

-- a tree that stands between two offsets, and is sound with all trees below it
pub record SitsBetween (low : ℕ) (tree : Tree) (high : ℕ) : Type 0 where
  pub begins : low ≤ (out-Tree tree).span.start
  pub order : (out-Tree tree).span.start ≤ (out-Tree tree).span.end
  pub ends : (out-Tree tree).span.end ≤ high
  pub sound : All IsSound (all_trees tree)

pub wider : (low low' high high' : ℕ) (t : Tree) → low' ≤ low → high ≤ high' → SitsBetween low t high → SitsBetween low' t high'
wider low low' high high' t before behind s =
    record { begins = omega (arith, s.begins, before); order = s.order; ends = omega (arith, s.ends, behind); sound = s.sound }

-- at its own span
pub own : (low high : ℕ) (t : Tree) → SitsBetween low t high → SitsBetween (out-Tree t).span.start t (out-Tree t).span.end
own low high t s = record { begins = omega arith; order = s.order; ends = omega arith; sound = s.sound }

-- each tree begins behind the end of the one before it
abbrev pub SitBetween : ℕ → List Tree → ℕ → Type 0
SitBetween low [] high = low ≤ high
SitBetween low (t ∷ ts) high = SitsBetween low t high × SitBetween (out-Tree t).span.end ts high

pub all-wider : (low low' high high' : ℕ) (ts : List Tree) → low' ≤ low → high ≤ high' → SitBetween low ts high → SitBetween low' ts high'
all-wider low low' high high' [] before behind s = omega arith
all-wider low low' high high' (t ∷ ts) before behind s =
    (wider low low' high high' t before behind s.0, all-wider (out-Tree t).span.end (out-Tree t).span.end high high' ts (omega arith) behind s.1)

pub all-order : (low high : ℕ) (ts : List Tree) → SitBetween low ts high → low ≤ high
all-order low high [] s = s
all-order low high (t ∷ ts) s = omega (arith, s.0.begins, s.0.order, s.0.ends)

pub sit-append : (low mid high : ℕ) (ts us : List Tree) → SitBetween low ts mid → SitBetween mid us high → SitBetween low (ts ++ us) high
sit-append low mid high [] us a b = all-wider mid low high high us a (omega arith) b
sit-append low mid high (t ∷ ts) us a b =
    (wider low low mid high t (omega arith) (all-order mid high us b) a.0, sit-append (out-Tree t).span.end mid high ts us a.1 b)

pub sit-one : (low high : ℕ) (t : Tree) → SitsBetween low t high → SitBetween low (t ∷ []) high
sit-one low high t s = (s, s.ends)

-- ---- what the tree over them needs

all-within : (span : Span) (low high : ℕ) (ts : List Tree) → span.start ≤ low → high ≤ span.end → SitBetween low ts high
    → All (λ t. IsWithin span (out-Tree t).span) ts
all-within span low high [] before behind s = All-nil (λ t. IsWithin span (out-Tree t).span)
all-within span low high (t ∷ ts) before behind s =
    All-cons (λ u. IsWithin span (out-Tree u).span) t ts (omega (arith, before, s.0.begins), omega (arith, behind, s.0.ends))
    (all-within span (out-Tree t).span.end high ts (omega (arith, before, s.0.begins, s.0.order)) behind s.1)

all-sound : (low high : ℕ) (ts : List Tree) → SitBetween low ts high → All IsSound (flat_map all_trees ts)
all-sound low high [] s = All-nil IsSound
all-sound low high (t ∷ ts) s =
    All-append IsSound (all_trees t) (flat_map all_trees ts) s.0.sound (all-sound (out-Tree t).span.end high ts s.1)

all-behind : (low high : ℕ) (ts : List Tree) → SitBetween low ts high → All (λ span. low ≤ span.start) (spans_of ts)
all-behind low high [] s = All-nil (λ span. low ≤ span.start)
all-behind low high (t ∷ ts) s =
    subst (All (λ span. low ≤ span.start)) (sym (spans-cons t ts))
    (go (out-Tree t).opaque (All-weaker (λ span. (out-Tree t).span.end ≤ span.start) (λ span. low ≤ span.start)
    (λ span le. omega (arith, le, s.0.begins, s.0.order)) (spans_of ts) (all-behind (out-Tree t).span.end high ts s.1)))
  where
    go : (b : Bool) → All (λ span. low ≤ span.start) (spans_of ts) → All (λ span. low ≤ span.start) (put b (out-Tree t).span (spans_of ts))
    go true rest = All-cons (λ span. low ≤ span.start) (out-Tree t).span (spans_of ts) s.0.begins rest
    go false rest = rest

all-apart : (low high : ℕ) (ts : List Tree) → SitBetween low ts high → AllPairs AreApart (spans_of ts)
all-apart low high [] s = λ i j d lt within. absurd (omega arith)
all-apart low high (t ∷ ts) s =
    subst (AllPairs AreApart) (sym (spans-cons t ts)) (go (out-Tree t).opaque (all-apart (out-Tree t).span.end high ts s.1))
  where
    go : (b : Bool) → AllPairs AreApart (spans_of ts) → AllPairs AreApart (put b (out-Tree t).span (spans_of ts))
    go true rest = AllPairs-cons AreApart (out-Tree t).span (spans_of ts)
        (All-weaker (λ span. (out-Tree t).span.end ≤ span.start) (AreApart (out-Tree t).span) (λ span le. inl le) (spans_of ts)
        (all-behind (out-Tree t).span.end high ts s.1))
        rest
    go false rest = rest

-- a tree of the text over such kids
pub node-sits : (kind : TreeKind) (label : Bytes) (label_span span : Span) (kids : List Tree) → SitBetween span.start kids span.end
    → SitsBetween span.start (labelled kind label label_span span kids) span.end
node-sits kind label label_span span kids s =
    let layer : Tree-F Tree = record { id = 0; span = span; opaque = true; kind = kind; label = label; label_span = label_span; kids = kids; detail = Plain } in
    let tree : Tree = labelled kind label label_span span kids in
    let encloses : EnclosesKids tree =
    subst (λ z. All (λ kid. IsWithin z.span (out-Tree kid).span) z.kids) (sym (out-roll-Tree layer)) (all-within span span.start span.end kids (omega arith) (omega arith) s) in
    let kids_apart : KeepsKidsApart tree =
    subst (λ z. AllPairs AreApart (spans_of z.kids)) (sym (out-roll-Tree layer)) (all-apart span.start span.end kids s) in
    let below : All IsSound (flat_map all_trees (out-Tree tree).kids) =
    subst (λ z. All IsSound (flat_map all_trees z.kids)) (sym (out-roll-Tree layer)) (all-sound span.start span.end kids s) in
    record {
      begins = subst (λ z. span.start ≤ z.span.start) (sym (out-roll-Tree layer)) (omega arith);
      order = subst (λ z. z.span.start ≤ z.span.end) (sym (out-roll-Tree layer)) (all-order span.start span.end kids s);
      ends = subst (λ z. z.span.end ≤ span.end) (sym (out-roll-Tree layer)) (omega arith);
      sound = subst (All IsSound) (sym (all_trees-out tree))
          (All-cons IsSound tree (flat_map all_trees (out-Tree tree).kids) (record { encloses = encloses; apart = kids_apart }) below);
    }
