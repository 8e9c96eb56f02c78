-- Trees as far as they are kept.
use Rattle.std.proofs.Common.{◌≡◌, ℕ, ◌+◌, ◌<◌, ◌≤◌, max, nat_le, nat_lt, Bool, true, false, if◌then◌else◌, List, [], ◌∷◌, ◌++◌, Option, Some, None, refl, ap, sym, ◌∙◌, arith}
use Rattle.std.proofs.lemmas.Bool.Decides.{nat_tests}
use Rattle.pc_terms.specs.declared.problems.Span.{Span}
use Rattle.pc_terms.specs.declared.tree_kinds.TreeKind.{TreeKind}
use Rattle.scan_tokens.specs.Words.{Bytes}
use Rattle.positioned_trees.specs.Trees.{height, highest}
use Rattle.positioned_trees.specs.declared.trees.Tree.{Tree}
use Rattle.positioned_trees.proofs.Heights.{height-roll, highest-push}
use Rattle.source_grammar.specs.Spans.{labelled}
use Rattle.parse_parts.specs.declared.built.Kids.{Kids}
use Rattle.parse_parts.specs.declared.built.Tall.{Tall}
use Rattle.parse_parts.specs.Built.{max_height, last, only, joined, alone, node}
pub use Rattle.parse_parts.specs.Keeping.{keep, keep_all, kept, kept_all}

pub last-append : (ts : List Tree) (t : Tree) → last (ts ++ t ∷ []) ≡ Some t
last-append [] t = refl
last-append (a ∷ []) t = refl
last-append (a ∷ b ∷ ts) t = last-append (b ∷ ts) t

pub le-is : (a b : ℕ) → nat_le a b ≡ true → a ≤ b
le-is a b e = grind (arith, nat_tests, e)

pub le-not : (a b : ℕ) → nat_le a b ≡ false → b < a
le-not a b e = grind (arith, nat_tests, e)

pub kept-some : (tree : Tree) (tall : Tall) → Some tall ≡ kept tree → (tall.tree ≡ tree) × (height tree ≤ max_height)
kept-some tree tall e = go (nat_le (height tree) max_height) refl e where
  go : (b : Bool) → nat_le (height tree) max_height ≡ b → Some tall ≡ keep b (height tree) tree → (tall.tree ≡ tree) × (height tree ≤ max_height)
  go true t e = (let same : tall ≡ record { tree = tree; height = height tree } = cc in ap (λ x. x.tree) same, le-is _ _ t)
  go false t e = cc

pub kept-none : (tree : Tree) → None ≡ kept tree → max_height < height tree
kept-none tree e = go (nat_le (height tree) max_height) refl e where
  go : (b : Bool) → nat_le (height tree) max_height ≡ b → None ≡ keep b (height tree) tree → max_height < height tree
  go true t e = cc
  go false t e = le-not _ _ t

lt-suc : (h : ℕ) → nat_lt h max_height ≡ nat_le (h + 1) max_height
lt-suc h = grind (arith, nat_tests)

greater : (a b : ℕ) → (if nat_lt a b then b else a) ≡ max a b
greater a b = go (nat_lt a b) refl where
  go : (t : Bool) → nat_lt a b ≡ t → (if t then b else a) ≡ max a b
  go true e = (let h : a < b = grind (arith, nat_tests, e) in omega arith)
  go false e = (let h : b ≤ a = grind (arith, nat_tests, e) in omega arith)

pub joined-kept : (trees : List Tree) (tree : Tree) → joined (kept_all trees) (kept tree) ≡ kept_all (trees ++ tree ∷ [])
joined-kept trees tree = go (nat_le (highest trees) max_height) (nat_le (height tree) max_height) (nat_le (highest (trees ++ tree ∷ [])) max_height) refl refl refl where
  go : (a b c : Bool) → nat_le (highest trees) max_height ≡ a → nat_le (height tree) max_height ≡ b → nat_le (highest (trees ++ tree ∷ [])) max_height ≡ c
      → joined (keep_all a (highest trees) trees) (keep b (height tree) tree) ≡ keep_all c (highest (trees ++ tree ∷ [])) (trees ++ tree ∷ [])
  go true true true e f g = ap (λ h. Some (record { trees = trees ++ tree ∷ []; height = h })) (greater (highest trees) (height tree) ∙ sym (highest-push trees tree))
  go true true false e f g = absurd (omega (arith, highest-push trees tree, le-is _ _ e, le-is _ _ f, le-not _ _ g))
  go true false true e f g = absurd (omega (arith, highest-push trees tree, le-not _ _ f, le-is _ _ g))
  go true false false e f g = refl
  go false b true e f g = absurd (omega (arith, highest-push trees tree, le-not _ _ e, le-is _ _ g))
  go false b false e f g = refl

pub alone-kept : (tree : Tree) → alone (kept tree) ≡ kept_all (tree ∷ [])
alone-kept tree = joined-kept [] tree

pub node-kept : (kind : TreeKind) (label : Bytes) (label_span span : Span) (kids : List Tree)
    → node kind label label_span span (kept_all kids) ≡ kept (labelled kind label label_span span kids)
node-kept kind label label_span span kids =
    go (nat_le (highest kids) max_height) refl ∙ ap (λ h. keep (nat_le h max_height) h (labelled kind label label_span span kids)) (sym (height-roll _)) where
      go : (a : Bool) → nat_le (highest kids) max_height ≡ a
          → node kind label label_span span (keep_all a (highest kids) kids) ≡ keep (nat_le (highest kids + 1) max_height) (highest kids + 1) (labelled kind label label_span span kids)
      go true e = by (nat_lt (highest kids) max_height) (lt-suc (highest kids)) where
        by : (t : Bool) → t ≡ nat_le (highest kids + 1) max_height
            → (if t then Some (record { tree = labelled kind label label_span span kids; height = highest kids + 1 }) else None)
            ≡ keep (nat_le (highest kids + 1) max_height) (highest kids + 1) (labelled kind label label_span span kids)
        by true f = ap (λ t. keep t (highest kids + 1) (labelled kind label label_span span kids)) f
        by false f = ap (λ t. keep t (highest kids + 1) (labelled kind label label_span span kids)) f
      go false e = past (nat_le (highest kids + 1) max_height) refl where
        past : (t : Bool) → nat_le (highest kids + 1) max_height ≡ t → None ≡ keep t (highest kids + 1) (labelled kind label label_span span kids)
        past true f = absurd (omega (arith, le-not _ _ e, le-is _ _ f))
        past false f = refl

-- the one kid is kept as the tree that it is
pub only-kept : (tree : Tree) → only (kept_all (tree ∷ [])) ≡ kept tree
only-kept tree = either (nat_le (highest (tree ∷ [])) max_height) (highest (tree ∷ [])) ∙ ap (λ h. keep (nat_le h max_height) h tree) (no-more (height tree)) where
  either : (b : Bool) (h : ℕ) → only (keep_all b h (tree ∷ [])) ≡ keep b h tree
  either true h = refl
  either false h = refl

  no-more : (h : ℕ) → max h 0 ≡ h
  no-more h = omega arith
