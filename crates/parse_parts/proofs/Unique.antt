-- At most one part of a production stands at a token, where tokens have one tree.
use Rattle.std.proofs.Common.{◌≡◌, ℕ, ◌+◌, ◌-◌, ◌<◌, ◌≤◌, List, ◌++◌, length, take, drop, ap, sym, ◌∙◌, subst, arith, append_assoc, inl, inr, ◌⊎◌}
use Rattle.std.proofs.Math.Seq.{take-add}
use Rattle.std.proofs.lemmas.Bool.{cases_lt}
use Rattle.positioned_trees.specs.Trees.{height, numbered}
use Rattle.positioned_trees.specs.declared.trees.Tree.{Tree}
use Rattle.source_grammar.specs.Lexemes.{Lexeme}
use Rattle.source_grammar.specs.Reading.{Production, CanBegin, IsLongestPart, IsNotHere}
use Rattle.parse_parts.specs.declared.parts.Part.{Part}
use Rattle.parse_parts.specs.declared.parts.Part.TheVariants.{Read, NotHere, TooHigh}
use Rattle.parse_parts.specs.Parting.{IsPartAt}

module _ (Is : Production) (one-tree : (xs : List Lexeme) (t u : Tree) → Is xs t → Is xs u → t ≡ u) where
  longest-same : (ts : List Lexeme) (t u : Tree) (m n : ℕ) → IsLongestPart Is ts t m → IsLongestPart Is ts u n → m ≡ n
  longest-same ts t u m n a b =
      let below : m ≤ n = b.longest m t a.within a.part in let above : n ≤ m = a.longest n u b.within b.part in omega arith

  tree-same : (ts : List Lexeme) (t u : Tree) (m n : ℕ) → IsLongestPart Is ts t m → IsLongestPart Is ts u n → t ≡ u
  tree-same ts t u m n a b = one-tree (take m ts) t u a.part (subst (λ k. Is (take k ts) u) (sym (longest-same ts t u m n a b)) b.part)

  -- what can begin with some tokens can begin with fewer of them
  fewer-begin : (ts : List Lexeme) (n k : ℕ) → n ≤ k → CanBegin Is (take k ts) → CanBegin Is (take n ts)
  fewer-begin ts n k within can =
      let split : k ≡ n + (k - n) = omega arith in
      let all : take k ts ++ can.others ≡ take n ts ++ (take (k - n) (drop n ts) ++ can.others) =
      ap (λ xs. xs ++ can.others) (ap (λ j. take j ts) split ∙ take-add n (k - n) ts) ∙ append_assoc (take n ts) (take (k - n) (drop n ts)) can.others in
      record { others = take (k - n) (drop n ts) ++ can.others; tree = can.tree; part = subst (λ xs. Is xs can.tree) all can.part }

  not-before : (ts : List Lexeme) (n k : ℕ) → IsNotHere Is ts n → IsNotHere Is ts k → n < k → ⊥
  not-before ts n k a b lt =
      let shorter : n < length ts = omega (arith, b.within) in a.stuck shorter (fewer-begin ts (n + 1) k (omega arith) b.begins)

  not-same : (ts : List Lexeme) (n k : ℕ) → IsNotHere Is ts n → IsNotHere Is ts k → n ≡ k
  not-same ts n k a b = go (cases_lt n k) (cases_lt k n) where
    go : (n < k) ⊎ (k ≤ n) → (k < n) ⊎ (n ≤ k) → n ≡ k
    go (inl lt) other = absurd (not-before ts n k a b lt)
    go (inr le) (inl lt) = absurd (not-before ts k n b a lt)
    go (inr le) (inr other) = omega arith

  from-at : (at m n : ℕ) → at ≤ m → at ≤ n → m - at ≡ n - at → m ≡ n
  from-at at m n a b e = omega arith

  pub one-part : (ts : List Lexeme) (at : ℕ) (p q : Part) → IsPartAt Is ts at p → IsPartAt Is ts at q → p ≡ q
  one-part ts at (Read t m) (Read u n) (am, a) (an, b) =
      let trees : t ≡ u = a.numbers ∙ ap (λ x. (numbered x 0).tree) (tree-same ts a.tree b.tree (m - at) (n - at) a.part b.part) ∙ sym b.numbers in
      let ends : m ≡ n = from-at at m n am an (longest-same ts a.tree b.tree (m - at) (n - at) a.part b.part) in
      cc
  one-part ts at (Read t m) (NotHere n) (am, a) (an, b) = absurd (b.none (m - at) a.tree a.part.within a.part.part)
  one-part ts at (Read t m) (TooHigh n) (am, a) (an, b) =
      absurd (omega (arith, a.low, b.high, ap height (tree-same ts a.tree b.tree (m - at) (n - at) a.part b.part)))
  one-part ts at (NotHere m) (Read u n) (am, a) (an, b) = absurd (a.none (n - at) b.tree b.part.within b.part.part)
  one-part ts at (NotHere m) (NotHere n) (am, a) (an, b) = ap NotHere (from-at at m n am an (not-same ts (m - at) (n - at) a b))
  one-part ts at (NotHere m) (TooHigh n) (am, a) (an, b) = absurd (a.none (n - at) b.tree b.part.within b.part.part)
  one-part ts at (TooHigh m) (Read u n) (am, a) (an, b) =
      absurd (omega (arith, b.low, a.high, ap height (tree-same ts a.tree b.tree (m - at) (n - at) a.part b.part)))
  one-part ts at (TooHigh m) (NotHere n) (am, a) (an, b) = absurd (b.none (m - at) a.tree a.part.within a.part.part)
  one-part ts at (TooHigh m) (TooHigh n) (am, a) (an, b) =
      ap TooHigh (from-at at m n am an (longest-same ts a.tree b.tree (m - at) (n - at) a.part b.part))
