-- What a reader of one production answers, in the words of the grammar. A production is the relation between lists of tokens and trees.
use Rattle.std.specs.Prelude.{◌≡◌, ◌<◌, ◌≤◌, ◌+◌, ℕ, List, ◌++◌, length, take}
use Rattle.positioned_trees.specs.declared.trees.Tree.{Tree}
use Rattle.positioned_trees.specs.Located.{max_height}
use Rattle.positioned_trees.specs.Trees.{height, numbered}
use Rattle.source_grammar.specs.Lexemes.{Lexeme}

abbrev pub Production : Type 1
Production = List Lexeme → Tree → Type 0

-- others can stand after these tokens so that the whole is such a part
pub record CanBegin (Is : Production) (front : List Lexeme) : Type 0 where
  pub others : List Lexeme
  pub tree : Tree
  pub part : Is (front ++ others) tree

-- the first m tokens are such a part, with this tree, and no more of them are one
pub record IsLongestPart (Is : Production) (ts : List Lexeme) (tree : Tree) (m : ℕ) : Type 0 where
  pub within : m ≤ length ts
  pub part : Is (take m ts) tree
  pub longest : (k : ℕ) (other : Tree) → k ≤ length ts → Is (take k ts) other → k ≤ m

-- Read: the tree is that of the longest part, with its numbers.
pub record IsRead (Is : Production) (ts : List Lexeme) (read : Tree) (m : ℕ) : Type 0 where
  pub tree : Tree
  pub part : IsLongestPart Is ts tree m
  pub low : height tree ≤ max_height
  pub numbers : read ≡ (numbered tree 0).tree

-- NotHere: no part begins here, and token n is the first that no part admits.
pub record IsNotHere (Is : Production) (ts : List Lexeme) (n : ℕ) : Type 0 where
  pub within : n ≤ length ts
  pub none : (k : ℕ) (tree : Tree) → k ≤ length ts → Is (take k ts) tree → ⊥
  pub begins : CanBegin Is (take n ts)
  pub stuck : n < length ts → CanBegin Is (take (n + 1) ts) → ⊥

-- TooHigh: the longest part is higher than trees may be.
pub record IsTooHigh (Is : Production) (ts : List Lexeme) (m : ℕ) : Type 0 where
  pub tree : Tree
  pub part : IsLongestPart Is ts tree m
  pub high : max_height < height tree
