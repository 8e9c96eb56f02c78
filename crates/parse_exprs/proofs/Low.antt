-- The height of the first kids, one more at the end.
use Rattle.std.proofs.Common.{◌≡◌, ℕ, zero, suc, ◌+◌, ◌<◌, max, List, [], ◌∷◌, length, get_or, take, add-one, refl, ap, ◌∙◌, arith}
use Rattle.positioned_trees.specs.Trees.{height, highest}
use Rattle.positioned_trees.specs.declared.trees.Tree.{Tree}

more : (trees : List Tree) (n : ℕ) (d : Tree) → n < length trees
    → highest (take (suc n) trees) ≡ max (highest (take n trees)) (height (get_or trees n d))
more [] n d below = absurd (omega (arith, below))
more (t ∷ ts) zero d below = omega arith
more (t ∷ ts) (suc n) d below =
    let first : highest (take (suc (suc n)) (t ∷ ts)) ≡ max (height t) (highest (take (suc n) ts)) = refl in
    let rest : highest (take (suc n) (t ∷ ts)) ≡ max (height t) (highest (take n ts)) = refl in
    let last : height (get_or (t ∷ ts) (suc n) d) ≡ height (get_or ts n d) = refl in
    omega (arith, first, rest, last, more ts n d (omega (arith, below)))

pub highest-more : (trees : List Tree) (n : ℕ) (d : Tree) → n < length trees
    → highest (take (n + 1) trees) ≡ max (highest (take n trees)) (height (get_or trees n d))
highest-more trees n d below = ap (λ m. highest (take m trees)) (add-one n) ∙ more trees n d below
