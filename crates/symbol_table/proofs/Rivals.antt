-- The earlier definitions of a tree's name, as the definitions so far see them.
use Rattle.std.proofs.Common.{◌≡◌, ℕ, Bool, true, false, ◌&&◌, List, map, refl, ap}
use Rattle.std.specs.Str.{bytes_eq}
use Rattle.std.proofs.lemmas.List.Elements.{filter_agree}
use Rattle.positioned_trees.specs.declared.trees.Tree.{Tree}
use Rattle.positioned_trees.specs.declared.trees.Tree.TheViews.{out-Tree}
use Rattle.symbol_table.specs.Entering.{kinds_of}
use Rattle.symbol_table.specs.Owners.{symbol_at, defines_at, are_rivals, earlier, rivals}
use Rattle.symbol_table.specs.Sites.{Kid}
use Rattle.symbol_table.specs.Symbols.{space_of, is_same_space}

and_true : (a b : Bool) → b ≡ true → (a && b) ≡ a
and_true true b e = e
and_true false b e = refl

-- of a tree that defines a symbol
pub rivals-kinds : (roots : List Tree) (file : ℕ) (kid : Kid) (around : List Kid) → defines_at kid.tree around ≡ true
    → rivals roots file kid around ≡ kinds_of around (symbol_at kid.tree around) (out-Tree kid.tree).label (earlier roots file kid around)
rivals-kinds roots file kid around defined =
    ap (λ trees. map (λ other. symbol_at other around) trees)
    (filter_agree
    (λ other. are_rivals other kid.tree around)
    (λ other. defines_at other around && bytes_eq (out-Tree other).label (out-Tree kid.tree).label
    && is_same_space (space_of (symbol_at other around)) (space_of (symbol_at kid.tree around)))
    (λ other. ap (λ b. b && bytes_eq (out-Tree other).label (out-Tree kid.tree).label
    && is_same_space (space_of (symbol_at other around)) (space_of (symbol_at kid.tree around)))
    (and_true (defines_at other around) (defines_at kid.tree around) defined))
    (earlier roots file kid around))
