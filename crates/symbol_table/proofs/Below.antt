-- What is so of all trees of a tree in which nothing defines a symbol, and of one that is refused.
use Rattle.std.proofs.Common.{◌≡◌, ℕ, Bool, true, false, not, ◌&&◌, ◌||◌, if◌then◌else◌, List, [], ◌∷◌, ◌++◌, map, refl, sym, ap, subst, ◌∙◌, append_assoc}
use Rattle.std.specs.List.{All, flat_map}
use Rattle.std.proofs.lemmas.Bool.{false≢true, and_left, and_right, and_from, not_from_false}
use Rattle.std.proofs.lemmas.List.{map-append}
use Rattle.std.proofs.lemmas.List.Concat.{flat_map-append}
use Rattle.std.proofs.lemmas.List.Elements.{All-nil, All-cons, All-append, All-same}
use Rattle.pc_terms.specs.declared.items.Item.{Item}
use Rattle.pc_terms.specs.declared.problems.Problem.{Problem}
use Rattle.positioned_trees.specs.Trees.{all_trees}
use Rattle.positioned_trees.specs.declared.trees.Tree.{Tree}
use Rattle.positioned_trees.specs.declared.trees.Tree.TheViews.{out-Tree, roll-Tree, out-roll-Tree}
use Rattle.positioned_trees.specs.declared.trees.Tree.TheFolds.{ind-Tree}
use Rattle.positioned_trees.proofs.Walks.{all_trees-out}
use Rattle.symbol_table.specs.declared.walking.Entering.{Entering}
use Rattle.symbol_table.specs.Entering.{IsQuiet}
use Rattle.symbol_table.specs.Items.{is_live_site}
use Rattle.symbol_table.specs.Owners.{symbol_at, defines_at, has_owner, is_misplaced, are_live, defines, may_follow, rivals}
use Rattle.symbol_table.specs.Problems.{problems_of_tree, site_problems}
use Rattle.symbol_table.specs.Sites.{Kid, Site, kid_after, site_of, sites_from}
use Rattle.symbol_table.proofs.Spreads.{kids_from, sites_from-out}

-- ---- from a tree to all of its trees

-- where each kid stands so, in a tree that does
module _ (file : ℕ) (Q : Site → Type 0) (Stands : Tree → List Tree → List Kid → Type 0) where
  abbrev pub HoldsIn : Tree → Type 0
  HoldsIn tree = (before : List Tree) (around : List Kid) → Stands tree before around → All Q (sites_from file tree before around)

  kids_hold : (around : List Kid) (before : List Tree) (kids : List ((tree : Tree) × HoldsIn tree)) → ((kid : Tree) (behind : List Tree) → Stands kid behind around)
      → All Q (kids_from file around before (map (λ k. k.0) kids))
  kids_hold around before [] each = All-nil Q
  kids_hold around before (kid ∷ kids) each =
      All-append Q (sites_from file kid.0 before around) (kids_from file around (before ++ kid.0 ∷ []) (map (λ k. k.0) kids))
      (kid.1 before around (each kid.0 before)) (kids_hold around (before ++ kid.0 ∷ []) kids each)

  abbrev AllBelow : Tree → List Tree → List Kid → List Tree → Type 0
  AllBelow tree before around kids = All Q (kids_from file (kid_after tree before ∷ around) [] kids)

  pub holds_in : ((tree : Tree) (before : List Tree) (around : List Kid) → Stands tree before around → Q (site_of file (kid_after tree before) around))
      → ((tree : Tree) (before : List Tree) (around : List Kid) (kid : Tree) (behind : List Tree) → Stands tree before around → Stands kid behind (kid_after tree before ∷ around))
      → (tree : Tree) → HoldsIn tree
  holds_in here below = ind-Tree HoldsIn (λ x y is before around stands.
      let tree : Tree = roll-Tree x in
      let kids : AllBelow tree before around x.kids = subst (λ z. AllBelow tree before around z.kids) is
      (kids_hold (kid_after tree before ∷ around) [] y.kids (λ kid behind. below tree before around kid behind stands)) in
      let opened : AllBelow tree before around (out-Tree tree).kids = subst (λ z. AllBelow tree before around z.kids) (sym (out-roll-Tree x)) kids in
      All-same Q _ _ (sites_from-out file tree before around) (All-cons Q _ _ (here tree before around stands) opened))

-- ---- refused

-- nothing comes of a site
pub record IsDead (roots : List Tree) (site : Site) : Type 0 where
  pub undefined : defines roots site ≡ false
  pub untold : site_problems roots site ≡ []
  pub lost : is_live_site roots site ≡ false

dead_at : (roots : List Tree) (file : ℕ) (tree : Tree) (before : List Tree) (around : List Kid) → are_live roots file around ≡ false
    → IsDead roots (site_of file (kid_after tree before) around)
dead_at roots file tree before around lost =
    let here : are_live roots file (kid_after tree before ∷ around) ≡ false = and_right _ _ lost in record {
      undefined = and_right _ _ here;
      untold = ap (λ b. if b then problems_of_tree roots (site_of file (kid_after tree before) around) else []) (and_right (has_owner around) _ lost);
      lost = here;
    }

-- nothing comes of what stands in a tree that is refused
pub dead_below : (roots : List Tree) (file : ℕ) (tree : Tree) (before : List Tree) (around : List Kid) → are_live roots file around ≡ false
    → All (IsDead roots) (sites_from file tree before around)
dead_below roots file tree before around lost =
    holds_in file (IsDead roots) (λ _ _ around. are_live roots file around ≡ false)
    (λ tree before around h. dead_at roots file tree before around h)
    (λ tree before around kid behind h. and_right _ _ h)
    tree before around lost

-- ---- quiet

-- nothing but imports comes of a site
pub record IsStill (roots : List Tree) (site : Site) : Type 0 where
  pub undefined : defines roots site ≡ false
  pub untold : site_problems roots site ≡ []
  pub live : is_live_site roots site ≡ true

record StandsStill (roots : List Tree) (file : ℕ) (tree : Tree) (before : List Tree) (around : List Kid) : Type 0 where
  next : Kid
  outer : List Kid
  is : around ≡ next ∷ outer
  quiet : IsQuiet roots file (kid_after tree before) (next ∷ outer)

quiet_owner : (owned own wrong : Bool) → (owned && (own || wrong)) ≡ false → (own && owned) ≡ false
quiet_owner true true wrong h = absurd (false≢true (sym h))
quiet_owner false true wrong h = refl
quiet_owner owned false wrong h = refl

quiet_untold : (owned live own wrong other : Bool) (xs ys : List Problem) → (owned && (own || wrong)) ≡ false
    → (if owned && live then (if wrong then xs else (if own && other then ys else [])) else []) ≡ []
quiet_untold false live own wrong other xs ys h = refl
quiet_untold true live true wrong other xs ys h = absurd (false≢true (sym h))
quiet_untold true live false true other xs ys h = absurd (false≢true (sym h))
quiet_untold true true false false other xs ys h = refl
quiet_untold true false false false other xs ys h = refl

still_at : (roots : List Tree) (file : ℕ) (tree : Tree) (before : List Tree) (next : Kid) (outer : List Kid) → IsQuiet roots file (kid_after tree before) (next ∷ outer)
    → IsStill roots (site_of file (kid_after tree before) (next ∷ outer))
still_at roots file tree before next outer q = record {
  undefined = and_left _ _ (quiet_owner (has_owner (next ∷ outer)) (defines_at tree (next ∷ outer)) (is_misplaced tree (next ∷ outer)) q.quiet);
  untold = quiet_untold (has_owner (next ∷ outer)) (are_live roots file (next ∷ outer)) (defines_at tree (next ∷ outer)) (is_misplaced tree (next ∷ outer))
      (not (may_follow (rivals roots file (kid_after tree before) (next ∷ outer)) (symbol_at tree (next ∷ outer)))) _ _ q.quiet;
  live = q.live;
}

quiet_kid : (roots : List Tree) (file : ℕ) (tree : Tree) (before : List Tree) (next : Kid) (outer : List Kid) (kid : Tree) (behind : List Tree)
    → IsQuiet roots file (kid_after tree before) (next ∷ outer) → IsQuiet roots file (kid_after kid behind) (kid_after tree before ∷ next ∷ outer)
quiet_kid roots file tree before next outer kid behind q =
    let unowned : has_owner (kid_after tree before ∷ next ∷ outer) ≡ false =
    quiet_owner (has_owner (next ∷ outer)) (defines_at tree (next ∷ outer)) (is_misplaced tree (next ∷ outer)) q.quiet in record {
      quiet = and_left _ _ unowned;
      live = and_from _ _ (not_from_false _ (and_left _ _ unowned)) q.live;
    }

still_below_kid : (roots : List Tree) (file : ℕ) (tree : Tree) (before : List Tree) (around : List Kid) (kid : Tree) (behind : List Tree)
    → StandsStill roots file tree before around → StandsStill roots file kid behind (kid_after tree before ∷ around)
still_below_kid roots file tree before around kid behind h = record {
  next = kid_after tree before;
  outer = h.next ∷ h.outer;
  is = ap (λ z. kid_after tree before ∷ z) h.is;
  quiet = quiet_kid roots file tree before h.next h.outer kid behind h.quiet;
}

-- nothing but imports comes of a tree in which nothing defines a symbol
pub still_below : (roots : List Tree) (file : ℕ) (tree : Tree) (before : List Tree) (next : Kid) (outer : List Kid) → IsQuiet roots file (kid_after tree before) (next ∷ outer)
    → All (IsStill roots) (sites_from file tree before (next ∷ outer))
still_below roots file tree before next outer q =
    holds_in file (IsStill roots) (StandsStill roots file)
    (λ tree before around h. subst (λ z. IsStill roots (site_of file (kid_after tree before) z)) (sym h.is) (still_at roots file tree before h.next h.outer h.quiet))
    (still_below_kid roots file)
    tree before (next ∷ outer) (record { next = next; outer = outer; is = refl; quiet = q })

-- ---- the trees of the sites

abbrev pub site_tree : Site → Tree
site_tree site = site.kid.tree

module _ (file : ℕ) where
  abbrev HasTrees : Tree → Type 0
  HasTrees tree = (before : List Tree) (around : List Kid) → map site_tree (sites_from file tree before around) ≡ all_trees tree

  trees_of_kids : (around : List Kid) (before : List Tree) (kids : List ((tree : Tree) × HasTrees tree))
      → map site_tree (kids_from file around before (map (λ k. k.0) kids)) ≡ flat_map all_trees (map (λ k. k.0) kids)
  trees_of_kids around before [] = refl
  trees_of_kids around before (kid ∷ kids) =
      map-append site_tree (sites_from file kid.0 before around) (kids_from file around (before ++ kid.0 ∷ []) (map (λ k. k.0) kids))
      ∙ (λ i. kid.1 before around i ++ trees_of_kids around (before ++ kid.0 ∷ []) kids i)

  abbrev SameBelow : Tree → List Tree → List Kid → List Tree → Type 0
  SameBelow tree before around kids = map site_tree (kids_from file (kid_after tree before ∷ around) [] kids) ≡ flat_map all_trees kids

  -- they are all trees of the tree
  pub sites-trees : (tree : Tree) → HasTrees tree
  sites-trees = ind-Tree HasTrees (λ x y is before around.
      let tree : Tree = roll-Tree x in
      let kids : SameBelow tree before around x.kids = subst (λ z. SameBelow tree before around z.kids) is
      (trees_of_kids (kid_after tree before ∷ around) [] y.kids) in
      let below : SameBelow tree before around (out-Tree tree).kids = subst (λ z. SameBelow tree before around z.kids) (sym (out-roll-Tree x)) kids in
      ap (map site_tree) (sites_from-out file tree before around) ∙ (λ i. tree ∷ below i) ∙ sym (all_trees-out tree))

-- ---- what each tree below a tree gives

flat_map-flat_map : {X Y A : Type 0} (f : Y → List A) (g : X → List Y) (xs : List X) → flat_map f (flat_map g xs) ≡ flat_map (λ x. flat_map f (g x)) xs
flat_map-flat_map f g [] = refl
flat_map-flat_map f g (x ∷ xs) = flat_map-append f (g x) (flat_map g xs) ∙ ap (λ ys. flat_map f (g x) ++ ys) (flat_map-flat_map f g xs)

pub all_trees-gives : {A : Type 0} (f : Tree → List A) (tree : Tree)
    → flat_map f (all_trees tree) ≡ f tree ++ flat_map (λ kid. flat_map f (all_trees kid)) (out-Tree tree).kids
all_trees-gives f tree =
    ap (flat_map f) (all_trees-out tree)
    ∙ ap (λ ys. f tree ++ ys) (flat_map-flat_map f all_trees (out-Tree tree).kids)

-- where the first kids are entered, and they are all, all trees of the tree are
pub imports_entered : (gives : Tree → List Item) (old now : Entering) (first : List Item) (seen : List Tree) (tree : Tree) → first ≡ old.qualifiers ++ gives tree → seen ≡ (out-Tree tree).kids
    → now ≡ record old { qualifiers = first ++ flat_map (λ kid. flat_map gives (all_trees kid)) seen }
    → now ≡ record old { qualifiers = old.qualifiers ++ flat_map gives (all_trees tree) }
imports_entered gives old now first seen tree is all same =
    same ∙ ap {B = Entering} (λ qualifiers. record old { qualifiers = qualifiers })
    ((λ i. is i ++ flat_map (λ kid. flat_map gives (all_trees kid)) (all i))
    ∙ append_assoc old.qualifiers (gives tree) (flat_map (λ kid. flat_map gives (all_trees kid)) (out-Tree tree).kids)
    ∙ ap (λ more. old.qualifiers ++ more) (sym (all_trees-gives gives tree)))
