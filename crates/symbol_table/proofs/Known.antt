-- What the definitions so far say of the trees of one owner, as one more is entered.
use Rattle.std.proofs.Common.{◌≡◌, ℕ, ◌+◌, ◌<◌, ◌≤◌, Bool, true, false, cond, ◌&&◌, ◌==◌, if◌then◌else◌, List, [], ◌∷◌, ◌++◌, map, Option, Some, None, refl, sym, ap, ◌∙◌, append-nil, arith}
use Rattle.std.specs.List.{All, filter}
use Rattle.std.specs.Option.{IfSome, IsSomeAnd}
use Rattle.std.specs.Str.{bytes_eq}
use Rattle.std.proofs.lemmas.Bool.{false≢true, and_left, and_parts, ne_eqb, eq-eqb}
use Rattle.std.proofs.lemmas.List.{map-append}
use Rattle.std.proofs.lemmas.List.Elements.{All-weaker, filter-append}
use Rattle.std.proofs.lemmas.Slice.Eq.{bytes_eq-Decides}
use Rattle.pc_terms.specs.Show.{last_step}
use Rattle.pc_terms.specs.declared.symbols.SymKind.{SymKind}
use Rattle.pc_terms.specs.declared.symbols.SymStep.{SymStep}
use Rattle.positioned_trees.specs.declared.trees.Tree.{Tree}
use Rattle.positioned_trees.specs.declared.trees.Tree.TheViews.{out-Tree}
use Rattle.symbol_table.specs.declared.definitions.Found.{Found}
use Rattle.symbol_table.specs.declared.name_spaces.NameSpace.{NameSpace}
use Rattle.symbol_table.specs.declared.name_spaces.NameSpace.TheVariants as space
use Rattle.symbol_table.specs.Entering.{Knows, kinds_of, admitted}
use Rattle.symbol_table.specs.Found.{owner_rank, has_name, is_named, kind_in, kind_of, kinds_named, is_admitted}
use Rattle.symbol_table.specs.Owners.{symbol_at, defines_at, may_follow}
use Rattle.symbol_table.specs.Sites.{Kid}
use Rattle.symbol_table.specs.Symbols.{space_of, is_same_space}
use Rattle.symbol_table.proofs.Admitted.{may_follow-admitted, admitted-more}
use Rattle.symbol_table.proofs.Filtered.{filter_none}
use Rattle.symbol_table.proofs.Places.{at_outside}

-- ---- definitions of other owners

other_rank : (owner o : Option ℕ) (least : ℕ) → IfSome owner (λ number. number < least) → IsSomeAnd o (λ number. least ≤ number)
    → (owner_rank o == owner_rank owner) ≡ false
other_rank owner None least below above = absurd above
other_rank None (Some n) least below above = ne_eqb (n + 1) 0 (λ e. omega arith)
other_rank (Some m) (Some n) least below above = ne_eqb (n + 1) (m + 1) (λ e. omega arith)

-- nothing changes for an owner where only others own more
pub Knows-kept : (found more : List Found) (owner : Option ℕ) (around : List Kid) (trees : List Tree) (least : ℕ) → IfSome owner (λ number. number < least)
    → All (λ d. IsSomeAnd d.owner (λ number. least ≤ number)) more → Knows found owner around trees → Knows (found ++ more) owner around trees
Knows-kept found more owner around trees least owned others knows = record {
  each = λ kind name outside.
      ap (map kind_of)
      (filter-append (is_named owner (space_of kind) name) found more
      ∙ ap (λ ds. filter (is_named owner (space_of kind) name) found ++ ds)
      (filter_none (is_named owner (space_of kind) name) more
      (All-weaker (λ d. IsSomeAnd d.owner (λ number. least ≤ number)) (λ d. is_named owner (space_of kind) name d ≡ false)
      (λ d above. and_left _ _ (other_rank owner d.owner least owned above)) more others))
      ∙ append-nil (filter (is_named owner (space_of kind) name) found))
      ∙ knows.each kind name outside;
}

-- ---- trees that define nothing

abbrev names_tree : List Kid → SymKind → List ℕ → Tree → Bool
names_tree around kind name tree =
    defines_at tree around && bytes_eq (out-Tree tree).label name && is_same_space (space_of (symbol_at tree around)) (space_of kind)

abbrev kind_or_none : SymKind → Bool → List SymKind
kind_or_none own b = if b then own ∷ [] else []

mapped : (around : List Kid) (tree : Tree) (b : Bool) → map (λ t. symbol_at t around) (cond b (tree ∷ []) []) ≡ kind_or_none (symbol_at tree around) b
mapped around tree true = refl
mapped around tree false = refl

kinds_of-push : (around : List Kid) (kind : SymKind) (name : List ℕ) (trees : List Tree) (tree : Tree)
    → kinds_of around kind name (trees ++ tree ∷ []) ≡ kinds_of around kind name trees ++ kind_or_none (symbol_at tree around) (names_tree around kind name tree)
kinds_of-push around kind name trees tree =
    ap (map (λ t. symbol_at t around)) (filter-append (names_tree around kind name) trees (tree ∷ []))
    ∙ map-append (λ t. symbol_at t around) (filter (names_tree around kind name) trees) (filter (names_tree around kind name) (tree ∷ []))
    ∙ ap (λ ks. kinds_of around kind name trees ++ ks) (mapped around tree (names_tree around kind name tree))

pub Knows-undefined : (found : List Found) (owner : Option ℕ) (around : List Kid) (trees : List Tree) (tree : Tree) → defines_at tree around ≡ false
    → Knows found owner around trees → Knows found owner around (trees ++ tree ∷ [])
Knows-undefined found owner around trees tree undefined knows = record {
  each = λ kind name outside.
      knows.each kind name outside
      ∙ ap admitted (sym (kinds_of-push around kind name trees tree
      ∙ ap (λ b. kinds_of around kind name trees ++ kind_or_none (symbol_at tree around) b) (and_left _ _ (and_left _ _ undefined))
      ∙ append-nil (kinds_of around kind name trees)));
}

-- ---- trees that define a symbol

pub space_from : (x y : NameSpace) → is_same_space x y ≡ true → x ≡ y
space_from space.Packages space.Packages h = refl
space_from space.Terms space.Terms h = refl
space_from space.Types space.Types h = refl
space_from _ _ h = absurd (false≢true h)

-- what is named so is named as the tree is
named_alike : (around : List Kid) (kind : SymKind) (name : List ℕ) (trees : List Tree) (tree : Tree) → names_tree around kind name tree ≡ true
    → kinds_of around kind name trees ≡ kinds_of around (symbol_at tree around) (out-Tree tree).label trees
named_alike around kind name trees tree h =
    let parts = and_parts _ _ h in
    let same_name : (out-Tree tree).label ≡ name = (bytes_eq-Decides (out-Tree tree).label name).0 (and_parts _ _ parts.0).1 in
    let same_space : space_of (symbol_at tree around) ≡ space_of kind = space_from _ _ parts.1 in
    λ i. map (λ t. symbol_at t around)
    (filter (λ t. defines_at t around && bytes_eq (out-Tree t).label (sym same_name i) && is_same_space (space_of (symbol_at t around)) (sym same_space i)) trees)

settled : (kinds : List SymKind) (own : SymKind) (b : Bool) → (b ≡ true → may_follow kinds own ≡ true)
    → admitted kinds ++ kind_or_none own b ≡ admitted (kinds ++ kind_or_none own b)
settled kinds own false h = append-nil (admitted kinds) ∙ ap admitted (sym (append-nil kinds))
settled kinds own true h = sym (admitted-more kinds own ∙ ap (λ m. if m then admitted kinds ++ own ∷ [] else admitted kinds) (h refl))

passed : (kinds : List SymKind) (own : SymKind) (b : Bool) → (b ≡ true → may_follow kinds own ≡ false)
    → admitted kinds ≡ admitted (kinds ++ kind_or_none own b)
passed kinds own false h = ap admitted (sym (append-nil kinds))
passed kinds own true h = sym (admitted-more kinds own ∙ ap (λ m. if m then admitted kinds ++ own ∷ [] else admitted kinds) (h refl))

module _ (found : List Found) (owner : Option ℕ) (around : List Kid) (trees : List Tree) (tree : Tree) (knows : Knows found owner around trees) where
  abbrev own : SymKind
  own = symbol_at tree around

  abbrev label : List ℕ
  label = (out-Tree tree).label

  -- whether it may follow those of its name is known from the definitions so far
  follows : (kind : SymKind) (name : List ℕ) → names_tree around kind name tree ≡ true → may_follow (kinds_of around kind name trees) own ≡ is_admitted found owner own label
  follows kind name named =
      ap (λ kinds. may_follow kinds own) (named_alike around kind name trees tree named)
      ∙ sym (may_follow-admitted (kinds_of around own label trees) own)
      ∙ ap (λ kinds. may_follow kinds own) (sym (knows.each own label (at_outside tree around)))

  pub Knows-second : is_admitted found owner own label ≡ false → Knows found owner around (trees ++ tree ∷ [])
  Knows-second second = record {
    each = λ kind name outside.
        knows.each kind name outside
        ∙ passed (kinds_of around kind name trees) own (names_tree around kind name tree) (λ named. follows kind name named ∙ second)
        ∙ ap admitted (sym (kinds_of-push around kind name trees tree));
  }

  module _ (last : Found) (defined : defines_at tree around ≡ true) (owned : last.owner ≡ owner) (step : SymStep) (at_end : last_step last.decl.path.steps ≡ Some step)
      (own_kind : step.kind ≡ own) (own_name : step.name ≡ label) where
    named_as : (kind : SymKind) (name : List ℕ) → is_named owner (space_of kind) name last ≡ names_tree around kind name tree
    named_as kind name =
        ap (λ b. b && has_name (space_of kind) name (last_step last.decl.path.steps)) (eq-eqb _ _ (ap owner_rank owned))
        ∙ ap (has_name (space_of kind) name) at_end
        ∙ (λ i. bytes_eq (own_name i) name && is_same_space (space_of (own_kind i)) (space_of kind))
        ∙ ap (λ b. b && bytes_eq label name && is_same_space (space_of own) (space_of kind)) (sym defined)

    kinds_last : (b : Bool) → map kind_of (cond b (last ∷ []) []) ≡ kind_or_none own b
    kinds_last true = (λ i. kind_in (at_end i) ∷ []) ∙ (λ i. own_kind i ∷ [])
    kinds_last false = refl

    kinds_named-push : (kind : SymKind) (name : List ℕ)
        → kinds_named (found ++ last ∷ []) owner kind name ≡ kinds_named found owner kind name ++ kind_or_none own (names_tree around kind name tree)
    kinds_named-push kind name =
        ap (map kind_of) (filter-append (is_named owner (space_of kind) name) found (last ∷ []))
        ∙ map-append kind_of (filter (is_named owner (space_of kind) name) found) (filter (is_named owner (space_of kind) name) (last ∷ []))
        ∙ ap (λ b. kinds_named found owner kind name ++ map kind_of (cond b (last ∷ []) [])) (named_as kind name)
        ∙ ap (λ kinds. kinds_named found owner kind name ++ kinds) (kinds_last (names_tree around kind name tree))

    pub Knows-defined : is_admitted found owner own label ≡ true → Knows (found ++ last ∷ []) owner around (trees ++ tree ∷ [])
    Knows-defined first = record {
      each = λ kind name outside.
          kinds_named-push kind name
          ∙ ap (λ kinds. kinds ++ kind_or_none own (names_tree around kind name tree)) (knows.each kind name outside)
          ∙ settled (kinds_of around kind name trees) own (names_tree around kind name tree) (λ named. follows kind name named ∙ first)
          ∙ ap admitted (sym (kinds_of-push around kind name trees tree));
    }

-- ---- trees directly in a new definition

-- no definition so far is owned by one that has no smaller number
pub Knows-nothing : (found : List Found) (owner : ℕ) (around : List Kid) → All (λ d. (owner_rank d.owner == owner_rank (Some owner)) ≡ false) found
    → Knows found (Some owner) around []
Knows-nothing found owner around none = record {
  each = λ kind name outside.
      ap (map kind_of) (filter_none (is_named (Some owner) (space_of kind) name) found
      (All-weaker (λ d. (owner_rank d.owner == owner_rank (Some owner)) ≡ false) (λ d. is_named (Some owner) (space_of kind) name d ≡ false) (λ d h. and_left _ _ h) found none));
}
