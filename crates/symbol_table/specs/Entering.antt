-- What is so while the trees of a source are entered, in pre-order.
use Rattle.std.specs.Prelude.{◌≡◌, ℕ, ◌≤◌, ◌⊎◌, true, false, ◌&&◌, ◌||◌, if◌then◌else◌, List, [], ◌∷◌, ◌++◌, length, map, filter, All, Option, Some, None, IsSomeAnd}
use Rattle.std.specs.List.{flat_map}
use Rattle.std.specs.Str.{bytes_eq}
use Rattle.pc_terms.specs.Bytes.{Bytes}
use Rattle.pc_terms.specs.declared.items.Item.{Item}
use Rattle.pc_terms.specs.declared.problems.Problem.{Problem}
use Rattle.pc_terms.specs.declared.symbols.SymKind.{SymKind}
use Rattle.pc_terms.specs.declared.tree_kinds.TreeKind.{TreeKind}
use Rattle.positioned_trees.specs.declared.details.Detail.{Detail}
use Rattle.positioned_trees.specs.declared.trees.Tree.{Tree}
use Rattle.positioned_trees.specs.declared.trees.Tree.TheViews.{out-Tree}
use Rattle.symbol_table.specs.declared.decls.Decl.{Decl}
use Rattle.symbol_table.specs.declared.definitions.Found.{Found}
use Rattle.symbol_table.specs.declared.definitions.Standing.{Standing}
use Rattle.symbol_table.specs.declared.walking.Entering.{Entering}
use Rattle.symbol_table.specs.Definitions.{Definition, decl_of, definition_at, detail_around, is_prelude}
use Rattle.symbol_table.specs.Found.{owner_steps, kinds_named}
use Rattle.symbol_table.specs.Items.{tree_qualifiers, is_live_site}
use Rattle.symbol_table.specs.Owners.{in_earlier_sources, symbol_at, defines_at, is_misplaced, has_owner, are_live, owner_of, defines}
use Rattle.symbol_table.specs.Problems.{site_problems, double}
use Rattle.symbol_table.specs.Sites.{Kid, Site, kid_after, kid_sites_of, sites_from}
use Rattle.symbol_table.specs.Symbols.{symbol_in, stands_wrongly, space_of, is_same_space, is_def, is_package, flags_in}

-- ---- where the walk is

-- What is so of a place directly in a tree of this kind and detail: the number is that of the innermost of these, each of them
-- defines a symbol, and none is refused.
pub record IsAt (roots : List Tree) (file : ℕ) (owner : Option ℕ) (kind : TreeKind) (parts : Detail) (around : List Kid) (found : List Found) : Type 0 where
  pub path : owner_steps found owner ≡ owner_of roots file around
  pub symbols : (tree : Tree) → symbol_at tree around ≡ symbol_in kind tree
  pub wrong : (tree : Tree) → is_misplaced tree around ≡ stands_wrongly kind (out-Tree tree).kind
  pub detail : detail_around around ≡ parts
  pub owned : has_owner around ≡ true
  pub live : are_live roots file around ≡ true

-- Nothing in a tree defines a symbol or is refused, itself neither, and nor is what stands around it.
pub record IsQuiet (roots : List Tree) (file : ℕ) (kid : Kid) (around : List Kid) : Type 0 where
  pub quiet : (has_owner around && (defines_at kid.tree around || is_misplaced kid.tree around)) ≡ false
  pub live : are_live roots file (kid ∷ around) ≡ true

-- ---- names

-- those of the trees that define a symbol of this name in the space of this kind, by their kinds
abbrev pub kinds_of : List Kid → SymKind → List ℕ → List Tree → List SymKind
kinds_of around kind name trees = map (λ tree. symbol_at tree around)
    (filter (λ tree. defines_at tree around && bytes_eq (out-Tree tree).label name && is_same_space (space_of (symbol_at tree around)) (space_of kind)) trees)

-- of some definitions of one name those that are no second ones
abbrev pub admitted : List SymKind → List SymKind
admitted [] = []
admitted (first ∷ others) = first ∷ (if is_def first then filter is_def others else [])

-- the definitions so far say what these trees define, of which this is the owner
pub record Knows (found : List Found) (owner : Option ℕ) (around : List Kid) (trees : List Tree) : Type 0 where
  pub each : (kind : SymKind) (name : List ℕ) → is_package kind ≡ false → kinds_named found owner kind name ≡ admitted (kinds_of around kind name trees)

-- ---- what one tree comes to

abbrev pub standing_of : ℕ → Detail → Tree → Standing
standing_of file parts tree = record {
  file = file;
  node = (out-Tree tree).id;
  label_span = (out-Tree tree).label_span;
  flags = flags_in (is_prelude file) parts (out-Tree tree).detail;
}

-- a second definition has no number
abbrev pub told_of : Option ℕ → Tree → List Problem
told_of None tree = double (out-Tree tree).label_span (out-Tree tree).label ∷ []
told_of (Some number) tree = []

-- ---- what is entered

abbrev pub new_definitions : List Tree → List Site → List Definition
new_definitions roots sites = map (definition_at roots) (filter (defines roots) sites)

abbrev pub decls_of : List Found → List Decl
decls_of found = map (λ d. d.decl) found

abbrev pub site_qualifiers : Bytes → Site → List Item
site_qualifiers name site = tree_qualifiers name site.kid.tree

-- These sites are entered, in a source of this name, where what they define directly has this owner.
pub record Enters (roots : List Tree) (name : Bytes) (owner : Option ℕ) (old new : Entering) (sites : List Site) : Type 0 where
  pub more : List Found
  pub found : new.definitions.found.items ≡ old.definitions.found.items ++ more
  pub decls : decls_of more ≡ map decl_of (new_definitions roots sites)
  pub qualifiers : new.qualifiers ≡ old.qualifiers ++ flat_map (site_qualifiers name) (filter (is_live_site roots) sites)
  pub told : new.told ≡ old.told ++ flat_map (site_problems roots) sites
  -- no other owner owns more, but for those that are new
  pub owners : All (λ d. (d.owner ≡ owner) ⊎ IsSomeAnd d.owner (λ number. length old.definitions.found.items ≤ number)) more

-- What entering a tree does, wherever it stands directly in a tree of this kind and detail, whose symbol has this number: its
-- sites are entered, and what it defines is known after what stands before it.
abbrev pub EntersKid : ℕ → Bytes → Option ℕ → TreeKind → Detail → Tree → Entering → Entering → Type 0
EntersKid file name owner kind parts kid old new = (roots before : List Tree) (outer : List Kid)
    → IsAt roots file owner kind parts outer old.definitions.found.items
    → Knows old.definitions.found.items owner outer (in_earlier_sources roots file outer ++ before)
    → Enters roots name owner old new (sites_from file kid before outer)
    × Knows new.definitions.found.items owner outer (in_earlier_sources roots file outer ++ (before ++ kid ∷ []))

-- The same of all kids of a tree that counts as one of this kind.
abbrev pub EntersKids : ℕ → Bytes → Option ℕ → TreeKind → Tree → Entering → Entering → Type 0
EntersKids file name owner kind tree old new = (roots before : List Tree) (outer : List Kid)
    → IsAt roots file owner kind (out-Tree tree).detail (kid_after tree before ∷ outer) old.definitions.found.items
    → Knows old.definitions.found.items owner (kid_after tree before ∷ outer) (in_earlier_sources roots file (kid_after tree before ∷ outer))
    → Enters roots name owner old new (kid_sites_of file (kid_after tree before) outer)
    × Knows new.definitions.found.items owner (kid_after tree before ∷ outer) (in_earlier_sources roots file (kid_after tree before ∷ outer) ++ (out-Tree tree).kids)
