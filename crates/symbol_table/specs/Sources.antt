-- What the first of some sources come to, while these are entered one after the other.
use Rattle.std.specs.Prelude.{◌≡◌, ℕ, ◌+◌, ◌-◌, ◌==◌, Bool, false, not, ◌&&◌, List, [], ◌∷◌, length, map, take, filter, slice_get, unwrap_or, Some}
use Rattle.std.specs.List.{flat_map, range_with_len}
use Rattle.std.specs.Str.{bytes_eq}
use Rattle.pc_terms.specs.Show.{last_step}
use Rattle.pc_terms.specs.declared.items.Item.{Item}
use Rattle.pc_terms.specs.declared.problems.Problem.{Problem}
use Rattle.pc_terms.specs.declared.symbols.SymKind.{SymKind}
use Rattle.pc_terms.specs.declared.symbols.SymKind.TheVariants as symbol
use Rattle.pc_terms.specs.declared.symbols.SymStep.{SymStep}
use Rattle.positioned_trees.specs.declared.trees.Tree.{Tree}
use Rattle.symbol_table.specs.declared.decls.Decl.{Decl}
use Rattle.symbol_table.specs.declared.definitions.Found.{Found}
use Rattle.symbol_table.specs.declared.entering.AllEntered.{AllEntered}
use Rattle.symbol_table.specs.declared.walking.Entering.{Entering}
use Rattle.symbol_table.specs.Definitions.{Definition, new_among, opened_behind}
use Rattle.symbol_table.specs.Entering.{admitted, kinds_of, new_definitions}
use Rattle.symbol_table.specs.Items.{Source, roots_of, names_of, qualifiers_at, is_live_site}
use Rattle.symbol_table.specs.Found.{IsKept}
use Rattle.symbol_table.specs.Owners.{is_same_path, package_of, of_package_before}
use Rattle.symbol_table.specs.Problems.{site_problems}
use Rattle.symbol_table.specs.Sites.{Kid, Site, kid_after, all_sites, sites_behind}
use Rattle.symbol_table.specs.Symbols.{is_package, is_same_space, space_of}

-- ---- what is found, as definitions

abbrev pub no_step : SymStep
no_step = record { kind = symbol.Local; name = []; ordinal = 0 }

-- all but the last step
abbrev pub front : List SymStep → List SymStep
front steps = take (length steps - 1) steps

abbrev pub definition_in : Decl → Definition
definition_in decl = record {
  owner = front decl.path.steps;
  own = unwrap_or (last_step decl.path.steps) no_step;
  file = decl.file;
  node = decl.node;
  label_span = decl.label_span;
  flags = decl.flags;
}

abbrev pub definitions_in : List Found → List Definition
definitions_in found = map (λ d. definition_in d.decl) found

abbrev pub names_package : Definition → Bool
names_package d = is_package d.own.kind

abbrev pub is_no_package : Definition → Bool
is_no_package d = not (names_package d)

-- ---- what the sources before a position come to

abbrev pub sites_before : List Tree → ℕ → List Site
sites_before roots count = sites_behind 0 (take count roots)

abbrev pub packages_before : List Tree → ℕ → List Definition
packages_before roots count = new_among [] (opened_behind 0 (take count roots))

abbrev pub qualifiers_before : List Source → ℕ → List Item
qualifiers_before sources count =
    flat_map (qualifiers_at sources) (filter (is_live_site (roots_of sources)) (sites_before (roots_of sources) count))

-- what is told of the trees of the source at this position
abbrev pub told_in : List Tree → ℕ → List Problem
told_in roots file = flat_map (site_problems roots) (filter (λ site. site.file == file) (all_sites roots))

-- ---- what is known of names

abbrev pub is_named_below : List SymStep → SymKind → List ℕ → Definition → Bool
is_named_below owner kind name d =
    is_same_path d.owner owner && (bytes_eq d.own.name name && is_same_space (space_of d.own.kind) (space_of kind))

-- the kinds of the definitions of this name and owner, and of the space of this kind
abbrev pub kinds_below : List Definition → List SymStep → SymKind → List ℕ → List SymKind
kinds_below ds owner kind name = map (λ d. d.own.kind) (filter (is_named_below owner kind name) ds)

-- these say what these trees define, of which this is the owner
pub record KnowsBelow (ds : List Definition) (owner : List SymStep) (around : List Kid) (trees : List Tree) : Type 0 where
  pub each : (kind : SymKind) (name : List ℕ) → is_package kind ≡ false → kinds_below ds owner kind name ≡ admitted (kinds_of around kind name trees)

-- ---- the whole

-- The sources before this position are entered, and nothing else.
pub record HasEntered (sources : List Source) (count : ℕ) (found : List Found) (qualifiers : List Item) : Type 0 where
  pub packages : filter names_package (definitions_in found) ≡ packages_before (roots_of sources) count
  pub written : filter is_no_package (definitions_in found) ≡ new_definitions (roots_of sources) (sites_before (roots_of sources) count)
  pub imports : qualifiers ≡ qualifiers_before sources count
  -- what stands directly in a further source meets what stands in those of its package
  pub known : (root : Tree) → KnowsBelow (definitions_in found) (package_of root) (kid_after root [] ∷ []) (of_package_before (roots_of sources) count root)

-- What entering one source comes to, at whichever position it stands.
abbrev pub EntersSource : ℕ → Source → Entering → Entering → List Problem → Type 0
EntersSource file source old new problems = (sources : List Source) → slice_get sources file ≡ Some source
    → HasEntered sources file old.definitions.found.items old.qualifiers
    → HasEntered sources (file + 1) new.definitions.found.items new.qualifiers × (problems ≡ told_in (roots_of sources) file)

-- The sources before this position are entered, each with what is told of it.
pub record AreEntered (sources : List Source) (count : ℕ) (all : AllEntered) : Type 0 where
  pub kept : IsKept all.entering.definitions
  pub told : all.entering.told ≡ []
  pub names : all.names ≡ take count (names_of sources)
  pub problems : all.problems.items ≡ map (told_in (roots_of sources)) (range_with_len 0 count)
  pub entered : HasEntered sources count all.entering.definitions.found.items all.entering.qualifiers

-- One source more is entered.
abbrev pub AddsSource : Source → AllEntered → AllEntered → Type 0
AddsSource source old new = (sources : List Source) → slice_get sources (length old.names) ≡ Some source
    → AreEntered sources (length old.names) old → AreEntered sources (length old.names + 1) new
