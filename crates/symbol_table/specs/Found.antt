-- The definitions that are found while sources are entered, by their numbers and by their names.
use Rattle.std.specs.Prelude.{◌≡◌, ℕ, ◌+◌, ◌<◌, ◌==◌, Bool, true, false, ◌&&◌, if◌then◌else◌, List, [], ◌∷◌, ◌++◌, length, map, take, filter, count_by, slice_get, slice_index_or, option_and_then, Option, Some, None, IfSome}
use Rattle.std.specs.Str.{bytes_eq}
use Rattle.pc_terms.specs.Show.{last_step}
use Rattle.pc_terms.specs.declared.items.Item.{Item}
use Rattle.pc_terms.specs.declared.symbols.SymKind.{SymKind}
use Rattle.pc_terms.specs.declared.symbols.SymKind.TheVariants as symbol
use Rattle.pc_terms.specs.declared.symbols.SymPath.{SymPath}
use Rattle.pc_terms.specs.declared.symbols.SymStep.{SymStep}
use Rattle.symbol_table.specs.declared.definitions.Definitions.{Definitions}
use Rattle.symbol_table.specs.declared.definitions.Found.{Found}
use Rattle.symbol_table.specs.declared.definitions.Standing.{Standing}
use Rattle.symbol_table.specs.declared.name_spaces.NameSpace.{NameSpace}
use Rattle.symbol_table.specs.declared.owned_names.OwnedName.{OwnedName}
use Rattle.symbol_table.specs.declared.owned_names.Seen.{Seen}
use Rattle.symbol_table.specs.Items.{items_by}
use Rattle.symbol_table.specs.Names.{seen}
use Rattle.symbol_table.specs.Owners.{path_of, may_follow, ordinal_after}
use Rattle.symbol_table.specs.Symbols.{is_def, is_same_space, space_of}

-- ---- by number

abbrev pub steps_of : Option Found → List SymStep
steps_of None = []
steps_of (Some found) = found.decl.path.steps

-- the path of the definition of this number; the root has no step
abbrev pub owner_steps : List Found → Option ℕ → List SymStep
owner_steps found owner = steps_of (option_and_then (λ number. slice_get found number) owner)

-- the root, or one of these definitions
abbrev pub IsOwner : List Found → Option ℕ → Type 0
IsOwner found owner = IfSome owner (λ number. number < length found)

-- the path of a step that this one owns
abbrev pub path_below : List Found → Option ℕ → SymStep → SymPath
path_below found owner own = path_of (owner_steps found owner ++ own ∷ [])

abbrev pub found_as : List Found → ℕ → Option ℕ → SymStep → Standing → Found
found_as found number owner own standing = record {
  number = number;
  owner = owner;
  decl = record {
    path = path_below found owner own;
    file = standing.file;
    node = standing.node;
    label_span = standing.label_span;
    flags = standing.flags;
  };
}

-- ---- by name

-- the root comes before all others
abbrev pub owner_rank : Option ℕ → ℕ
owner_rank None = 0
owner_rank (Some number) = number + 1

abbrev pub is_owned : Option ℕ → Found → Bool
is_owned owner found = owner_rank found.owner == owner_rank owner

abbrev pub has_name : NameSpace → List ℕ → Option SymStep → Bool
has_name space name None = false
has_name space name (Some own) = bytes_eq own.name name && is_same_space (space_of own.kind) space

-- a definition of this name and space of this owner
abbrev pub is_named : Option ℕ → NameSpace → List ℕ → Found → Bool
is_named owner space name found = is_owned owner found && has_name space name (last_step found.decl.path.steps)

abbrev pub all_named : List Found → Option ℕ → NameSpace → List ℕ → List Found
all_named found owner space name = filter (is_named owner space name) found

abbrev pub kind_in : Option SymStep → SymKind
kind_in None = symbol.Local
kind_in (Some own) = own.kind

abbrev pub kind_of : Found → SymKind
kind_of found = kind_in (last_step found.decl.path.steps)

-- what is to be seen of these under their name
abbrev pub seen_of : List Found → Option Seen
seen_of [] = None
seen_of (first ∷ others) = Some (record {
  kind = kind_of first;
  number = first.number;
  methods = count_by is_def (map kind_of (first ∷ others));
})

abbrev pub seen_under : List Found → Option ℕ → NameSpace → List ℕ → Option Seen
seen_under found owner space name = seen_of (all_named found owner space name)

-- ---- a further definition

-- the kinds of the definitions of this name and owner, and of the space of this kind
abbrev pub kinds_named : List Found → Option ℕ → SymKind → List ℕ → List SymKind
kinds_named found owner kind name = map kind_of (all_named found owner (space_of kind) name)

abbrev pub is_admitted : List Found → Option ℕ → SymKind → List ℕ → Bool
is_admitted found owner kind name = may_follow (kinds_named found owner kind name) kind

abbrev pub own_step : List Found → Option ℕ → SymKind → List ℕ → SymStep
own_step found owner kind name = record {
  kind = kind;
  name = name;
  ordinal = ordinal_after (kinds_named found owner kind name) kind;
}

-- a second definition has no number
abbrev pub number_for : List Found → Option ℕ → SymKind → List ℕ → Option ℕ
number_for found owner kind name = if is_admitted found owner kind name then Some (length found) else None

abbrev pub next_found : List Found → Option ℕ → SymKind → List ℕ → Standing → Found
next_found found owner kind name standing = found_as found (length found) owner (own_step found owner kind name) standing

-- a definition is added after the others, unless it is a second one
abbrev pub defined : List Found → Option ℕ → SymKind → List ℕ → Standing → List Found
defined found owner kind name standing =
    if is_admitted found owner kind name then found ++ next_found found owner kind name standing ∷ [] else found

-- ---- what is kept

-- a definition that was added after these
pub record IsNext (before : List Found) (found : Found) : Type 0 where
  pub owner : Option ℕ
  pub kind : SymKind
  pub name : List ℕ
  pub standing : Standing
  pub owned : IsOwner before owner
  pub admitted : is_admitted before owner kind name ≡ true
  pub is : found ≡ next_found before owner kind name standing

-- each definition was added after those before it
pub record AreNext (found : List Found) : Type 0 where
  pub each : (at : ℕ) (d : Found) → at < length found → IsNext (take at found) (slice_index_or found at d)

-- a path is that of one definition, or of the root
pub record ArePathsApart (found : List Found) : Type 0 where
  pub each : (one other : Option ℕ) → IsOwner found one → IsOwner found other → owner_steps found one ≡ owner_steps found other → one ≡ other

-- And the names say of each name what stands under it.
pub record IsKept (definitions : Definitions) : Type 0 where
  pub next : AreNext definitions.found.items
  pub apart : ArePathsApart definitions.found.items
  pub indexed : (n : OwnedName) → seen definitions.names n ≡ seen_under definitions.found.items n.owner n.space n.name

-- ---- items

abbrev pub items_of_step : Option SymStep → SymPath → List Item
items_of_step None path = []
items_of_step (Some own) path = items_by own.kind path

abbrev pub found_items : Found → List Item
found_items found = items_of_step (last_step found.decl.path.steps) found.decl.path
