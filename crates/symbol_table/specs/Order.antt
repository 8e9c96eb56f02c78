-- The order in which definitions are listed, and what each owner owns in it.
use Rattle.std.specs.Prelude.{◌≡◌, ℕ, ◌<◌, nat_lt, true, false, List, length, filter, slice_index_or, Option, Some}
use Rattle.std.specs.Cmp.Lexicographic.{slice_cmp}
use Rattle.std.specs.List.Sorted.{IsPartitionPoint}
use Rattle.std.specs.Option.{option_cmp}
use Rattle.std.specs.Ordering.{nat_cmp, ordering_then}
use Rattle.std.specs.declared.cmp.Ordering.{Ordering}
use Rattle.pc_terms.specs.Show.{last_step}
use Rattle.pc_terms.specs.declared.symbols.SymStep.{SymStep}
use Rattle.symbol_table.specs.declared.decls.Decl.{Decl}
use Rattle.symbol_table.specs.declared.definitions.Found.{Found}
use Rattle.symbol_table.specs.declared.groups.Group.{Group}
use Rattle.symbol_table.specs.declared.name_spaces.NameSpace.{NameSpace}
use Rattle.symbol_table.specs.declared.name_spaces.NameSpace.TheVariants as space
use Rattle.symbol_table.specs.Found.{owner_rank, is_owned}
use Rattle.symbol_table.specs.Groups.{part}
use Rattle.symbol_table.specs.Symbols.{space_of}

-- ---- of what one owner owns

-- packages, which are looked up as terms, then the other terms, then types
abbrev pub space_rank : NameSpace → ℕ
space_rank space.Packages = 0
space_rank space.Terms = 1
space_rank space.Types = 2

-- by the bytes of the name, terms before types, then by ordinal
abbrev pub step_cmp : SymStep → SymStep → Ordering
step_cmp a b = ordering_then (slice_cmp nat_cmp a.name b.name)
    (ordering_then (nat_cmp (space_rank (space_of a.kind)) (space_rank (space_of b.kind))) (nat_cmp a.ordinal b.ordinal))

-- the same of the last steps of two definitions
abbrev pub decl_cmp : Decl → Decl → Ordering
decl_cmp a b = option_cmp step_cmp (last_step a.path.steps) (last_step b.path.steps)

-- ---- of all

-- what one owner owns stands together, each in its order
abbrev pub found_cmp : Found → Found → Ordering
found_cmp a b = ordering_then (nat_cmp (owner_rank a.owner) (owner_rank b.owner)) (decl_cmp a.decl b.decl)

-- this many of the definitions have an owner below this rank, and they come first
abbrev pub IsOwnedBelow : List Found → ℕ → ℕ → Type 0
IsOwnedBelow found rank count =
    IsPartitionPoint (λ d. nat_lt (owner_rank d.owner) rank ≡ true) (λ d. nat_lt (owner_rank d.owner) rank ≡ false) found count

abbrev pub owned_by : List Found → Option ℕ → List Found
owned_by found owner = filter (is_owned owner) found

-- for each definition what it owns
pub record AreGroups (found : List Found) (groups : List Group) : Type 0 where
  pub count : length groups ≡ length found
  pub each : (at : ℕ) (d : Found) (g : Group) → at < length found
      → part found (slice_index_or groups at g) ≡ owned_by found (Some (slice_index_or found at d).number)
