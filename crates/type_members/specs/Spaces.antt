-- Names of members, and the name space in which each is named.
use Rattle.std.specs.Prelude.{ℕ, Bool, true, false, ◌&&◌, ◌||◌, if◌then◌else◌, List, Option, None, Some}
use Rattle.std.specs.Str.{bytes_eq}
use Rattle.pc_terms.specs.Show.{last_step, last_name, is_package as is_package_kind}
use Rattle.pc_terms.specs.declared.symbols.SymKind.{SymKind}
use Rattle.pc_terms.specs.declared.symbols.SymKind.TheVariants as symbol
use Rattle.pc_terms.specs.declared.symbols.SymPath.{SymPath}
use Rattle.pc_terms.specs.declared.symbols.SymStep.{SymStep}
use Rattle.type_members.specs.declared.members.Space.{Space}
use Rattle.type_members.specs.declared.members.Space.TheVariants as space

-- a class or a trait (SLS 5.3)
abbrev pub is_class_type : SymKind → Bool
is_class_type symbol.Class = true
is_class_type symbol.Trait = true
is_class_type _ = false

-- what stands for a type: an alias or a type parameter (SLS 4.3, 4.4)
abbrev pub is_named_type : SymKind → Bool
is_named_type symbol.Alias = true
is_named_type symbol.TypeParam = true
is_named_type _ = false

-- Terms and types are named apart (SLS 2); packages are named with the terms.
abbrev pub space_of : SymKind → Space
space_of kind = if is_class_type kind || is_named_type kind then space.Types else space.Terms

abbrev pub is_same_space : Space → Space → Bool
is_same_space space.Terms space.Terms = true
is_same_space space.Types space.Types = true
is_same_space _ _ = false

abbrev pub kind_in : Option SymStep → SymKind
kind_in None = symbol.Local
kind_in (Some own) = own.kind

-- the kind and the name of a symbol are those of its own step, the last one
abbrev pub kind_of : SymPath → SymKind
kind_of path = kind_in (last_step path.steps)

abbrev pub name_of : SymPath → List ℕ
name_of path = last_name path.steps

-- a symbol of this name in this space
abbrev pub is_named : List ℕ → Space → SymPath → Bool
is_named name in_space path = bytes_eq (name_of path) name && is_same_space (space_of (kind_of path)) in_space

abbrev pub is_package : SymPath → Bool
is_package path = is_package_kind (kind_of path)
