-- Types with other types in the place of their parameters.
use Rattle.std.specs.Prelude.{Bool, List, Option, slice_get, position, option_and_then, unwrap_or}
use Rattle.pc_terms.specs.contracts.symbols.SymPathPartialEq.TheImpl as derived
use Rattle.pc_terms.specs.declared.symbols.SymPath.{SymPath}
use Rattle.pc_terms.specs.declared.types.Formal.{Formal}
use Rattle.pc_terms.specs.declared.types.Ty.{Ty}
use Rattle.pc_terms.specs.declared.types.Ty.TheFolds.{fold-Ty, fold-Formal}
use Rattle.pc_terms.specs.declared.types.Ty.TheOpen as layer
use Rattle.pc_terms.specs.declared.types.Ty.TheOpen.{Ty-F}
use Rattle.pc_terms.specs.declared.types.Ty.TheVariants as type
use Rattle.pc_terms.specs.declared.types.Ty.TheViews.{roll-Ty, roll-Formal}

-- what `==` of two paths returns
abbrev pub path_eq : SymPath → SymPath → Bool
path_eq = (derived.ghosts).eq

-- the argument at the place of a parameter, where it is one of these and there is one
abbrev pub argument_of : List SymPath → List Ty → SymPath → Option Ty
argument_of params args path = option_and_then (λ place. slice_get args place) (position (λ param. path_eq param path) params)

-- what stands in the place of a parameter: its argument, or else itself
abbrev pub replaced : List SymPath → List Ty → SymPath → Ty
replaced params args path = unwrap_or (argument_of params args path) (type.Param path)

-- nothing but parameters is replaced
abbrev pub type_step : List SymPath → List Ty → Ty-F Ty Formal → Ty
type_step params args (layer.Param path) = replaced params args path
type_step params args other = roll-Ty other

-- A type with the arguments of these parameters in their places. It is plain: a parameter is one symbol wherever it stands,
-- so what binds parameters hides none.
unfoldable pub substituted : List SymPath → List Ty → Ty → Ty
substituted params args = fold-Ty Ty Formal (type_step params args) roll-Formal

-- the same of a method's parameter
unfoldable pub substituted_formal : List SymPath → List Ty → Formal → Formal
substituted_formal params args = fold-Formal Ty Formal (type_step params args) roll-Formal
