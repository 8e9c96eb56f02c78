-- A substitution, constructor by constructor.
use Rattle.std.proofs.Common.{◌≡◌, List, map, sym, ap, ◌∙◌}
use Rattle.type_substitution.specs.Substitution.{substituted, substituted_formal, replaced, type_step}
use Rattle.pc_terms.specs.declared.symbols.SymPath.{SymPath}
use Rattle.pc_terms.specs.declared.types.Ty.{Ty}
use Rattle.pc_terms.specs.declared.types.Formal.{Formal, out-Formal}
use Rattle.pc_terms.specs.declared.types.Ty.TheOpen as layer
use Rattle.pc_terms.specs.declared.types.Ty.TheViews.{roll-Formal}
use Rattle.pc_terms.specs.declared.types.Ty.TheVariants.{Class, Param, Module, Package, Method, Poly, Error, rolls-Class, rolls-Param, rolls-Module, rolls-Package, rolls-Method, rolls-Poly, rolls-Error}
use Rattle.pc_terms.specs.declared.types.Ty.TheFolds.{fold-roll-Ty, fold_out-Formal}

pub substituted-Class : (params : List SymPath) (args : List Ty) (path : SymPath) (types : List Ty) → substituted params args (Class path types) ≡ Class path (map (substituted params args) types)
unfolding substituted
substituted-Class params args path types =
    ap (substituted params args) (sym (rolls-Class path types)) ∙ fold-roll-Ty Ty Formal (type_step params args) roll-Formal (layer.Class path types)
    ∙ rolls-Class path (map (substituted params args) types)

pub substituted-Param : (params : List SymPath) (args : List Ty) (path : SymPath) → substituted params args (Param path) ≡ replaced params args path
unfolding substituted
substituted-Param params args path =
    ap (substituted params args) (sym (rolls-Param path)) ∙ fold-roll-Ty Ty Formal (type_step params args) roll-Formal (layer.Param path)

pub substituted-Module : (params : List SymPath) (args : List Ty) (path : SymPath) → substituted params args (Module path) ≡ Module path
unfolding substituted
substituted-Module params args path =
    ap (substituted params args) (sym (rolls-Module path)) ∙ fold-roll-Ty Ty Formal (type_step params args) roll-Formal (layer.Module path)
    ∙ rolls-Module path

pub substituted-Package : (params : List SymPath) (args : List Ty) (path : SymPath) → substituted params args (Package path) ≡ Package path
unfolding substituted
substituted-Package params args path =
    ap (substituted params args) (sym (rolls-Package path)) ∙ fold-roll-Ty Ty Formal (type_step params args) roll-Formal (layer.Package path)
    ∙ rolls-Package path

pub substituted-Method : (params : List SymPath) (args : List Ty) (formals : List Formal) (gives : Ty) → substituted params args (Method formals gives) ≡ Method (map (substituted_formal params args) formals) (substituted params args gives)
unfolding substituted substituted_formal
substituted-Method params args formals gives =
    ap (substituted params args) (sym (rolls-Method formals gives)) ∙ fold-roll-Ty Ty Formal (type_step params args) roll-Formal (layer.Method formals gives)
    ∙ rolls-Method (map (substituted_formal params args) formals) (substituted params args gives)

pub substituted-Poly : (params : List SymPath) (args : List Ty) (bound : List SymPath) (rest : Ty) → substituted params args (Poly bound rest) ≡ Poly bound (substituted params args rest)
unfolding substituted
substituted-Poly params args bound rest =
    ap (substituted params args) (sym (rolls-Poly bound rest)) ∙ fold-roll-Ty Ty Formal (type_step params args) roll-Formal (layer.Poly bound rest)
    ∙ rolls-Poly bound (substituted params args rest)

pub substituted-Error : (params : List SymPath) (args : List Ty) → substituted params args Error ≡ Error
unfolding substituted
substituted-Error params args = ap (substituted params args) (sym rolls-Error) ∙ fold-roll-Ty Ty Formal (type_step params args) roll-Formal layer.Error ∙ rolls-Error

pub substituted_formal-out : (params : List SymPath) (args : List Ty) (formal : Formal) → substituted_formal params args formal
    ≡ roll-Formal (record { name = (out-Formal formal).name; ty = substituted params args (out-Formal formal).ty; repeated = (out-Formal formal).repeated })
unfolding substituted substituted_formal
substituted_formal-out params args formal = fold_out-Formal Ty Formal (type_step params args) roll-Formal formal

pub ruleset substitutions = (substituted-Class, substituted-Param, substituted-Module, substituted-Package, substituted-Method, substituted-Poly, substituted-Error, substituted_formal-out)
