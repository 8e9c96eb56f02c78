-- Equality of types, constructor by constructor.
use Rattle.std.proofs.Common.{◌≡◌, Bool, ◌&&◌, List, map, sym, ap, ◌∙◌}
use Rattle.pc_terms.specs.declared.symbols.SymPath.{SymPath}
use Rattle.pc_terms.specs.declared.types.Formal.{Formal, out-Formal}
use Rattle.pc_terms.specs.declared.types.Ty.{Ty}
use Rattle.pc_terms.specs.declared.types.Ty.TheFolds.{fold-roll-Ty, fold_out-Formal}
use Rattle.pc_terms.specs.declared.types.Ty.TheOpen as layer
use Rattle.pc_terms.specs.declared.types.Ty.TheVariants.{Class, Param, Module, Package, Method, Poly, Error, rolls-Class, rolls-Param, rolls-Module, rolls-Package, rolls-Method, rolls-Poly, rolls-Error}
use Rattle.pc_terms.specs.declared.types.Ty.TheViews.{out-Ty}
use Rattle.type_members.specs.Types.{is_same_type, is_same_formal, same_step, same_formal_step, is_class_type, is_param_type, is_module_type, is_package_type, takes, returns, is_poly_type, is_error_type, is_bool}

pub same-Class : (path : SymPath) (types : List Ty) (other : Ty) → is_same_type (Class path types) other ≡ is_class_type path (map is_same_type types) (out-Ty other)
unfolding is_same_type
same-Class path types other =
    ap (λ f. f other) (ap is_same_type (sym (rolls-Class path types)) ∙ fold-roll-Ty (Ty → Bool) (Formal → Bool) same_step same_formal_step (layer.Class path types))

pub same-Param : (path : SymPath) (other : Ty) → is_same_type (Param path) other ≡ is_param_type path (out-Ty other)
unfolding is_same_type
same-Param path other =
    ap (λ f. f other) (ap is_same_type (sym (rolls-Param path)) ∙ fold-roll-Ty (Ty → Bool) (Formal → Bool) same_step same_formal_step (layer.Param path))

pub same-Module : (path : SymPath) (other : Ty) → is_same_type (Module path) other ≡ is_module_type path (out-Ty other)
unfolding is_same_type
same-Module path other =
    ap (λ f. f other) (ap is_same_type (sym (rolls-Module path)) ∙ fold-roll-Ty (Ty → Bool) (Formal → Bool) same_step same_formal_step (layer.Module path))

pub same-Package : (path : SymPath) (other : Ty) → is_same_type (Package path) other ≡ is_package_type path (out-Ty other)
unfolding is_same_type
same-Package path other =
    ap (λ f. f other) (ap is_same_type (sym (rolls-Package path)) ∙ fold-roll-Ty (Ty → Bool) (Formal → Bool) same_step same_formal_step (layer.Package path))

pub same-Method : (formals : List Formal) (gives other : Ty) → is_same_type (Method formals gives) other
    ≡ (takes (map is_same_formal formals) (out-Ty other) && returns (is_same_type gives) (out-Ty other))
unfolding is_same_type is_same_formal
same-Method formals gives other =
    ap (λ f. f other) (ap is_same_type (sym (rolls-Method formals gives)) ∙ fold-roll-Ty (Ty → Bool) (Formal → Bool) same_step same_formal_step (layer.Method formals gives))

pub same-Poly : (params : List SymPath) (rest other : Ty) → is_same_type (Poly params rest) other ≡ is_poly_type params (is_same_type rest) (out-Ty other)
unfolding is_same_type
same-Poly params rest other =
    ap (λ f. f other) (ap is_same_type (sym (rolls-Poly params rest)) ∙ fold-roll-Ty (Ty → Bool) (Formal → Bool) same_step same_formal_step (layer.Poly params rest))

pub same-Error : (other : Ty) → is_same_type Error other ≡ is_error_type (out-Ty other)
unfolding is_same_type
same-Error other =
    ap (λ f. f other) (ap is_same_type (sym rolls-Error) ∙ fold-roll-Ty (Ty → Bool) (Formal → Bool) same_step same_formal_step layer.Error)

pub same_formal-out : (formal other : Formal) → is_same_formal formal other
    ≡ (is_same_type (out-Formal formal).ty (out-Formal other).ty && is_bool (out-Formal formal).repeated (out-Formal other).repeated)
unfolding is_same_type is_same_formal
same_formal-out formal other = ap (λ f. f other) (fold_out-Formal (Ty → Bool) (Formal → Bool) same_step same_formal_step formal)

pub ruleset same_types = (same-Class, same-Param, same-Module, same-Package, same-Method, same-Poly, same-Error, same_formal-out)
