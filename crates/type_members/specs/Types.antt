-- Types of members: whether two are equal, and their lists of parameters.
use Rattle.std.specs.Prelude.{ℕ, zero, suc, Bool, true, false, ◌&&◌, List, [], ◌∷◌, length, ◌==◌, map, filter}
use Rattle.std.specs.Cmp.Lexicographic.{pointwise}
use Rattle.pc_terms.specs.declared.symbols.SymPath.{SymPath}
use Rattle.pc_terms.specs.declared.types.Formal.{Formal}
use Rattle.pc_terms.specs.declared.types.Ty.{Ty}
use Rattle.pc_terms.specs.declared.types.Ty.TheFolds.{fold-Ty, fold-Formal}
use Rattle.pc_terms.specs.declared.types.Ty.TheOpen as layer
use Rattle.pc_terms.specs.declared.types.Ty.TheOpen.{Ty-F, Formal-F}
use Rattle.pc_terms.specs.declared.types.Ty.TheViews.{out-Ty, out-Formal}
use Rattle.type_substitution.specs.Substitution.{path_eq}

-- ---- equal types

-- as many as there are tests, each of which passes its own
abbrev pub all_pass : {X : Type 0} → List (X → Bool) → List X → Bool
all_pass [] [] = true
all_pass (test ∷ tests) (x ∷ xs) = test x && all_pass tests xs
all_pass _ _ = false

abbrev pub is_bool : Bool → Bool → Bool
is_bool true other = other
is_bool false true = false
is_bool false false = true

abbrev pub is_class_type : SymPath → List (Ty → Bool) → Ty-F Ty Formal → Bool
is_class_type path tests (layer.Class other types) = path_eq path other && all_pass tests types
is_class_type path tests _ = false

abbrev pub is_param_type : SymPath → Ty-F Ty Formal → Bool
is_param_type path (layer.Param other) = path_eq path other
is_param_type path _ = false

abbrev pub is_module_type : SymPath → Ty-F Ty Formal → Bool
is_module_type path (layer.Module other) = path_eq path other
is_module_type path _ = false

abbrev pub is_package_type : SymPath → Ty-F Ty Formal → Bool
is_package_type path (layer.Package other) = path_eq path other
is_package_type path _ = false

abbrev pub takes : List (Formal → Bool) → Ty-F Ty Formal → Bool
takes tests (layer.Method formals result) = all_pass tests formals
takes tests _ = false

abbrev pub returns : (Ty → Bool) → Ty-F Ty Formal → Bool
returns rest (layer.Method formals result) = rest result
returns rest _ = false

abbrev pub is_poly_type : List SymPath → (Ty → Bool) → Ty-F Ty Formal → Bool
is_poly_type params rest (layer.Poly others ty) = pointwise path_eq params others && rest ty
is_poly_type params rest _ = false

abbrev pub is_error_type : Ty-F Ty Formal → Bool
is_error_type layer.Error = true
is_error_type _ = false

abbrev pub same_step : Ty-F (Ty → Bool) (Formal → Bool) → Ty → Bool
same_step (layer.Class path tests) other = is_class_type path tests (out-Ty other)
same_step (layer.Param path) other = is_param_type path (out-Ty other)
same_step (layer.Module path) other = is_module_type path (out-Ty other)
same_step (layer.Package path) other = is_package_type path (out-Ty other)
same_step (layer.Method tests rest) other = takes tests (out-Ty other) && returns rest (out-Ty other)
same_step (layer.Poly params rest) other = is_poly_type params rest (out-Ty other)
same_step layer.Error other = is_error_type (out-Ty other)

-- the names of parameters say nothing of a type
abbrev pub same_formal_step : Formal-F (Ty → Bool) (Formal → Bool) → Formal → Bool
same_formal_step formal other = formal.ty (out-Formal other).ty && is_bool formal.repeated (out-Formal other).repeated

-- Two types are equal: built in the same way of the same symbols.
unfoldable pub is_same_type : Ty → Ty → Bool
is_same_type = fold-Ty (Ty → Bool) (Formal → Bool) same_step same_formal_step

unfoldable pub is_same_formal : Formal → Formal → Bool
is_same_formal = fold-Formal (Ty → Bool) (Formal → Bool) same_step same_formal_step

-- ---- parameters

-- how many lists of parameters and of type parameters stand behind one another in a type
abbrev pub layers_step : Ty-F ℕ ℕ → ℕ
layers_step (layer.Method formals below) = suc below
layers_step (layer.Poly params below) = suc below
layers_step _ = zero

abbrev pub no_layers : Formal-F ℕ ℕ → ℕ
no_layers formal = zero

unfoldable pub layers : Ty → ℕ
layers = fold-Ty ℕ ℕ layers_step no_layers

abbrev pub lists_in : (Ty → List (List Formal)) → Ty-F Ty Formal → List (List Formal)
lists_in go_on (layer.Method formals result) = formals ∷ go_on result
lists_in go_on (layer.Poly params rest) = go_on rest
lists_in go_on _ = []

abbrev pub lists_within : ℕ → Ty → List (List Formal)
lists_within zero ty = []
lists_within (suc n) ty = lists_in (lists_within n) (out-Ty ty)

-- the lists of parameters of a method, those of its result behind its own
unfoldable pub all_lists : Ty → List (List Formal)
all_lists ty = lists_within (layers ty) ty

abbrev pub has_some : {X : Type 0} → List X → Bool
has_some [] = false
has_some (x ∷ xs) = true

-- Lists without parameters do not count: `f()` and `f` both have no parameters.
abbrev pub parameter_lists : Ty → List (List Formal)
parameter_lists ty = filter has_some (all_lists ty)

abbrev pub params_in : Ty-F Ty Formal → List SymPath
params_in (layer.Poly params rest) = params
params_in _ = []

-- the type parameters of what is polymorphic
abbrev pub params_of : Ty → List SymPath
params_of ty = params_in (out-Ty ty)

abbrev pub are_as_many : List SymPath → List SymPath → Bool
are_as_many a b = length a == length b

-- parameters of the same types, in their order
abbrev pub are_same_formals : List Formal → List Formal → Bool
are_same_formals a b = all_pass (map is_same_formal a) b

abbrev pub are_same_lists : List (List Formal) → List (List Formal) → Bool
are_same_lists a b = all_pass (map are_same_formals a) b
