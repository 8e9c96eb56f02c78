-- Base types: a type seen as one of a class that it is derived from (SLS 3.4).
use Rattle.std.specs.Prelude.{ℕ, zero, suc, if◌then◌else◌, List, [], ◌∷◌, ◌++◌, map, Option, None, Some, slice_get}
use Rattle.item_questions.specs.Questions.{Gives, bind}
use Rattle.pc_terms.specs.declared.symbols.SymPath.{SymPath}
use Rattle.pc_terms.specs.declared.types.Formal.{Formal}
use Rattle.pc_terms.specs.declared.types.Sig.{Sig}
use Rattle.pc_terms.specs.declared.types.TParam.{TParam}
use Rattle.pc_terms.specs.declared.types.Ty.{Ty}
use Rattle.pc_terms.specs.declared.types.Ty.TheOpen as layer
use Rattle.pc_terms.specs.declared.types.Ty.TheOpen.{Ty-F}
use Rattle.pc_terms.specs.declared.types.Ty.TheViews.{out-Ty}
use Rattle.type_substitution.specs.Substitution.{path_eq, substituted}
use Rattle.item_answers.specs.Asking.{Asking, signature_of}
use Rattle.class_parents.specs.Parents.{any, is_in, plain_class, max_steps, endless, followed}

-- ---- bounds

abbrev pub first_bound : Option TParam → Ty
first_bound None = plain_class any
first_bound (Some parameter) = parameter.upper

-- the upper bound in the signature of a type parameter, which has itself as its one type parameter
abbrev pub upper_bound : Sig → Ty
upper_bound signature = first_bound (slice_get signature.tparams 0)

abbrev pub param_in : Ty-F Ty Formal → Option SymPath
param_in (layer.Param path) = Some path
param_in _ = None

abbrev pub param_of : Ty → Option SymPath
param_of ty = param_in (out-Ty ty)

-- the bound of this type, where it is this type parameter; what goes on asks for the bound of that
abbrev pub bound_by : (List SymPath → Ty → Asking Ty) → List SymPath → Ty → Option SymPath → Asking Ty
bound_by go_on seen ty None = Gives ty
bound_by go_on seen ty (Some path) =
    if is_in path seen then Gives (plain_class any)
    else bind (signature_of path) (λ signature. go_on (seen ++ path ∷ []) (upper_bound signature))

-- The type itself where it is no type parameter; else that of its upper bound. A type parameter that is met again reaches
-- itself by upper bounds alone, and is bounded by Any.
unfoldable pub bounded : ℕ → List SymPath → Ty → Asking Ty
bounded zero seen ty = endless
bounded (suc n) seen ty = bound_by (bounded n) seen ty (param_of ty)

abbrev pub upper : Ty → Asking Ty
upper ty = bounded max_steps [] ty

-- ---- following parents

-- the class of a class type, or an object's own
abbrev pub template_in : Ty-F Ty Formal → Option SymPath
template_in (layer.Class path args) = Some path
template_in (layer.Module path) = Some path
template_in _ = None

abbrev pub template_of : Ty → Option SymPath
template_of ty = template_in (out-Ty ty)

abbrev pub args_in : Ty-F Ty Formal → List Ty
args_in (layer.Class path args) = args
args_in _ = []

abbrev pub args_of : Ty → List Ty
args_of ty = args_in (out-Ty ty)

abbrev pub paths_of : List TParam → List SymPath
paths_of params = map (λ param. param.path) params

-- These with the arguments of a class in the places of its type parameters. Its signature is asked for where there are any.
abbrev pub with_args : SymPath → List Ty → List Ty → Asking (List Ty)
with_args class [] types = Gives types
with_args class (arg ∷ args) types =
    bind (signature_of class) (λ signature. Gives (map (substituted (paths_of signature.tparams) (arg ∷ args)) types))

-- the parents of a type of this class, as they are followed
abbrev pub parents_as : SymPath → Ty → Asking (List Ty)
parents_as class ty = bind (followed class) (λ types. with_args class (args_of ty) types)

-- ---- base types

-- what comes of the first of these, which is a type of this class, where it is not the one that is looked for
abbrev pub searched_at : (List Ty → List SymPath → Asking (Option Ty)) → SymPath → Ty → List Ty → List SymPath → Option SymPath → Asking (Option Ty)
searched_at go_on class ty todo seen None = go_on todo seen
searched_at go_on class ty todo seen (Some own) =
    if path_eq own class then Gives (Some ty)
    else (if is_in own seen then go_on todo seen
    else bind (parents_as own ty) (λ types. go_on (types ++ todo) (seen ++ own ∷ [])))

-- The first type of this class to which these lead by their parents: depth first and from left to right. The parents of each
-- class are followed once.
unfoldable pub searched : ℕ → SymPath → List Ty → List SymPath → Asking (Option Ty)
searched zero class todo seen = endless
searched (suc n) class [] seen = Gives None
searched (suc n) class (ty ∷ todo) seen = searched_at (searched n class) class ty todo seen (template_of ty)

-- The base type of a type at a class: that of its upper bound where it is a type parameter; none where the class is no base
-- class of it.
abbrev pub base_type : Ty → SymPath → Asking (Option Ty)
base_type ty class = bind (upper ty) (λ bound. searched max_steps class (bound ∷ []) [])
