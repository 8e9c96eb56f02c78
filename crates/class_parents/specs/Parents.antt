-- The parents of a class as they are followed.
use Rattle.std.specs.Prelude.{ℕ, zero, suc, Bool, if◌then◌else◌, List, [], ◌∷◌, ◌++◌, codes, filter, Option, None, Some, is_some}
use Rattle.std.specs.List.{list_any, flat_map}
use Rattle.item_questions.specs.Questions.{Gives, Ends, bind}
use Rattle.pc_terms.specs.declared.items.Item.TheVariants as item
use Rattle.pc_terms.specs.declared.symbols.SymKind.{SymKind}
use Rattle.pc_terms.specs.declared.symbols.SymKind.TheVariants as kind
use Rattle.pc_terms.specs.declared.symbols.SymPath.{SymPath}
use Rattle.pc_terms.specs.declared.symbols.SymStep.{SymStep}
use Rattle.pc_terms.specs.declared.types.Ty.{Ty}
use Rattle.pc_terms.specs.declared.types.Ty.TheOpen as layer
use Rattle.pc_terms.specs.declared.types.Ty.TheOpen.{Ty-F}
use Rattle.pc_terms.specs.declared.types.Ty.TheVariants as type
use Rattle.pc_terms.specs.declared.types.Ty.TheViews.{out-Ty}
use Rattle.pc_terms.specs.declared.types.Formal.{Formal}
use Rattle.type_substitution.specs.Substitution.{path_eq}
use Rattle.item_answers.specs.Asking.{Asking, parents_of}

-- ---- the outermost classes

abbrev pub own_step : SymKind → List ℕ → SymStep
own_step kind name = record { kind = kind; name = name; ordinal = 0 }

-- a class of the package `scala`
abbrev pub scala_class : List ℕ → SymPath
scala_class name = record { steps = own_step kind.Package (codes "scala") ∷ own_step kind.Class name ∷ [] }

abbrev pub any_ref : SymPath
any_ref = scala_class (codes "AnyRef")

abbrev pub any : SymPath
any = scala_class (codes "Any")

abbrev pub plain_class : SymPath → Ty
plain_class path = type.Class path []

-- ---- types as parents

abbrev pub is_in : SymPath → List SymPath → Bool
is_in path paths = list_any (path_eq path) paths

abbrev pub class_in : Ty-F Ty Formal → Option SymPath
class_in (layer.Class path args) = Some path
class_in _ = None

-- the class of a class type
abbrev pub class_of : Ty → Option SymPath
class_of ty = class_in (out-Ty ty)

abbrev pub listed : Option SymPath → List SymPath
listed None = []
listed (Some path) = path ∷ []

-- the classes of those that are class types, in order
abbrev pub classes_of : List Ty → List SymPath
classes_of types = flat_map (λ ty. listed (class_of ty)) types

-- A parent that is no class type is followed by nothing.
abbrev pub class_types : List Ty → List Ty
class_types types = filter (λ ty. is_some (class_of ty)) types

-- ---- where parents lead

-- No rule takes more steps; one that would comes to no end.
abbrev pub max_steps : ℕ
max_steps = 4294967295

abbrev pub endless : {A : Type 0} → Asking A
endless = Ends (item.Parents (record { steps = [] }))

-- The classes to which these lead by their parents, these among them: depth first, each once, after those seen before. Each
-- class that is found takes a step, the first time and again.
unfoldable pub reached : ℕ → List SymPath → List SymPath → Asking (List SymPath)
reached zero todo seen = endless
reached (suc n) [] seen = Gives seen
reached (suc n) (class ∷ todo) seen =
    if is_in class seen then reached n todo seen
    else bind (parents_of class) (λ types. reached n (classes_of types ++ todo) (seen ++ class ∷ []))

-- The parents of a class, as they are followed: those that are written; but a class that reaches itself by parents has the
-- parent AnyRef instead. Whether it does is known once the parents of all that it reaches are known.
abbrev pub followed : SymPath → Asking (List Ty)
followed class = bind (parents_of class) (λ types. bind (reached max_steps (classes_of types) [])
    (λ seen. Gives (if is_in class seen then plain_class any_ref ∷ [] else class_types types)))
