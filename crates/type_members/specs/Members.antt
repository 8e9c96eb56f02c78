-- The members of a type, as they are seen from it (SLS 5.1.3).
use Rattle.std.specs.Prelude.{Bool, true, false, not, ◌&&◌, if◌then◌else◌, List, [], ◌∷◌, ◌++◌, map, filter, Option, None, Some, fold}
use Rattle.std.specs.List.{list_any}
use Rattle.std.specs.Str.{bytes_eq}
use Rattle.base_types.specs.declared.flags.Flags.{Flags}
use Rattle.base_classes.specs.BaseTypes.{args_of, base_type, paths_of, template_in, upper}
use Rattle.class_parents.specs.Linearisation.{linearisation}
use Rattle.item_answers.specs.Asking.{Asking, each, signature_of}
use Rattle.item_questions.specs.Questions.{Gives, bind}
use Rattle.pc_terms.specs.declared.symbols.SymKind.{SymKind}
use Rattle.pc_terms.specs.declared.symbols.SymKind.TheVariants as symbol
use Rattle.pc_terms.specs.declared.symbols.SymPath.{SymPath}
use Rattle.pc_terms.specs.declared.types.Formal.{Formal}
use Rattle.pc_terms.specs.declared.types.Sig.{Sig}
use Rattle.pc_terms.specs.declared.types.Ty.{Ty}
use Rattle.pc_terms.specs.declared.types.Ty.TheOpen as layer
use Rattle.pc_terms.specs.declared.types.Ty.TheOpen.{Ty-F}
use Rattle.pc_terms.specs.declared.types.Ty.TheVariants as type
use Rattle.pc_terms.specs.declared.types.Ty.TheViews.{out-Ty}
use Rattle.type_substitution.specs.Substitution.{path_eq, substituted}
use Rattle.type_members.specs.Types.{params_of, parameter_lists, are_same_lists, are_as_many}
use Rattle.type_members.specs.Spaces.{is_same_space, space_of, kind_of, name_of, is_package}
use Rattle.type_members.specs.declared.members.Member.{Member}
use Rattle.type_members.specs.declared.offers.Offer.{Offer}
use Rattle.type_members.specs.declared.views.View.{View}

-- ---- definitions

-- what types ask of definitions: what each owner owns, in order, and the flags of each
pub record Declared : Type 0 where
  pub owned : SymPath → List SymPath
  pub flags : SymPath → Option Flags

abbrev pub declared : (SymPath → List SymPath) → (SymPath → Option Flags) → Declared
declared owned flags = record { owned = owned; flags = flags }

abbrev pub has_flag : (Flags → Bool) → Option Flags → Bool
has_flag flag None = false
has_flag flag (Some flags) = flag flags

abbrev pub is_private : Declared → SymPath → Bool
is_private declared path = has_flag (λ flags. flags.private_) (declared.flags path)

abbrev pub is_abstract : Declared → SymPath → Bool
is_abstract declared path = has_flag (λ flags. flags.abstract_) (declared.flags path)

abbrev pub is_param_kind : SymKind → Bool
is_param_kind symbol.TypeParam = true
is_param_kind _ = false

-- The members that a class defines are what it owns but its type parameters.
abbrev pub is_member : SymPath → Bool
is_member path = not (is_param_kind (kind_of path))

abbrev pub own_members : Declared → SymPath → List SymPath
own_members declared class = filter is_member (declared.owned class)

-- private members are not inherited (SLS 5.2)
abbrev pub is_inherited : Declared → SymPath → Bool
is_inherited declared path = is_member path && not (is_private declared path)

abbrev pub inheritable : Declared → SymPath → List SymPath
inheritable declared class = filter (is_inherited declared) (declared.owned class)

abbrev pub inherited_from : Declared → SymPath → Offer
inherited_from declared class = record { class = class; paths = inheritable declared class }

abbrev pub all_of : Declared → SymPath → Offer
all_of declared class = record { class = class; paths = own_members declared class }

-- ---- as seen from a type

abbrev pub args_at : Option Ty → List Ty
args_at None = []
args_at (Some ty) = args_of ty

-- as it is written
abbrev pub plain_view : View
plain_view = record { params = []; args = [] }

abbrev pub with_arguments : SymPath → List Ty → Asking View
with_arguments class [] = Gives plain_view
with_arguments class (arg ∷ args) =
    bind (signature_of class) (λ signature. Gives (record { params = paths_of signature.tparams; args = arg ∷ args }))

abbrev pub seen_as : SymPath → Option Ty → Asking View
seen_as class base = with_arguments class (args_at base)

-- how what this class defines is seen from a type: with the arguments of its base type there
abbrev pub seen_from : Ty → SymPath → Asking View
seen_from ty class = bind (base_type ty class) (seen_as class)

abbrev pub poly_over : List SymPath → Ty → Ty
poly_over [] ty = ty
poly_over (param ∷ params) ty = type.Poly (param ∷ params) ty

-- the type of a definition: that of its signature, with its type parameters
abbrev pub type_of : Sig → Ty
type_of signature = poly_over (paths_of signature.tparams) signature.ty

abbrev pub member_of : SymPath → View → SymPath → Asking Member
member_of class view path = bind (signature_of path) (λ signature. Gives (record {
  path = path;
  ty = substituted view.params view.args (type_of signature);
  owner = class;
}))

abbrev pub members_seen : Offer → View → Asking (List Member)
members_seen offer view = each (member_of offer.class view) offer.paths

abbrev pub members_offered : Ty → Offer → Asking (List Member)
members_offered ty offer = bind (seen_from ty offer.class) (members_seen offer)

abbrev pub all_offered : Ty → List Offer → Asking (List Member)
all_offered ty [] = Gives []
all_offered ty (offer ∷ offers) = bind (members_offered ty offer) (λ members. bind (all_offered ty offers) (λ more. Gives (members ++ more)))

-- ---- overriding

-- two types have equal parameters, where the type parameters of the one stand for those of the other
abbrev pub have_same_parameters : Ty → Ty → Bool
have_same_parameters a b = are_as_many (params_of a) (params_of b)
    && are_same_lists (parameter_lists (substituted (params_of a) (map type.Param (params_of b)) a)) (parameter_lists b)

abbrev pub are_called_the_same : SymPath → SymPath → Bool
are_called_the_same a b = bytes_eq (name_of a) (name_of b) && is_same_space (space_of (kind_of a)) (space_of (kind_of b))

-- The first is of a class before that of the second, and overrides it: name, space and parameters are the same.
abbrev pub overrides : Member → Member → Bool
overrides earlier later = not (path_eq earlier.owner later.owner) && are_called_the_same earlier.path later.path
    && have_same_parameters earlier.ty later.ty

-- what is abstract does not hide what is not (SLS 5.1.3)
abbrev pub gives_way : Declared → Member → Member → Bool
gives_way declared earlier later = is_abstract declared earlier.path && not (is_abstract declared later.path)

abbrev pub is_hidden_by : Declared → Member → Member → Bool
is_hidden_by declared later earlier = overrides earlier later && not (gives_way declared earlier later)

-- The members so far, with a later one: it is dropped where one of them overrides it; but where it is not abstract and those
-- are, it is kept, and they are dropped.
abbrev pub with_member : Declared → List Member → Member → List Member
with_member declared kept later =
    if list_any (is_hidden_by declared later) kept then kept
    else filter (λ earlier. not (overrides earlier later)) kept ++ later ∷ []

-- these, and of the later ones those that they do not override
abbrev pub kept : Declared → List Member → List Member → List Member
kept declared own later = fold (with_member declared) own later

-- ---- members

abbrev pub inherited_members : Declared → Ty → List SymPath → List Member → Asking (List Member)
inherited_members declared ty others own =
    bind (all_offered ty (map (inherited_from declared) others)) (λ later. Gives (kept declared own later))

-- what the first of these classes defines, none of which overrides another; then what it inherits from the others
abbrev pub members_along : Declared → Ty → List SymPath → Asking (List Member)
members_along declared ty [] = Gives []
members_along declared ty (class ∷ others) = bind (members_offered ty (all_of declared class)) (inherited_members declared ty others)

abbrev pub template_members : Declared → Ty → Option SymPath → Asking (List Member)
template_members declared ty None = Gives []
template_members declared ty (Some class) = bind (linearisation class) (members_along declared ty)

-- a definition of a package is seen with its signature, and a package with itself
abbrev pub package_member : SymPath → SymPath → Asking Member
package_member owner path =
    if is_package path then Gives (record { path = path; ty = type.Package path; owner = owner })
    else member_of owner plain_view path

abbrev pub members_in : Declared → Ty → Ty-F Ty Formal → Asking (List Member)
members_in declared ty (layer.Package path) = each (package_member path) (declared.owned path)
members_in declared ty other = template_members declared ty (template_in other)

abbrev pub members_as : Declared → Ty → Asking (List Member)
members_as declared ty = members_in declared ty (out-Ty ty)

-- The members of a type: of the classes of its linearisation, each with its own in their order, those that no earlier one
-- overrides. A type parameter has those of its upper bound; methods, what is polymorphic and errors have none.
abbrev pub members_of : Declared → Ty → Asking (List Member)
members_of declared ty = bind (upper ty) (members_as declared)
