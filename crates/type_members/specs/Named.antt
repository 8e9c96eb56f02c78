-- The members of one name.
use Rattle.std.specs.Prelude.{ℕ, Bool, ◌&&◌, List, [], ◌∷◌, map, filter}
use Rattle.class_parents.specs.Linearisation.{linearisation}
use Rattle.item_answers.specs.Asking.{Asking}
use Rattle.item_questions.specs.Questions.{Gives, bind}
use Rattle.pc_terms.specs.declared.symbols.SymPath.{SymPath}
use Rattle.pc_terms.specs.declared.types.Ty.TheVariants as type
use Rattle.type_members.specs.Members.{Declared, is_member, is_inherited, all_offered, kept}
use Rattle.type_members.specs.Spaces.{is_named}
use Rattle.type_members.specs.Types.{has_some}
use Rattle.type_members.specs.declared.members.Member.{Member}
use Rattle.type_members.specs.declared.members.Space.{Space}
use Rattle.type_members.specs.declared.offers.Offer.{Offer}

abbrev pub own_named : Declared → List ℕ → Space → SymPath → List SymPath
own_named declared name space class = filter (λ path. is_member path && is_named name space path) (declared.owned class)

abbrev pub own_offer : Declared → List ℕ → Space → SymPath → Offer
own_offer declared name space class = record { class = class; paths = own_named declared name space class }

abbrev pub inherited_named : Declared → List ℕ → Space → SymPath → Offer
inherited_named declared name space class = record {
  class = class;
  paths = filter (λ path. is_inherited declared path && is_named name space path) (declared.owned class);
}

-- of what the classes of a linearisation offer to the first of them, what has this name
abbrev pub named_offers : Declared → List ℕ → Space → List SymPath → List Offer
named_offers declared name space [] = []
named_offers declared name space (class ∷ others) = own_offer declared name space class ∷ map (inherited_named declared name space) others

abbrev pub is_offer : Offer → Bool
is_offer offer = has_some offer.paths

abbrev pub paths_of : List Member → List SymPath
paths_of members = map (λ member. member.path) members

abbrev pub chosen_of_several : Declared → SymPath → List Offer → Asking (List SymPath)
chosen_of_several declared class offered =
    bind (all_offered (type.Class class []) offered) (λ members. Gives (paths_of (kept declared [] members)))

-- Of what one class alone offers nothing overrides anything; else the signatures tell what does.
abbrev pub chosen : Declared → SymPath → List Offer → Asking (List SymPath)
chosen declared class [] = Gives []
chosen declared class (only ∷ []) = Gives only.paths
chosen declared class offered = chosen_of_several declared class offered

abbrev pub chosen_of : Declared → SymPath → List ℕ → Space → List SymPath → Asking (List SymPath)
chosen_of declared class name space classes =
    chosen declared class (filter is_offer (named_offers declared name space classes))

-- The members of this name that a class, trait or object has: of the members of its own type those of this name.
abbrev pub members_named : Declared → SymPath → List ℕ → Space → Asking (List SymPath)
members_named declared class name space = bind (linearisation class) (chosen_of declared class name space)
