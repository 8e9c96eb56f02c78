-- Lists of members, and overriding.
use Rattle.std.specs.Prelude.{◌≡◌, ⊤, false, List, [], ◌∷◌}
use Rattle.std.specs.List.{list_any}
use Rattle.item_questions.specs.Questions.{Known, Infos, run}
use Rattle.pc_terms.specs.declared.items.Item.{Item}
use Rattle.pc_terms.specs.declared.items.ItemValue.{ItemValue}
use Rattle.pc_terms.specs.declared.types.Ty.{Ty}
use Rattle.type_members.specs.Members.{Declared, members_of, overrides}
use Rattle.type_members.specs.declared.members.Member.{Member}

-- No member overrides one that stands behind it. The list goes by the linearisation, so what overrides stands before.
abbrev pub NoneOverrides : List Member → Type 0
NoneOverrides [] = ⊤
NoneOverrides (member ∷ members) = (list_any (overrides member) members ≡ false) × NoneOverrides members

-- The members of a type, whatever the values of items and the table of definitions, do not override each other.
abbrev pub HasNoOverride : Type 0
HasNoOverride = (known : Infos Item ItemValue) (declared : Declared) (ty : Ty) (members : List Member)
    → run known (members_of declared ty) ≡ Known members → NoneOverrides members
