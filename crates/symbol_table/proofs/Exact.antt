-- Two names of owners are equal exactly where `==` says so.
use Rattle.std.proofs.Common.{◌≡◌, ℕ, nat_eq, Option, Some, None, Decides, refl, ap}
use denote.Enum.Bare.{same_true, true_same}
use Rattle.std.specs.Option.{option_eq}
use Rattle.std.proofs.lemmas.Bool.{false≢true}
use Rattle.std.proofs.lemmas.Bool.Decides.{Decides-eqb, Decides-and}
use Rattle.std.proofs.lemmas.Slice.Eq.{bytes_eq-Decides}
use Rattle.symbol_table.specs.contracts.name_spaces.NameSpace as space
use Rattle.symbol_table.specs.contracts.name_spaces.NameSpacePartialEq.TheImpl as spaces
use Rattle.symbol_table.specs.declared.name_spaces.NameSpace.{NameSpace}
use Rattle.symbol_table.specs.declared.owned_names.OwnedName.{OwnedName}
use Rattle.symbol_table.specs.Names.{name_eq}

pub owner-exact : (x y : Option ℕ) → Decides (option_eq nat_eq x y) (x ≡ y)
owner-exact None None = (λ h. refl, λ e. refl)
owner-exact None (Some y) = (λ h. absurd (false≢true h), λ e. cc)
owner-exact (Some x) None = (λ h. absurd (false≢true h), λ e. cc)
owner-exact (Some x) (Some y) = let same = Decides-eqb x y in (λ h. ap Some (same.0 h), λ e. same.1 cc)

space-exact : (x y : NameSpace) → Decides ((spaces.ghosts).eq x y) (x ≡ y)
space-exact x y = (same_true space.the_type tt x y, true_same space.the_type x y)

pub name-exact : (x y : OwnedName) → Decides (name_eq x y) (x ≡ y)
name-exact x y =
    let fields = Decides-and _ _ (owner-exact x.owner y.owner) (Decides-and _ _ (space-exact x.space y.space) (bytes_eq-Decides x.name y.name)) in (
      λ h. let p = fields.0 h in λ i. record { owner = p.0 i; space = p.1.0 i; name = p.1.1 i },
      λ e. fields.1 (ap (λ n. n.owner) e, (ap (λ n. n.space) e, ap (λ n. n.name) e)),
    )
