-- What the names say after one more definition.
use Rattle.std.proofs.Common.{◌≡◌, ℕ, Bool, true, false, cond, if◌then◌else◌, List, [], ◌∷◌, ◌++◌, map, length, Option, Some, None, Decides, refl, sym, ap, ◌∙◌, subst, append-nil, arith}
use Rattle.std.proofs.lemmas.Bool.{and_parts, eqb-true}
use Rattle.std.proofs.lemmas.Bool.Decides.{same_from_decides}
use Rattle.std.proofs.lemmas.List.Elements.{filter-append}
use Rattle.std.proofs.lemmas.Slice.Eq.{bytes_eq-Decides}
use Rattle.pc_terms.specs.declared.symbols.SymKind.{SymKind}
use Rattle.symbol_table.specs.declared.definitions.Found.{Found}
use Rattle.symbol_table.specs.declared.definitions.Standing.{Standing}
use Rattle.symbol_table.specs.declared.names.Names.{Names}
use Rattle.symbol_table.specs.declared.owned_names.OwnedName.{OwnedName}
use Rattle.symbol_table.specs.Found.{owner_steps, owner_rank, has_name, is_named, all_named, kind_in, kind_of, is_admitted, own_step, next_found, seen_of, seen_under}
use Rattle.symbol_table.specs.Names.{name_eq, seen, seen_after, Adds}
use Rattle.symbol_table.specs.Owners.{may_follow}
use Rattle.symbol_table.specs.Symbols.{space_of}
use Rattle.symbol_table.proofs.Exact.{name-exact}
use Rattle.symbol_table.proofs.Known.{space_from}
use Rattle.symbol_table.proofs.PathsApart.{named_itself}
use Rattle.symbol_table.proofs.Places.{last_step-push}
use Rattle.symbol_table.proofs.Seeing.{seen_of-push, seen_of-second}

pub owner_from_rank : (x y : Option ℕ) → owner_rank x ≡ owner_rank y → x ≡ y
owner_from_rank None None h = refl
owner_from_rank None (Some n) h = absurd (omega arith)
owner_from_rank (Some m) None h = absurd (omega arith)
owner_from_rank (Some m) (Some n) h = let same : m ≡ n = omega arith in ap Some same

if_same : {A : Type 0} (b : Bool) (x y z : A) → (b ≡ true → x ≡ y) → (if b then x else z) ≡ (if b then y else z)
if_same true x y z h = h refl
if_same false x y z h = refl

if_either : {A : Type 0} (b : Bool) (x z : A) → (b ≡ true → x ≡ z) → (if b then x else z) ≡ z
if_either true x z h = h refl
if_either false x z h = refl

seen_with : (found : List Found) (last : Found) (kind : SymKind) (b : Bool) → kind_of last ≡ kind → (b ≡ true → may_follow (map kind_of found) kind ≡ true)
    → seen_of (found ++ cond b (last ∷ []) []) ≡ (if b then seen_after (seen_of found) kind last.number else seen_of found)
seen_with found last kind true own follows =
    seen_of-push found last (ap (may_follow (map kind_of found)) own ∙ follows refl) ∙ ap (λ k. seen_after (seen_of found) k last.number) own
seen_with found last kind false own follows = ap seen_of (append-nil found)

abbrev pub this_name : Option ℕ → SymKind → List ℕ → OwnedName
this_name owner kind name = record { owner = owner; space = space_of kind; name = name }

module _ (found : List Found) (owner : Option ℕ) (kind : SymKind) (name : List ℕ) (standing : Standing) where
  abbrev last : Found
  last = next_found found owner kind name standing

  own_kind : kind_of last ≡ kind
  own_kind = ap kind_in (last_step-push (owner_steps found owner) (own_step found owner kind name))

  name_of_last : (n : OwnedName) → is_named n.owner n.space n.name last ≡ true → n ≡ this_name owner kind name
  name_of_last n h =
      let parts = and_parts _ _ h in
      let text = and_parts _ _ (sym (ap (has_name n.space n.name) (last_step-push (owner_steps found owner) (own_step found owner kind name))) ∙ parts.1) in
      let same_owner : owner ≡ n.owner = owner_from_rank owner n.owner (eqb-true _ _ parts.0) in
      let same_name : name ≡ n.name = (bytes_eq-Decides name n.name).0 text.0 in
      let same_space : space_of kind ≡ n.space = space_from _ _ text.1 in
      λ i. record { owner = sym same_owner i; space = sym same_space i; name = sym same_name i }

  last_decides : (n : OwnedName) → Decides (is_named n.owner n.space n.name last) (n ≡ this_name owner kind name)
  last_decides n = (
    name_of_last n,
    λ e. subst (λ m. is_named m.owner m.space m.name last ≡ true) (sym e) (named_itself found owner kind name standing),
  )

  named_same : (n : OwnedName) → name_eq n (this_name owner kind name) ≡ is_named n.owner n.space n.name last
  named_same n = same_from_decides _ _ (name-exact n (this_name owner kind name)) (last_decides n)

  module _ (old new : Names) (indexed : (n : OwnedName) → seen old n ≡ seen_under found n.owner n.space n.name)
      (adds : Adds old new (this_name owner kind name) kind (length found)) where
    -- the names after a definition that was added
    pub indexed-push : is_admitted found owner kind name ≡ true
        → (n : OwnedName) → seen new n ≡ seen_under (found ++ last ∷ []) n.owner n.space n.name
    indexed-push admitted n =
        let b : Bool = is_named n.owner n.space n.name last in
        let here : List Found = all_named found n.owner n.space n.name in
        let same : b ≡ true → n ≡ this_name owner kind name = name_of_last n in
        adds n
        ∙ ap (λ t. if t then seen_after (seen old (this_name owner kind name)) kind (length found) else seen old n) (named_same n)
        ∙ if_same b _ _ (seen old n) (λ h. ap (λ s. seen_after s kind (length found)) (ap (seen old) (sym (same h)) ∙ indexed n))
        ∙ ap (λ s. if b then seen_after (seen_of here) kind (length found) else s) (indexed n)
        ∙ sym (seen_with here last kind b own_kind
        (λ h. ap (λ m. may_follow (map kind_of (all_named found m.owner m.space m.name)) kind) (same h) ∙ admitted))
        ∙ ap seen_of (sym (filter-append (is_named n.owner n.space n.name) found (last ∷ [])))

    -- and after a second one, which is not added
    pub indexed-second : is_admitted found owner kind name ≡ false
        → (n : OwnedName) → seen new n ≡ seen_under found n.owner n.space n.name
    indexed-second second n =
        adds n
        ∙ if_either (name_eq n (this_name owner kind name)) _ (seen old n)
        (λ h. ap (λ s. seen_after s kind (length found)) (indexed (this_name owner kind name))
        ∙ seen_of-second (all_named found owner (space_of kind) name) kind (length found) second
        ∙ sym (indexed (this_name owner kind name))
        ∙ ap (seen old) (sym ((name-exact n (this_name owner kind name)).0 h)))
        ∙ indexed n
