-- Lists of members of which none overrides another.
use Rattle.std.proofs.Common.{◌≡◌, Bool, true, false, not, cond, ◌&&◌, ◌||◌, List, [], ◌∷◌, ◌++◌, refl, sym, ap, ◌∙◌, true≢false}
use Rattle.std.specs.Prelude.{⊤}
use Rattle.std.specs.List.{filter, list_any}
use Rattle.std.proofs.lemmas.List.Folds.{list_any-append}
use Rattle.pc_terms.specs.declared.symbols.SymPath.{SymPath}
use Rattle.type_substitution.proofs.Exact.{path-exact}
use Rattle.type_members.specs.Members.{Declared, are_called_the_same, have_same_parameters, is_hidden_by, kept, overrides, with_member}
use Rattle.type_members.specs.declared.members.Member.{Member}
use Rattle.member_laws.specs.Overriding.{NoneOverrides}

-- ---- what one class defines

-- all of these are of one owner
abbrev pub OwnedBy : SymPath → List Member → Type 0
OwnedBy owner [] = ⊤
OwnedBy owner (member ∷ members) = (member.owner ≡ owner) × OwnedBy owner members

not-own : (owner : SymPath) (a b : Member) → a.owner ≡ owner → b.owner ≡ owner → overrides a b ≡ false
not-own owner a b h g =
    ap (λ same. not same && are_called_the_same a.path b.path && have_same_parameters a.ty b.ty) ((path-exact a.owner b.owner).1 (h ∙ sym g))

none-own : (owner : SymPath) (a : Member) (members : List Member) → a.owner ≡ owner → OwnedBy owner members → list_any (overrides a) members ≡ false
none-own owner a [] h owned = refl
none-own owner a (b ∷ members) h owned =
    ap (λ c. c || list_any (overrides a) members) (not-own owner a b h owned.0) ∙ none-own owner a members h owned.1

pub owned-apart : (owner : SymPath) (members : List Member) → OwnedBy owner members → NoneOverrides members
owned-apart owner [] owned = tt
owned-apart owner (member ∷ members) owned = (none-own owner member members owned.0 owned.1, owned-apart owner members owned.1)

-- ---- one more member

neither : (a b : Bool) → (a || b) ≡ false → (a ≡ false) × (b ≡ false)
neither true b h = absurd (true≢false h)
neither false b h = (refl, h)

kept-none : (q : Member → Bool) (b : Bool) (x : Member) (left : List Member) → q x ≡ false → list_any q left ≡ false
    → list_any q (cond b (x ∷ left) left) ≡ false
kept-none q true x left h g = ap (λ c. c || list_any q left) h ∙ g
kept-none q false x left h g = g

none-filter : (q p : Member → Bool) (members : List Member) → list_any q members ≡ false → list_any q (filter p members) ≡ false
none-filter q p [] h = h
none-filter q p (x ∷ members) h =
    let parts = neither (q x) (list_any q members) h in
    kept-none q (p x) x (filter p members) parts.0 (none-filter q p members parts.1)

-- those that do not override the later one, and that one
module _ (later : Member) where
  abbrev spared : Member → Bool
  spared earlier = not (overrides earlier later)

  last-none : (x : Member) (left : List Member) → overrides x later ≡ false → list_any (overrides x) left ≡ false
      → list_any (overrides x) (left ++ later ∷ []) ≡ false
  last-none x left h g =
      list_any-append (overrides x) left (later ∷ []) ∙ ap (λ b. b || (overrides x later || false)) g ∙ ap (λ b. b || false) h

  one-more : (b : Bool) (x : Member) (left : List Member) → overrides x later ≡ b → list_any (overrides x) left ≡ false
      → NoneOverrides (left ++ later ∷ []) → NoneOverrides (cond (not b) (x ∷ left) left ++ later ∷ [])
  one-more true x left h none apart = apart
  one-more false x left h none apart = (last-none x left h none, apart)

  spared-apart : (members : List Member) → NoneOverrides members → NoneOverrides (filter spared members ++ later ∷ [])
  spared-apart [] apart = (refl, tt)
  spared-apart (x ∷ members) apart =
      one-more (overrides x later) x (filter spared members) refl (none-filter (overrides x) spared members apart.0) (spared-apart members apart.1)

  pub with-apart : (declared : Declared) (members : List Member) → NoneOverrides members → NoneOverrides (with_member declared members later)
  with-apart declared members apart = by (list_any (is_hidden_by declared later) members)
    where
      by : (b : Bool) → NoneOverrides (cond b members (filter spared members ++ later ∷ []))
      by true = apart
      by false = spared-apart members apart

pub kept-apart : (declared : Declared) (later own : List Member) → NoneOverrides own → NoneOverrides (kept declared own later)
kept-apart declared [] own apart = apart
kept-apart declared (x ∷ later) own apart = kept-apart declared later (with_member declared own x) (with-apart x declared own apart)
