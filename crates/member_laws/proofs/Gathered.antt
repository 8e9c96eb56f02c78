-- The members of a type, under the values that are known.
use Rattle.std.proofs.Common.{◌≡◌, Bool, true, false, if◌then◌else◌, List, [], ◌∷◌, map, Option, None, Some, refl, sym, ap, subst, ◌∙◌}
use Rattle.item_answers.specs.Asking.{Asking, each, signature_of}
use Rattle.item_answers.proofs.Binding.{followed_by, run-bind}
use Rattle.item_questions.specs.Questions.{Gives, Answer, Known, Needs, AtCyclic, Infos, run, bind}
use Rattle.item_questions.proofs.Answers.{needs≢known, cyclic≢known, known-injective}
use Rattle.pc_terms.specs.declared.items.Item.{Item}
use Rattle.pc_terms.specs.declared.items.ItemValue.{ItemValue}
use Rattle.pc_terms.specs.declared.symbols.SymPath.{SymPath}
use Rattle.pc_terms.specs.declared.types.Formal.{Formal}
use Rattle.pc_terms.specs.declared.types.Ty.{Ty}
use Rattle.pc_terms.specs.declared.types.Ty.TheOpen as layer
use Rattle.pc_terms.specs.declared.types.Ty.TheOpen.{Ty-F}
use Rattle.pc_terms.specs.declared.types.Ty.TheVariants as type
use Rattle.pc_terms.specs.declared.types.Ty.TheViews.{out-Ty}
use Rattle.type_substitution.specs.Substitution.{substituted}
use Rattle.class_parents.specs.Linearisation.{linearisation}
use Rattle.base_classes.specs.BaseTypes.{template_in, upper}
use Rattle.type_members.specs.Members.{Declared, all_of, all_offered, inherited_from, inherited_members, kept, member_of, members_along, members_as, members_in, members_of, members_offered, members_seen, package_member, plain_view, seen_from, template_members, type_of}
use Rattle.type_members.specs.Spaces.{is_package}
use Rattle.type_members.specs.declared.members.Member.{Member}
use Rattle.type_members.specs.declared.offers.Offer.{Offer}
use Rattle.type_members.specs.declared.views.View.{View}
use Rattle.member_laws.specs.Overriding.{NoneOverrides}
use Rattle.member_laws.proofs.Apart.{OwnedBy, kept-apart, owned-apart}

followed-known : {A B : Type 0} (r : Answer Item A) (next : A → Answer Item B) (b : B) → followed_by r next ≡ Known b
    → (a : A) × (r ≡ Known a) × (next a ≡ Known b)
followed-known (Known a) next b h = (a, refl, h)
followed-known (Needs k) next b h = absurd (needs≢known k b h)
followed-known (AtCyclic k) next b h = absurd (cyclic≢known k b h)

module _ (known : Infos Item ItemValue) where
  -- what the first of two questions gives, where both are answered
  first-known : {A B : Type 0} (q : Asking A) (f : A → Asking B) (b : B) → run known (bind q f) ≡ Known b
      → (a : A) × (run known q ≡ Known a) × (run known (f a) ≡ Known b)
  first-known q f b h = followed-known (run known q) (λ a. run known (f a)) b (sym (run-bind known q f) ∙ h)

  -- ---- what one owner defines

  of-owner : (owner : SymPath) (ask : SymPath → Asking Member)
      → ((path : SymPath) (member : Member) → run known (ask path) ≡ Known member → member.owner ≡ owner)
      → (paths : List SymPath) (members : List Member) → run known (each ask paths) ≡ Known members → OwnedBy owner members
  of-owner owner ask own [] members h = subst (OwnedBy owner) (known-injective [] members h) tt
  of-owner owner ask own (path ∷ paths) members h =
      let first = first-known (ask path) (λ y. bind (each ask paths) (λ ys. Gives (y ∷ ys))) members h in
      let others = first-known (each ask paths) (λ ys. Gives (first.0 ∷ ys)) members first.2 in
      subst (OwnedBy owner) (known-injective (first.0 ∷ others.0) members others.2)
      (own path first.0 first.1, of-owner owner ask own paths others.0 others.1)

  member-owner : (owner : SymPath) (view : View) (path : SymPath) (member : Member) → run known (member_of owner view path) ≡ Known member
      → member.owner ≡ owner
  member-owner owner view path member h =
      let parts = first-known (signature_of path) (λ signature. Gives (record {
        path = path;
        ty = substituted view.params view.args (type_of signature);
        owner = owner;
      })) member h in
      sym (ap (λ m. m.owner) (known-injective _ member parts.2))

  package-owner : (owner path : SymPath) (member : Member) → run known (package_member owner path) ≡ Known member → member.owner ≡ owner
  package-owner owner path member h = by (is_package path) h
    where
      by : (b : Bool)
          → run known (if b then Gives (record { path = path; ty = type.Package path; owner = owner }) else member_of owner plain_view path) ≡ Known member
          → member.owner ≡ owner
      by true g = sym (ap (λ m. m.owner) (known-injective _ member g))
      by false g = member-owner owner plain_view path member g

  offered-owner : (ty : Ty) (offer : Offer) (members : List Member) → run known (members_offered ty offer) ≡ Known members
      → OwnedBy offer.class members
  offered-owner ty offer members h =
      let parts = first-known (seen_from ty offer.class) (members_seen offer) members h in
      of-owner offer.class (member_of offer.class parts.0) (member-owner offer.class parts.0) offer.paths members parts.2

  -- ---- the members of a type

  module _ (declared : Declared) (ty : Ty) where
    inherited-apart : (others : List SymPath) (own members : List Member) → NoneOverrides own
        → run known (inherited_members declared ty others own) ≡ Known members → NoneOverrides members
    inherited-apart others own members apart h =
        let parts = first-known (all_offered ty (map (inherited_from declared) others)) (λ later. Gives (kept declared own later)) members h in
        subst NoneOverrides (known-injective (kept declared own parts.0) members parts.2) (kept-apart declared parts.0 own apart)

    along-apart : (classes : List SymPath) (members : List Member) → run known (members_along declared ty classes) ≡ Known members → NoneOverrides members
    along-apart [] members h = subst NoneOverrides (known-injective [] members h) tt
    along-apart (class ∷ others) members h =
        let parts = first-known (members_offered ty (all_of declared class)) (inherited_members declared ty others) members h in
        inherited-apart others parts.0 members (owned-apart class parts.0 (offered-owner ty (all_of declared class) parts.0 parts.1)) parts.2

    template-apart : (template : Option SymPath) (members : List Member) → run known (template_members declared ty template) ≡ Known members
        → NoneOverrides members
    template-apart None members h = subst NoneOverrides (known-injective [] members h) tt
    template-apart (Some class) members h =
        let parts = first-known (linearisation class) (members_along declared ty) members h in
        along-apart parts.0 members parts.2

    in-apart : (shape : Ty-F Ty Formal) (members : List Member) → run known (members_in declared ty shape) ≡ Known members → NoneOverrides members
    in-apart (layer.Package path) members h =
        owned-apart path members (of-owner path (package_member path) (package-owner path) (declared.owned path) members h)
    in-apart (layer.Class path args) members h = template-apart (template_in (layer.Class path args)) members h
    in-apart (layer.Param path) members h = template-apart (template_in (layer.Param path)) members h
    in-apart (layer.Module path) members h = template-apart (template_in (layer.Module path)) members h
    in-apart (layer.Method formals gives) members h = template-apart (template_in (layer.Method formals gives)) members h
    in-apart (layer.Poly params rest) members h = template-apart (template_in (layer.Poly params rest)) members h
    in-apart layer.Error members h = template-apart (template_in layer.Error) members h

  pub members-apart : (declared : Declared) (ty : Ty) (members : List Member) → run known (members_of declared ty) ≡ Known members → NoneOverrides members
  members-apart declared ty members h =
      let parts = first-known (upper ty) (members_as declared) members h in
      in-apart declared parts.0 (out-Ty parts.0) members parts.2
