-- What is known to a typing of a memo's items, and what its answer says.
use Rattle.std.proofs.Common.{◌≡◌, Bool, true, false, ◌||◌, List, length, Option, None, Some, option_map, if◌then◌else◌, refl, sym, ap, ◌∙◌, true≢false, inl, inr}
use Rattle.item_questions.specs.Questions.{Info, Has, Cyclic, Asks, Gives, Ends, Ask, Answer, Known, Needs, AtCyclic, Infos, run}
use Rattle.item_questions.specs.Rounds.{is_item, known_star, Agrees}
use Rattle.item_questions.proofs.Answers.{HasValuesOf, none≢some, some-injective, known-injective, needs≢known, cyclic≢known, cyclic≢needs, done-asked, needs-asked}
use Rattle.item_questions.proofs.Rounds.{typed, final-cyclic}
use Rattle.pc_terms.specs.declared.items.Item.{Item}
use Rattle.pc_terms.specs.declared.items.Item.TheVariants as item
use Rattle.pc_terms.specs.declared.items.ItemValue.{ItemValue}
use Rattle.pc_terms.specs.declared.items.ItemValue.TheVariants as given
use Rattle.pc_terms.specs.declared.items.Asked.{Asked}
use Rattle.pc_terms.specs.declared.items.Asked.TheVariants as found
use Rattle.lazy_completion.specs.Fitting.{item_eq, is_own, is_cyclic, fits}
use Rattle.lazy_completion.specs.Typing.{Asking, own, owned, info, infos, within, asked, final_info}
use Rattle.lazy_completion.proofs.Exact.{item-exact}

-- a typing that is done gives a value of the item's own variant
pub own-known : (known : Infos Item ItemValue) (k : Item) (q : Asking ItemValue) (v : ItemValue) → run known (own k q) ≡ Known v → is_own k v ≡ true
own-known known k (Gives w) v h = by (is_own k w) refl
  where
    by : (b : Bool) → is_own k w ≡ b → is_own k v ≡ true
    by true e = ap (is_own k) (sym (known-injective w v (sym (ap (λ b. run known (if b then Gives w else Ends k)) e) ∙ h))) ∙ e
    by false e = absurd (cyclic≢known k v (sym (ap (λ b. run known (if b then Gives w else Ends k)) e) ∙ h))
own-known known k (Ends j) v h = absurd (cyclic≢known j v h)
own-known known k (Ask j next) v h =
    let first = done-asked j (known j) (λ w. run known (own k (next (Has w)))) v h in own-known known k (next (Has first.0)) v first.2

pub own-ordinary : (k : Item) (v : ItemValue) → is_own k v ≡ true → is_cyclic v ≡ false
own-ordinary (item.Parents p) given.Cyclic h = absurd (true≢false (sym h))
own-ordinary (item.Signature p) given.Cyclic h = absurd (true≢false (sym h))
own-ordinary (item.Qualifier f n) given.Cyclic h = absurd (true≢false (sym h))
own-ordinary k v h = refl

pub info-own : (k : Item) (v : ItemValue) → is_own k v ≡ true → info v ≡ Has v
info-own k v h = ap (λ b. if b then Cyclic else Has v) (own-ordinary k v h)

pub own-fits : (k : Item) (v : ItemValue) → is_own k v ≡ true → fits k v ≡ true
own-fits k v h = ap (λ b. b || is_cyclic v) h

-- what is needed is not known
pub needs-none : {K V A : Type 0} (known : Infos K V) (q : Asks K V A) (j : K) → run known q ≡ Needs j → known j ≡ None
needs-none known (Gives a) j h = absurd (needs≢known j a (sym h))
needs-none known (Ends k) j h = absurd (cyclic≢needs k j h)
needs-none known (Ask k next) j h =
    elim (needs-asked k (known k) (λ v. run known (next (Has v))) j h) [
      | inl here ↦ ap known (sym here.1) ∙ here.0
      | inr later ↦ needs-none known (next (Has later.0)) j later.2
    ]

abbrev is_known : {A : Type 0} → Asked A → Bool
is_known (found.Known a) = true
is_known _ = false

abbrev is_need : {A : Type 0} → Asked A → Bool
is_need (found.Needs k) = true
is_need _ = false

module _ {A : Type 0} where
  pub asked-known : (r : Answer Item A) (a : A) → ◌≡◌ {A = Asked A} (found.Known a) (asked r) → r ≡ Known a
  asked-known (Known b) a h = ap Known (ap (λ f. elim f as (λ _. A) [ found.Known x ↦ x | found.Needs k ↦ b | found.Cyclic k ↦ b ]) (sym h))
  asked-known (Needs k) a h = absurd (true≢false (ap is_known h))
  asked-known (AtCyclic k) a h = absurd (true≢false (ap is_known h))

  pub asked-needs : (r : Answer Item A) (j : Item) → ◌≡◌ {A = Asked A} (found.Needs j) (asked r) → r ≡ Needs j
  asked-needs (Known b) j h = absurd (true≢false (ap is_need h))
  asked-needs (Needs k) j h = ap Needs (ap (λ f. elim f as (λ _. Item) [ found.Known x ↦ k | found.Needs k ↦ k | found.Cyclic k ↦ k ]) (sym h))
  asked-needs (AtCyclic k) j h = absurd (true≢false (ap is_need h))

  pub asked-cyclic : (r : Answer Item A) (j : Item) → ◌≡◌ {A = Asked A} (found.Cyclic j) (asked r) → r ≡ AtCyclic j
  asked-cyclic (Known b) j h = absurd (true≢false (sym (ap is_known h)))
  asked-cyclic (Needs k) j h = absurd (true≢false (sym (ap is_need h)))
  asked-cyclic (AtCyclic k) j h = ap AtCyclic (ap (λ f. elim f as (λ _. Item) [ found.Known x ↦ k | found.Needs k ↦ k | found.Cyclic k ↦ k ]) (sym h))

-- the parts of what is known of an item
pub infos-some : (known : Item → Option ItemValue) (k : Item) (i : Info ItemValue) → infos known k ≡ Some i → (v : ItemValue) × (known k ≡ Some v) × (info v ≡ i)
infos-some known k i h = by (known k) refl h
  where
    by : (o : Option ItemValue) → known k ≡ o → option_map info o ≡ Some i → (v : ItemValue) × (known k ≡ Some v) × (info v ≡ i)
    by None e h = absurd (none≢some i h)
    by (Some v) e h = (v, e, some-injective (info v) i h)

module _ (items : List Item) where
  pub within-none : (known : Item → Option ItemValue) (k : Item) → is_item item_eq items k ≡ true → known k ≡ None → within items (infos known) k ≡ None
  within-none known k listed none = ap (λ b. if b then infos known k else Some Cyclic) listed ∙ ap (option_map info) none

  -- what is not known to a typing is an item of the list, without a value
  pub none-within : (known : Item → Option ItemValue) (k : Item) → within items (infos known) k ≡ None → (is_item item_eq items k ≡ true) × (known k ≡ None)
  none-within known k h = by (is_item item_eq items k) refl (known k) refl
    where
      by : (b : Bool) → is_item item_eq items k ≡ b → (o : Option ItemValue) → known k ≡ o → (is_item item_eq items k ≡ true) × (known k ≡ None)
      by true e None f = (e, f)
      by true e (Some v) f =
          absurd (none≢some (info v) (sym h ∙ ap (λ b. if b then infos known k else Some Cyclic) e ∙ ap (option_map info) f))
      by false e o f = absurd (none≢some Cyclic (sym h ∙ ap (λ b. if b then infos known k else Some Cyclic) e))

  pub within-keeps : (old new : Item → Option ItemValue) → ((k : Item) (v : ItemValue) → old k ≡ Some v → new k ≡ Some v)
      → HasValuesOf (within items (infos old)) (within items (infos new))
  within-keeps old new keeps k w h = by (is_item item_eq items k) refl
    where
      by : (b : Bool) → is_item item_eq items k ≡ b → within items (infos new) k ≡ Some (Has w)
      by true e =
          let parts = infos-some old k (Has w) (sym (ap (λ b. if b then infos old k else Some Cyclic) e) ∙ h) in
          ap (λ b. if b then infos new k else Some Cyclic) e ∙ ap (option_map info) (keeps k parts.0 parts.1) ∙ ap Some parts.2
      by false e = ap (λ b. if b then infos new k else Some Cyclic) e ∙ sym (ap (λ b. if b then infos old k else Some Cyclic) e) ∙ h

  -- what a typing is told is so, also that an item outside the list is cyclic
  pub within-so : (typing : Item → Asking ItemValue) (known : Item → Option ItemValue) → Agrees (final_info items typing) (infos known)
      → Agrees (final_info items typing) (within items (infos known))
  within-so typing known so k i h = by (is_item item_eq items k) refl
    where
      outside : is_item item_eq items k ≡ false → (o : Option ItemValue) → known_star item_eq items (owned typing) k ≡ o → known_star item_eq items (owned typing) k ≡ None
      outside not_there None e = e
      outside not_there (Some v) e = absurd (true≢false (sym (typed item_eq item-exact items (owned typing) (length items) k v e).0 ∙ not_there))

      by : (b : Bool) → is_item item_eq items k ≡ b → final_info items typing k ≡ i
      by true e = so k i (sym (ap (λ b. if b then infos known k else Some Cyclic) e) ∙ h)
      by false e =
          final-cyclic item_eq item-exact items (owned typing) k (outside e _ refl)
          ∙ some-injective Cyclic i (sym (ap (λ b. if b then infos known k else Some Cyclic) e) ∙ h)
