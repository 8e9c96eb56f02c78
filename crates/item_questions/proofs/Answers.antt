-- How the answer of a question follows from what is known.
use Rattle.std.proofs.Common.{◌≡◌, Bool, true, false, Option, None, Some, refl, sym, ap, ◌∙◌, true≢false, ◌⊎◌, inl, inr}
use Rattle.item_questions.specs.Questions.{Info, Has, Cyclic, Asks, Gives, Ends, Ask, Answer, Known, Needs, AtCyclic, Infos, asked, asked_on, run, run_on}
use Rattle.item_questions.specs.Rounds.{done, Agrees}
use Rattle.item_questions.specs.Laws.{Extends}

module _ {A : Type 0} where
  pub none≢some : (a : A) → ◌≡◌ {A = Option A} None (Some a) → ⊥
  none≢some a h = true≢false (sym (ap (λ o. elim o as (λ _. Bool) [ Some x ↦ true | None ↦ false ]) h))

  pub some-injective : (a b : A) → ◌≡◌ {A = Option A} (Some a) (Some b) → a ≡ b
  some-injective a b h = ap (λ o. elim o as (λ _. A) [ Some x ↦ x | None ↦ a ]) h

module _ {K A : Type 0} where
  abbrev is_done : Answer K A → Bool
  is_done (Known a) = true
  is_done _ = false

  abbrev is_ended : Answer K A → Bool
  is_ended (AtCyclic k) = true
  is_ended _ = false

  abbrev given_or : A → Answer K A → A
  given_or other (Known a) = a
  given_or other _ = other

  abbrev needed_or : K → Answer K A → K
  needed_or other (Needs k) = k
  needed_or other _ = other

  abbrev ended_or : K → Answer K A → K
  ended_or other (AtCyclic k) = k
  ended_or other _ = other

  pub needs≢known : (k : K) (a : A) → ◌≡◌ {A = Answer K A} (Needs k) (Known a) → ⊥
  needs≢known k a h = true≢false (sym (ap is_done h))

  pub cyclic≢known : (k : K) (a : A) → ◌≡◌ {A = Answer K A} (AtCyclic k) (Known a) → ⊥
  cyclic≢known k a h = true≢false (sym (ap is_done h))

  pub cyclic≢needs : (j k : K) → ◌≡◌ {A = Answer K A} (AtCyclic j) (Needs k) → ⊥
  cyclic≢needs j k h = true≢false (ap is_ended h)

  pub known-injective : (a b : A) → ◌≡◌ {A = Answer K A} (Known a) (Known b) → a ≡ b
  known-injective a b h = ap (given_or a) h

  pub needs-injective : (j k : K) → ◌≡◌ {A = Answer K A} (Needs j) (Needs k) → j ≡ k
  needs-injective j k h = ap (needed_or j) h

  pub cyclic-injective : (j k : K) → ◌≡◌ {A = Answer K A} (AtCyclic j) (AtCyclic k) → j ≡ k
  cyclic-injective j k h = ap (ended_or j) h

  pub done-known : (r : Answer K A) (a : A) → done r ≡ Some a → r ≡ Known a
  done-known (Known b) a h = ap (λ o. elim o as (λ _. Answer K A) [ Some x ↦ Known x | None ↦ Known b ]) h
  done-known (Needs k) a h = absurd (none≢some a h)
  done-known (AtCyclic k) a h = absurd (none≢some a h)

module _ {V : Type 0} where
  pub has-injective : (v w : V) → ◌≡◌ {A = Info V} (Has v) (Has w) → v ≡ w
  has-injective v w h = ap (λ i. elim i as (λ _. V) [ Has x ↦ x | Cyclic ↦ v ]) h

  pub has≢cyclic : (v : V) → ◌≡◌ {A = Info V} (Has v) Cyclic → ⊥
  has≢cyclic v h = true≢false (ap (λ i. elim i as (λ _. Bool) [ Has x ↦ true | Cyclic ↦ false ]) h)

module _ {K V : Type 0} where
  -- the second map has the values that the first one has
  abbrev pub HasValuesOf : Infos K V → Infos K V → Type 0
  HasValuesOf few many = (k : K) (v : V) → few k ≡ Some (Has v) → many k ≡ Some (Has v)

  -- what two maps know of an item, where both have its value and what they know is so
  same_value : (truth : K → Info V) (first second : Infos K V) → Agrees truth first → Agrees truth second
      → (k : K) (v w : V) → first k ≡ Some (Has v) → second k ≡ Some (Has w) → w ≡ v
  same_value truth first second of_first of_second k v w p q = has-injective w v (sym (of_second k (Has w) q) ∙ of_first k (Has v) p)

module _ {K V A : Type 0} where
  -- a question whose first item is asked for, and that is done
  pub done-asked : (k : K) (o : Option (Info V)) (next : V → Answer K A) (a : A) → asked k o next ≡ Known a
      → (v : V) × (o ≡ Some (Has v)) × (next v ≡ Known a)
  done-asked k None next a h = absurd (needs≢known k a h)
  done-asked k (Some Cyclic) next a h = absurd (cyclic≢known k a h)
  done-asked k (Some (Has v)) next a h = (v, refl, h)

  pub needs-asked : (k : K) (o : Option (Info V)) (next : V → Answer K A) (j : K) → asked k o next ≡ Needs j
      → ((o ≡ None) × (k ≡ j)) ⊎ ((v : V) × (o ≡ Some (Has v)) × (next v ≡ Needs j))
  needs-asked k None next j h = inl (refl, needs-injective k j h)
  needs-asked k (Some Cyclic) next j h = absurd (cyclic≢needs k j h)
  needs-asked k (Some (Has v)) next j h = inr (v, refl, h)

  pub cyclic-asked : (k : K) (o : Option (Info V)) (next : V → Answer K A) (j : K) → asked k o next ≡ AtCyclic j
      → ((o ≡ Some Cyclic) × (k ≡ j)) ⊎ ((v : V) × (o ≡ Some (Has v)) × (next v ≡ AtCyclic j))
  cyclic-asked k None next j h = absurd (cyclic≢needs j k (sym h))
  cyclic-asked k (Some Cyclic) next j h = inl (refl, cyclic-injective k j h)
  cyclic-asked k (Some (Has v)) next j h = inr (v, refl, h)

  done-asked_on : (k : K) (o : Option (Info V)) (next : Info V → Answer K A) (a : A) → asked_on k o next ≡ Known a
      → (i : Info V) × (o ≡ Some i) × (next i ≡ Known a)
  done-asked_on k None next a h = absurd (needs≢known k a h)
  done-asked_on k (Some i) next a h = (i, refl, h)

  module _ (few many : Infos K V) where
    pub run-more : HasValuesOf few many → (q : Asks K V A) (a : A) → run few q ≡ Known a → run many q ≡ Known a
    run-more more (Gives b) a h = h
    run-more more (Ends k) a h = absurd (cyclic≢known k a h)
    run-more more (Ask k next) a h =
        let first = done-asked k (few k) (λ v. run few (next (Has v))) a h in
        ap (λ o. asked k o (λ v. run many (next (Has v)))) (more k first.0 first.1) ∙ run-more more (next (Has first.0)) a first.2

    pub run_on-more : Extends few many → (q : Asks K V A) (a : A) → run_on few q ≡ Known a → run_on many q ≡ Known a
    run_on-more more (Gives b) a h = h
    run_on-more more (Ends k) a h = absurd (cyclic≢known k a h)
    run_on-more more (Ask k next) a h =
        let first = done-asked_on k (few k) (λ i. run_on few (next i)) a h in
        ap (λ o. asked_on k o (λ i. run_on many (next i))) (more k first.0 first.1) ∙ run_on-more more (next first.0) a first.2

    -- what a typing needs, it still needs where more is known, but not of that
    pub needs-more : HasValuesOf few many → (q : Asks K V A) (j : K) → run few q ≡ Needs j → many j ≡ None → run many q ≡ Needs j
    needs-more more (Gives b) j h none = absurd (needs≢known j b (sym h))
    needs-more more (Ends k) j h none = absurd (cyclic≢needs k j h)
    needs-more more (Ask k next) j h none =
        elim (needs-asked k (few k) (λ v. run few (next (Has v))) j h) [
          | inl here ↦ ap (λ o. asked k o (λ v. run many (next (Has v)))) (ap many here.1 ∙ none) ∙ ap Needs here.1
          | inr later ↦ ap (λ o. asked k o (λ v. run many (next (Has v)))) (more k later.0 later.1) ∙ needs-more more (next (Has later.0)) j later.2 none
        ]

  module _ (truth : K → Info V) (first second : Infos K V) (of_first : Agrees truth first) (of_second : Agrees truth second) where
    -- a typing that needs an item is not done under a map without a value of it
    pub needs-blocks : (q : Asks K V A) (j : K) → run first q ≡ Needs j → ((v : V) → second j ≡ Some (Has v) → ⊥) → (a : A) → run second q ≡ Known a → ⊥
    needs-blocks (Gives b) j h none a d = needs≢known j b (sym h)
    needs-blocks (Ends k) j h none a d = cyclic≢needs k j h
    needs-blocks (Ask k next) j h none a d =
        let there = done-asked k (second k) (λ v. run second (next (Has v))) a d in
        elim (needs-asked k (first k) (λ v. run first (next (Has v))) j h) [
          | inl here ↦ none there.0 (ap second (sym here.1) ∙ there.1)
          | inr later ↦ needs-blocks (next (Has later.0)) j later.2 none a
              (ap (λ v. run second (next (Has v))) (sym (same_value truth first second of_first of_second k later.0 there.0 later.1 there.1)) ∙ there.2)
        ]

    -- a typing that a cyclic item ended is done under no map
    pub cyclic-blocks : (q : Asks K V A) (j : K) → run first q ≡ AtCyclic j → (a : A) → run second q ≡ Known a → ⊥
    cyclic-blocks (Gives b) j h a d = cyclic≢known j b (sym h)
    cyclic-blocks (Ends k) j h a d = cyclic≢known k a d
    cyclic-blocks (Ask k next) j h a d =
        let there = done-asked k (second k) (λ v. run second (next (Has v))) a d in
        elim (cyclic-asked k (first k) (λ v. run first (next (Has v))) j h) [
          | inl here ↦ has≢cyclic there.0 (sym (of_second k (Has there.0) there.1) ∙ of_first k Cyclic here.0)
          | inr later ↦ cyclic-blocks (next (Has later.0)) j later.2 a
              (ap (λ v. run second (next (Has v))) (sym (same_value truth first second of_first of_second k later.0 there.0 later.1 there.1)) ∙ there.2)
        ]
