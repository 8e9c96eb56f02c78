-- Items that need each other in their order, when one is added, taken off, or more is known.
use Rattle.std.proofs.Common.{◌≡◌, Bool, true, false, ◌||◌, List, [], ◌∷◌, ◌++◌, None, refl, sym, ap, ◌∙◌, true≢false, subst, inl}
use Rattle.std.specs.List.{list_any}
use Rattle.item_questions.specs.Questions.{Asks, Needs, Infos, run}
use Rattle.item_questions.specs.Rounds.{IsExact, Agrees, final}
use Rattle.item_questions.proofs.Answers.{HasValuesOf, needs-more}
use Rattle.item_questions.proofs.Circles.{IsHeld}
use Rattle.lazy_completion.specs.Completion.{Chained}
use Rattle.lazy_completion.proofs.Memos.{exact-refl}

or_true : (a : Bool) {b : Bool} → b ≡ true → (a || b) ≡ true
or_true true h = refl
or_true false h = h

-- nothing is known of any of these
abbrev pub All_none : {K V : Type 0} → Infos K V → List K → Type 0
All_none known [] = Unit {0}
All_none known (k ∷ ks) = (known k ≡ None) × All_none known ks

pub none-of : {K V : Type 0} (eq : K → K → Bool) → IsExact eq → (known : Infos K V) (ks : List K) → ((k : K) → list_any (eq k) ks ≡ true → known k ≡ None) → All_none known ks
none-of eq exact known [] none = tt
none-of eq exact known (k ∷ ks) none =
    (none k (ap (λ b. b || list_any (eq k) ks) (exact-refl eq exact k)), none-of eq exact known ks (λ j h. none j (or_true (eq j k) h)))

module _ {K V : Type 0} (typing : K → Asks K V V) where
  pub chained-more : (few many : Infos K V) → HasValuesOf few many → (ks : List K) → All_none many ks → Chained few typing ks → Chained many typing ks
  chained-more few many more [] none h = tt
  chained-more few many more (k ∷ []) none h = (tt, tt)
  chained-more few many more (k ∷ j ∷ ks) none h = (needs-more few many more (typing k) j h.0 none.1.0, chained-more few many more (j ∷ ks) none.1 h.1)

  module _ (known : Infos K V) where
    pub chained-pop : (ks : List K) (k : K) → Chained known typing (ks ++ k ∷ []) → Chained known typing ks
    chained-pop [] k h = tt
    chained-pop (j ∷ []) k h = (tt, tt)
    chained-pop (j ∷ i ∷ ks) k h = (h.0, chained-pop (i ∷ ks) k h.1)

    pub chained-push : (ks : List K) (k : K) → Chained known typing ks
        → ((others : List K) (last : K) → ks ≡ others ++ last ∷ [] → run known (typing last) ≡ Needs k) → Chained known typing (ks ++ k ∷ [])
    chained-push [] k h last = (tt, tt)
    chained-push (j ∷ []) k h last = (last [] j refl, (tt, tt))
    chained-push (j ∷ i ∷ ks) k h last = (h.0, chained-push (i ∷ ks) k h.1 (λ others l e. last (j ∷ others) l (ap (λ xs. j ∷ xs) e)))

    -- each of a chain is held by the next, if the last is held
    module _ (eq : K → K → Bool) (exact : IsExact eq) (items : List K) (so : Agrees (final eq items typing) known) (among : K → Bool) where
      abbrev Held : K → Type 0
      Held k = IsHeld eq exact items typing known so among k

      pub chained-held : (ks : List K) → ((j : K) → list_any (eq j) ks ≡ true → among j ≡ true) → Chained known typing ks
          → ((others : List K) (last : K) → ks ≡ others ++ last ∷ [] → IsHeld eq exact items typing known so among last)
          → (k : K) → list_any (eq k) ks ≡ true → IsHeld eq exact items typing known so among k
      chained-held [] all h last k there = absurd (true≢false (sym there))
      chained-held (j ∷ []) all h last k there = by (eq k j) refl
        where
          by : (b : Bool) → eq k j ≡ b → IsHeld eq exact items typing known so among k
          by true e = subst Held (sym ((exact k j).0 e)) (last [] j refl)
          by false e = absurd (true≢false (sym there ∙ ap (λ b. b || false) e))
      chained-held (j ∷ i ∷ ks) all h last k there =
          by (eq k j) refl (λ t. chained-held (i ∷ ks) (λ m n. all m (or_true (eq m j) n)) h.1 (λ others l e. last (j ∷ others) l (ap (λ xs. j ∷ xs) e)) k t)
        where
          by : (b : Bool) → eq k j ≡ b → (list_any (eq k) (i ∷ ks) ≡ true → IsHeld eq exact items typing known so among k) → IsHeld eq exact items typing known so among k
          by true e rest = subst Held (sym ((exact k j).0 e)) (inl (i, h.0, all i (or_true (eq i j) (ap (λ b. b || list_any (eq i) ks) (exact-refl eq exact i)))))
          by false e rest = rest (sym (ap (λ b. b || list_any (eq k) (i ∷ ks)) e) ∙ there)
