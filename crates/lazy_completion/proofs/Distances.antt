-- Each step brings some item nearer to its value, and none further away.
use Rattle.std.proofs.Common.{◌≡◌, ℕ, ◌<◌, ◌≤◌, Bool, true, false, ◌||◌, List, [], ◌∷◌, Option, None, Some, is_some, if◌then◌else◌, refl, sym, ap, ◌∙◌, true≢false, subst, arith}
use Rattle.std.specs.List.{list_any}
use Rattle.item_questions.specs.Rounds.{IsExact}
use Rattle.pc_terms.specs.declared.items.Item.{Item}
use Rattle.pc_terms.specs.declared.items.ItemValue.{ItemValue}
use Rattle.lazy_completion.specs.declared.memo.Memo.{Memo}
use Rattle.lazy_completion.specs.Memo.{value, is_locked}
use Rattle.lazy_completion.specs.Completion.{Keeps, StaysOrHas, distance, total}

module _ {K : Type 0} (eq : K → K → Bool) (exact : IsExact eq) (old new : K → ℕ) (no_more : (k : K) → new k ≤ old k) where
  total-le : (ks : List K) → total new ks ≤ total old ks
  total-le [] = omega arith
  total-le (k ∷ ks) = let one = no_more k in let rest = total-le ks in omega (arith, one, rest)

  pub total-less : (ks : List K) (k : K) → list_any (eq k) ks ≡ true → new k < old k → total new ks < total old ks
  total-less [] k there less = absurd (true≢false (sym there))
  total-less (j ∷ ks) k there less = by (eq k j) refl (λ t. total-less ks k t less)
    where
      by : (b : Bool) → eq k j ≡ b → (list_any (eq k) ks ≡ true → total new ks < total old ks) → total new (j ∷ ks) < total old (j ∷ ks)
      by true e rest =
          let same : k ≡ j = (exact k j).0 e in
          let one : new j < old j = subst (λ k. new k < old k) same less in
          let others = total-le ks in omega (arith, one, others)
      by false e rest =
          let one = no_more j in
          let others = rest (sym (ap (λ b. b || list_any (eq k) ks) e) ∙ there) in omega (arith, one, others)

-- how far an item is, by whether it has a value and whether it is locked
abbrev pub far : Bool → Bool → ℕ
far has locks = if has then 0 else if locks then 1 else 2

far-le : (has has' locks locks' : Bool) → (has ≡ true → has' ≡ true) → (locks ≡ true → (locks' || has') ≡ true) → far has' locks' ≤ far has locks
far-le true true locks locks' a b = omega arith
far-le true false locks locks' a b = absurd (true≢false (sym (a refl)))
far-le false true true locks' a b = omega arith
far-le false true false locks' a b = omega arith
far-le false false true true a b = omega arith
far-le false false true false a b = absurd (true≢false (sym (b refl)))
far-le false false false true a b = omega arith
far-le false false false false a b = omega arith

pub distance-le : (old new : Memo) → Keeps old new → StaysOrHas old new → (k : Item) → distance new k ≤ distance old k
distance-le old new keeps stays k = far-le (is_some (value old k)) (is_some (value new k)) (is_locked old k) (is_locked new k) (by (value old k) refl) (stays k)
  where
    by : (o : Option ItemValue) → value old k ≡ o → is_some o ≡ true → is_some (value new k) ≡ true
    by None e h = absurd (true≢false (sym h))
    by (Some v) e h = ap is_some (keeps k v e)
