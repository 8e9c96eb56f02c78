-- The innermost line.
use Rattle.std.proofs.Common.{◌≡◌, ℕ, Bool, true, false, not, ◌||◌, ◌&&◌, ◌==◌, if◌then◌else◌, List, [], ◌∷◌, ◌++◌, map, filter, All, Option, Some, None, is_some, IsTrue, refl, sym, ap, ◌∙◌, subst, true≢false}
use Rattle.std.specs.List.{list_any}
use Rattle.std.proofs.lemmas.Bool.{or_parts, or_from, eq-eqb, or_left, or_right}
use Rattle.std.proofs.lemmas.List.Folds.{list_any-append}
use Rattle.schedule_player.specs.Around.{asks_of, ask_onto, fed_of, fed_after, around, top_work, top_under_ask, is_ask, with_work, StandsOn, AreStacked}
use Rattle.schedule_player.specs.Steps.{ask_in, top_ask}
use Rattle.schedule_player.specs.declared.outers.Work.{Work}
use Rattle.schedule_player.specs.declared.outers.Work.TheVariants.{Ask, Checks, Check, Beside, Passed}
use Rattle.schedule_player.specs.declared.outers.Outer.{Outer}

some_pair : (p q : ℕ × Bool) → Some p ≡ Some q → p ≡ q
some_pair p q h = cc

pub work_is : (work : Work) (t : ℕ) (f : Bool) → ask_in work ≡ Some (t, f) → (turns : ℕ) × (work ≡ Ask t f turns)
work_is (Ask ticket is_fed turns) t f h =
    let both : ◌≡◌ {A = ℕ × Bool} (ticket, is_fed) (t, f) = some_pair (ticket, is_fed) (t, f) h in
    (turns, λ j. Ask (both j).0 (both j).1 turns)
work_is (Checks next) t f h = cc
work_is (Check number turns) t f h = cc
work_is Beside t f h = cc
work_is Passed t f h = cc

pub asks_top : (outers : List Outer) (t : ℕ) (f : Bool) → top_ask outers ≡ Some (t, f) → asks_of outers ≡ t ∷ asks_of (around outers)
asks_top [] t f h = cc
asks_top (outer ∷ outers) t f h = ap (λ w. ask_onto w (asks_of outers)) (work_is outer.work t f h).1

pub fed_top : (outers : List Outer) (t : ℕ) (f : Bool) → top_ask outers ≡ Some (t, f) → fed_of outers ≡ (if f then fed_of (around outers) ++ t ∷ [] else fed_of (around outers))
fed_top [] t f h = cc
fed_top (outer ∷ outers) t f h = ap (λ w. fed_after w (fed_of outers)) (work_is outer.work t f h).1

pub new_top : (outers : List Outer) (t : ℕ) (f : Bool) → top_ask outers ≡ Some (t, f) → AreStacked outers → list_any (λ u. u == t) (asks_of (around outers)) ≡ false
new_top [] t f h stacked = cc
new_top (outer ∷ outers) t f h stacked = subst (λ w. StandsOn w (asks_of outers)) (work_is outer.work t f h).1 stacked.0

pub stacked_around : (outers : List Outer) → AreStacked outers → AreStacked (around outers)
stacked_around [] stacked = stacked
stacked_around (outer ∷ outers) stacked = stacked.2

-- the engine has no ask that is not there
fed_one : (w : Work) (fed asks : List ℕ) (t : ℕ) → (list_any (λ u. u == t) asks ≡ false → list_any (λ u. u == t) fed ≡ false)
    → list_any (λ u. u == t) (ask_onto w asks) ≡ false → list_any (λ u. u == t) (fed_after w fed) ≡ false
fed_one (Ask ticket true turns) fed asks t next h =
    let parts = or_parts (ticket == t) (list_any (λ u. u == t) asks) h in
    list_any-append (λ u. u == t) fed (ticket ∷ []) ∙ or_from _ _ (next parts.1) (or_from _ _ parts.0 refl)
fed_one (Ask ticket false turns) fed asks t next h = next (or_parts (ticket == t) (list_any (λ u. u == t) asks) h).1
fed_one (Checks n) fed asks t next h = next h
fed_one (Check number turns) fed asks t next h = next h
fed_one Beside fed asks t next h = next h
fed_one Passed fed asks t next h = next h

pub fed_among : (outers : List Outer) (t : ℕ) → list_any (λ u. u == t) (asks_of outers) ≡ false → list_any (λ u. u == t) (fed_of outers) ≡ false
fed_among [] t h = refl
fed_among (outer ∷ outers) t h = fed_one outer.work (fed_of outers) (asks_of outers) t (fed_among outers t) h

fed_none_one : (w : Work) (fed asks : List ℕ) → (asks ≡ [] → fed ≡ []) → ask_onto w asks ≡ [] → fed_after w fed ≡ []
fed_none_one (Ask ticket is_fed turns) fed asks next h = cc
fed_none_one (Checks n) fed asks next h = next h
fed_none_one (Check number turns) fed asks next h = next h
fed_none_one Beside fed asks next h = next h
fed_none_one Passed fed asks next h = next h

pub fed_none : (outers : List Outer) → asks_of outers ≡ [] → fed_of outers ≡ []
fed_none [] h = refl
fed_none (outer ∷ outers) h = fed_none_one outer.work (fed_of outers) (asks_of outers) (fed_none outers) h

-- ---- lists of pairs with a last one

module _ {B : Type 0} where
  pub map_last : (xs : List (ℕ × B)) (ns : List ℕ) (n : ℕ) → map (λ x. x.0) xs ≡ ns ++ n ∷ []
      → (below : List (ℕ × B)) × (last : B) × (xs ≡ below ++ (n, last) ∷ []) × (map (λ x. x.0) below ≡ ns)
  map_last [] [] n h = cc
  map_last [] (m ∷ ns) n h = cc
  map_last (x ∷ []) [] n h = let same : x.0 ≡ n = cc in ([], x.1, (λ j. (same j, x.1) ∷ []), refl)
  map_last (x ∷ y ∷ xs) [] n h = cc
  map_last (x ∷ xs) (m ∷ ns) n h =
      let same : x.0 ≡ m = cc in
      let rest : map (λ x. x.0) xs ≡ ns ++ n ∷ [] = cc in
      let found = map_last xs ns n rest in
      (x ∷ found.0, found.1, ap (λ ys. x ∷ ys) found.2, (λ j. same j ∷ found.3 j))

  pub filter_none : (xs : List (ℕ × B)) (t : ℕ) → list_any (λ u. u == t) (map (λ x. x.0) xs) ≡ false → filter (λ x. not (x.0 == t)) xs ≡ xs
  filter_none [] t h = refl
  filter_none (x ∷ xs) t h =
      let parts = or_parts (x.0 == t) (list_any (λ u. u == t) (map (λ x. x.0) xs)) h in
      ap (λ b. if not b then x ∷ filter (λ x. not (x.0 == t)) xs else filter (λ x. not (x.0 == t)) xs) parts.0
      ∙ ap (λ ys. x ∷ ys) (filter_none xs t parts.1)
