-- What a machine has read when it stops: the longest part, and the first token that no part admits.
use Rattle.std.proofs.Common.{◌≡◌, ◌<◌, ◌≤◌, ℕ, ◌+◌, Bool, true, false, ◌&&◌, ◌⊎◌, inl, inr, List, [], ◌∷◌, ◌++◌, length, take, drop, Option, Some, None, refl, ap, sym, ◌∙◌, subst, arith}
use Rattle.std.proofs.lemmas.List.{take-append-drop, take-take}
use Rattle.std.proofs.Math.Nat.{eq-or-lt_of_le}
use Rattle.std.proofs.lemmas.Bool.Decides.{leb_tells}
use Rattle.reading_machines.specs.Machines.{Machine, Reading, onward, run, noted, reading, reading_of}
use Rattle.reading_machines.specs.Parts.{CanBegin, IsBest, IsStuckAt}
use Rattle.reading_machines.specs.Laws.{ReadsExactly, LeadsToWhole}
use Rattle.reading_machines.proofs.Runs.{run-append, run-one, IsAt, at-next, at-end}

-- the first k tokens lead to a whole state, and what is left may follow
pub record Passes {S T : Type 0} (m : Machine S T) (follows : List T → Bool) (all : List T) (k : ℕ) : Type 0 where
  pub state : S
  pub runs : run m.step (take k all) m.start ≡ Some state
  pub whole : (m.whole state && follows (drop k all)) ≡ true

abbrev pub BestBelow : {S T : Type 0} → Machine S T → (List T → Bool) → List T → ℕ → Option ℕ → Type 0
BestBelow m follows all n None = (k : ℕ) → k < n → Passes m follows all k → ⊥
BestBelow m follows all n (Some b) = (b < n) × Passes m follows all b × ((k : ℕ) → k < n → Passes m follows all k → k ≤ b)

below-or : (k n : ℕ) → k < n + 1 → (k ≡ n) ⊎ (k < n)
below-or k n h = let l : k ≤ n = omega arith in eq-or-lt_of_le l

not-passing : {S T : Type 0} (m : Machine S T) (follows : List T → Bool) (all : List T) (n : ℕ) (s : S) → run m.step (take n all) m.start ≡ Some s
    → (m.whole s && follows (drop n all)) ≡ false → Passes m follows all n → ⊥
not-passing m follows all n s r f p =
    let same : p.state ≡ s = (let e : Some p.state ≡ Some s = sym p.runs ∙ r in cc) in
    let g : (m.whole s && follows (drop n all)) ≡ true = subst (λ x. (m.whole x && follows (drop n all)) ≡ true) same p.whole in
    let b : true ≡ false = sym g ∙ f in cc

best-noted : {S T : Type 0} (m : Machine S T) (follows : List T → Bool) (all : List T) (n : ℕ) (s : S) (best : Option ℕ)
    → BestBelow m follows all n best → run m.step (take n all) m.start ≡ Some s
    → (b : Bool) → (m.whole s && follows (drop n all)) ≡ b → BestBelow m follows all (n + 1) (noted b n best)
best-noted m follows all n s best h r true e = (omega arith, record { state = s; runs = r; whole = e }, λ k lt p. omega arith)
best-noted m follows all n s None h r false e = λ k lt p.
    elim (below-or k n lt) [
      | inr less ↦ h k less p
      | inl same ↦ not-passing m follows all n s r e (subst (Passes m follows all) same p)
    ]
best-noted m follows all n s (Some b) h r false e = (
  let below = h.0 in omega arith,
  h.1,
  λ k lt p.
      elim (below-or k n lt) [
        | inr less ↦ h.2 k less p
        | inl same ↦ absurd (not-passing m follows all n s r e (subst (Passes m follows all) same p))
      ],
)

pub record Far {S T : Type 0} (m : Machine S T) (follows : List T → Bool) (all : List T) (r : Reading S) : Type 0 where
  pub within : r.reached ≤ length all
  pub runs : run m.step (take r.reached all) m.start ≡ Some r.state
  pub stuck : r.reached < length all → run m.step (take (r.reached + 1) all) m.start ≡ None
  pub best : BestBelow m follows all (r.reached + 1) r.best

run-next : {S T : Type 0} (m : Machine S T) (all : List T) (n : ℕ) (s : S) (t : T) (ts : List T) → run m.step (take n all) m.start ≡ Some s
    → IsAt all n t ts → run m.step (take (n + 1) all) m.start ≡ m.step s t
run-next m all n s t ts r h =
    ap (λ xs. run m.step xs m.start) h.taken ∙ run-append m.step (take n all) (t ∷ []) m.start
    ∙ ap (λ o. onward o None (run m.step (t ∷ []))) r ∙ run-one m.step s t

pub reading-far : {S T : Type 0} (m : Machine S T) (follows : List T → Bool) (all ts : List T) (n : ℕ) (best : Option ℕ) (s : S)
    → drop n all ≡ ts → n ≤ length all → run m.step (take n all) m.start ≡ Some s → BestBelow m follows all n best
    → Far m follows all (reading m follows ts n best s)
reading-far m follows all [] n best s e h r b =
    record {
      within = h;
      runs = r;
      stuck = λ lt. (let same = at-end n all h e in absurd (omega arith));
      best = best-noted m follows all n s best b r _ (ap (λ ys. m.whole s && follows ys) e);
    }
reading-far {S} {T} m follows all (t ∷ ts) n best s e h r b =
    go (m.step s t) refl (λ s' was now noted_here. reading-far m follows all ts (n + 1) now s' here.left (let lt = here.below in omega arith) (run-next m all n s t ts r here ∙ was) noted_here)
  where
    here : IsAt all n t ts
    here = at-next n all t ts e

    now : Option ℕ
    now = noted (m.whole s && follows (t ∷ ts)) n best

    noted_here : BestBelow m follows all (n + 1) now
    noted_here = best-noted m follows all n s best b r _ (ap (λ ys. m.whole s && follows ys) e)

    go : (o : Option S) → m.step s t ≡ o
        → ((s' : S) → m.step s t ≡ Some s' → (now : Option ℕ) → BestBelow m follows all (n + 1) now → Far m follows all (reading m follows ts (n + 1) now s'))
        → Far m follows all (onward o (record { state = s; reached = n; best = now }) (reading m follows ts (n + 1) now))
    go None was next = record { within = h; runs = r; stuck = λ lt. run-next m all n s t ts r here ∙ was; best = noted_here }
    go (Some s') was next = next s' was now noted_here

-- ---- what this says of the grammar

none-further : {S T : Type 0} (step : S → T → Option S) (start s : S) (xs : List T) (j k : ℕ) → j ≤ k
    → run step (take j xs) start ≡ None → run step (take k xs) start ≡ Some s → ⊥
none-further step start s xs j k le n r =
    let split : take k xs ≡ take j xs ++ drop j (take k xs) =
    sym (take-append-drop j (take k xs)) ∙ ap (λ ys. ys ++ drop j (take k xs)) (take-take j k xs le) in
    let e : run step (take k xs) start ≡ None =
    ap (λ ys. run step ys start) split ∙ run-append step (take j xs) (drop j (take k xs)) start ∙ ap (λ o. onward o None (run step (drop j (take k xs)))) n in
    let both : Some s ≡ None = sym r ∙ e in cc

both-true : (a b : Bool) → (a && b) ≡ true → (a ≡ true) × (b ≡ true)
both-true true b e = (refl, e)
both-true false b e = cc

and-true : (a b : Bool) → a ≡ true → b ≡ true → (a && b) ≡ true
and-true a b e f = rw e f

part-passes : {S T : Type 0} (Is : List T → Type 0) (m : Machine S T) (follows : List T → Bool) (ts : List T) → ReadsExactly Is m
    → (k : ℕ) → Is (take k ts) → follows (drop k ts) ≡ true → Passes m follows ts k
part-passes Is m follows ts exact k is f =
    let c = exact.complete (take k ts) is in
    record { state = c.0; runs = c.1; whole = and-true (m.whole c.0) (follows (drop k ts)) c.2 f }

passes-part : {S T : Type 0} (Is : List T → Type 0) (m : Machine S T) (follows : List T → Bool) (ts : List T) → ReadsExactly Is m
    → (k : ℕ) → Passes m follows ts k → Is (take k ts) × (follows (drop k ts) ≡ true)
passes-part Is m follows ts exact k p =
    let w = both-true (m.whole p.state) (follows (drop k ts)) p.whole in (exact.sound (take k ts) p.state p.runs w.0, w.1)

-- no more tokens were passed than were read
passes-within : {S T : Type 0} (m : Machine S T) (follows : List T → Bool) (ts : List T) (r : Reading S) → Far m follows ts r
    → (k : ℕ) → k ≤ length ts → Passes m follows ts k → k < r.reached + 1
passes-within m follows ts r far k within p =
    elim (leb_tells (r.reached + 1) k) [
      | inl le ↦ (let l : r.reached + 1 ≤ k = le.1 in absurd (none-further m.step m.start p.state ts (r.reached + 1) k l (far.stuck (omega arith)) p.runs))
      | inr lt ↦ lt.1
    ]

pub started-far : {S T : Type 0} (m : Machine S T) (follows : List T → Bool) (ts : List T) → Far m follows ts (reading_of m follows ts)
started-far m follows ts = reading-far m follows ts ts 0 None m.start refl (omega arith) refl (λ k lt p. absurd (omega arith))

best-is : {S T : Type 0} (Is : List T → Type 0) (m : Machine S T) (follows : List T → Bool) (ts : List T) → ReadsExactly Is m
    → (r : Reading S) → Far m follows ts r → (best : Option ℕ) → BestBelow m follows ts (r.reached + 1) best → IsBest Is follows ts best
best-is Is m follows ts exact r far None h = λ k within is f.
    let p = part-passes Is m follows ts exact k is f in h k (passes-within m follows ts r far k within p) p
best-is Is m follows ts exact r far (Some b) h =
    let w = passes-part Is m follows ts exact b h.1 in
    record {
      within = (let lt = h.0 in let wi = far.within in omega arith);
      part = w.0;
      followed = w.1;
      longest = λ k within is f. (let p = part-passes Is m follows ts exact k is f in h.2 k (passes-within m follows ts r far k within p) p);
    }

-- The longest part is what the reading notes last, and where it notes none there is none.
pub reads-longest : {S T : Type 0} (Is : List T → Type 0) (m : Machine S T) (follows : List T → Bool) (ts : List T) → ReadsExactly Is m
    → IsBest Is follows ts (reading_of m follows ts).best
reads-longest Is m follows ts exact =
    let far = started-far m follows ts in best-is Is m follows ts exact (reading_of m follows ts) far (reading_of m follows ts).best far.best

-- The token at which the machine stops is the first that no part admits.
pub reads-stuck : {S T : Type 0} (Is : List T → Type 0) (m : Machine S T) (follows : List T → Bool) (ts : List T) → ReadsExactly Is m
    → IsStuckAt Is ts (reading_of m follows ts).reached
reads-stuck {S} {T} Is m follows ts exact =
    record { within = far.within; begins = exact.alive _ _ far.runs; stuck = λ lt can. not_on lt can (exact.complete _ can.part) }
  where
    r : Reading S
    r = reading_of m follows ts

    far : Far m follows ts r
    far = started-far m follows ts

    not_on : r.reached < length ts → (can : CanBegin Is (take (r.reached + 1) ts))
        → ((s : S) × (run m.step (take (r.reached + 1) ts ++ can.others) m.start ≡ Some s) × (m.whole s ≡ true)) → ⊥
    not_on lt can c =
        let e : run m.step (take (r.reached + 1) ts ++ can.others) m.start ≡ None =
        run-append m.step (take (r.reached + 1) ts) can.others m.start ∙ ap (λ o. onward o None (run m.step can.others)) (far.stuck lt) in
        let both : Some c.0 ≡ None = sym c.1 ∙ e in cc

-- The state after the longest part, which the reading of that part alone leads to.
pub best-runs : {S T : Type 0} (m : Machine S T) (follows : List T → Bool) (ts : List T) (b : ℕ) → (reading_of m follows ts).best ≡ Some b
    → LeadsToWhole m (take b ts)
best-runs {S} {T} m follows ts b e = go (reading_of m follows ts).best (started-far m follows ts).best e where
  go : (best : Option ℕ) → BestBelow m follows ts ((reading_of m follows ts).reached + 1) best → best ≡ Some b → LeadsToWhole m (take b ts)
  go None h was = cc
  go (Some c) h was =
      let same : c ≡ b = cc in
      let p : Passes m follows ts b = subst (Passes m follows ts) same h.1 in
      record { state = p.state; runs = p.runs; whole = (both-true (m.whole p.state) (follows (drop b ts)) p.whole).0 }
