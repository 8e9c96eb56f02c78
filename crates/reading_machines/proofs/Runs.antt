-- Runs of a machine over the parts of a list.
use Rattle.std.proofs.Common.{◌≡◌, ◌<◌, ◌≤◌, ℕ, zero, suc, ◌+◌, List, [], ◌∷◌, ◌++◌, length, take, drop, Option, Some, None, refl, ap, add-one, arith}
use Rattle.reading_machines.specs.Machines.{onward, run}

pub run-append : {S T : Type 0} (step : S → T → Option S) (xs ys : List T) (s : S) → run step (xs ++ ys) s ≡ onward (run step xs s) None (run step ys)
run-append step [] ys s = refl
run-append step (x ∷ xs) ys s =
    elim (step s x) as (λ o. onward o None (run step (xs ++ ys)) ≡ onward (onward o None (run step xs)) None (run step ys)) [
      | None ↦ refl
      | Some next ↦ run-append step xs ys next
    ]

pub onward-some : {A : Type 0} (o : Option A) → onward o None Some ≡ o
onward-some None = refl
onward-some (Some a) = refl

-- one token more
pub run-one : {S T : Type 0} (step : S → T → Option S) (s : S) (t : T) → run step (t ∷ []) s ≡ step s t
run-one step s t = onward-some (step s t)

-- a list at one of its elements
pub record IsAt {T : Type 0} (all : List T) (n : ℕ) (t : T) (ts : List T) : Type 0 where
  pub below : n < length all
  pub taken : take (n + 1) all ≡ take n all ++ t ∷ []
  pub left : drop (n + 1) all ≡ ts

pub at-next : {T : Type 0} (n : ℕ) (all : List T) (t : T) (ts : List T) → drop n all ≡ t ∷ ts → IsAt all n t ts
at-next zero [] t ts e = cc
at-next zero (x ∷ all) t ts e = record { below = omega arith; taken = (let h : x ≡ t = cc in ap (λ y. y ∷ []) h); left = cc }
at-next (suc n) [] t ts e = cc
at-next (suc n) (x ∷ all) t ts e =
    let h = at-next n all t ts e in
    record {
      below = (let b = h.below in omega arith);
      taken = (let i : take (suc n) all ≡ take n all ++ t ∷ [] = rw (← add-one) h.taken in rw add-one (ap (λ xs. x ∷ xs) i));
      left = (let i : drop (suc n) all ≡ ts = rw (← add-one) h.left in rw add-one i);
    }

pub at-end : {T : Type 0} (n : ℕ) (all : List T) → n ≤ length all → drop n all ≡ [] → n ≡ length all
at-end zero [] h e = refl
at-end zero (x ∷ all) h e = cc
at-end (suc n) [] h e = omega arith
at-end (suc n) (x ∷ all) h e = ap suc (at-end n all (omega arith) e)
