-- Lists that are written element by element.
use Rattle.std.proofs.Common.{◌≡◌, ◌<◌, ◌≤◌, ℕ, ◌+◌, List, [], ◌∷◌, ◌++◌, length, take, drop, get_or, set, refl, sym, ap, ◌∙◌, arith, suc, zero, add-one, subst}
use Rattle.std.specs.List.{AllZip}
use Rattle.std.proofs.Math.Seq.{take-append_seam}
use Rattle.std.proofs.lemmas.List.{take_all}

pub set-last : {X : Type 0} (xs : List X) (y z : X) (n : ℕ) → n ≡ length xs → set (xs ++ y ∷ []) n z ≡ xs ++ z ∷ []
set-last [] y z n is = rw is refl
set-last (x ∷ xs) y z n is = rw is (ap (λ rest. x ∷ rest) (set-last xs y z (length xs) refl))

-- Of the first i elements R holds, before and after; those after them are as they were.
pub record HoldsBelow {X : Type 0} (R : X → X → Type 0) (old new : List X) (i : ℕ) : Type 0 where
  pub front : AllZip R (take i old) (take i new)
  pub back : drop i new ≡ drop i old

pub HoldsBelow-none : {X : Type 0} (R : X → X → Type 0) (xs : List X) → HoldsBelow R xs xs 0
HoldsBelow-none R xs = record { front = tt; back = refl }

holds_more : {X : Type 0} (R : X → X → Type 0) (old new : List X) (i : ℕ) (x d : X) → i < length old → HoldsBelow R old new i → R (get_or new i d) x → HoldsBelow R old (set new i x) (suc i)
holds_more R [] new i x d within below here = absurd (omega arith)
holds_more R (o ∷ old) [] zero x d within below here = absurd (let h = below.back in cc)
holds_more R (o ∷ old) (n ∷ new) zero x d within below here =
    let same : n ≡ o = cc in let rest : new ≡ old = cc in record { front = (subst (λ v. R v x) same here, tt); back = rest }
holds_more R (o ∷ old) [] (suc i) x d within below here = absurd below.front
holds_more R (o ∷ old) (n ∷ new) (suc i) x d within below here =
    let more = holds_more R old new i x d (omega arith) (record { front = below.front.1; back = below.back }) here in
    record { front = (below.front.0, more.front); back = more.back }

pub HoldsBelow-more : {X : Type 0} (R : X → X → Type 0) (old new : List X) (i : ℕ) (x d : X) → i < length old → HoldsBelow R old new i → R (get_or new i d) x → HoldsBelow R old (set new i x) (i + 1)
HoldsBelow-more R old new i x d within below here = rw (add-one i) (holds_more R old new i x d within below here)

-- all of them, written over the old ones
pub HoldsBelow-all : {X : Type 0} (R : X → X → Type 0) (old new : List X) (i n : ℕ) → n ≡ length old → length new ≡ length old → length old ≤ i → HoldsBelow R old new i → AllZip R old (take n (new ++ drop (length new) old))
HoldsBelow-all R old new i n is same past below =
    let written : take n (new ++ drop (length new) old) ≡ new = ap (λ k. take k (new ++ drop (length new) old)) (is ∙ sym same) ∙ take-append_seam new (drop (length new) old) in
    let front : AllZip R (take i old) (take i new) = below.front in
    rw written (rw (take_all i old past, take_all i new (omega arith)) at front)
