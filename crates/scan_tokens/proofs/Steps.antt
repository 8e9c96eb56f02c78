-- Tests, and short steps over characters.
use Rattle.std.proofs.Common.{◌≡◌, ℕ, ◌<◌, ◌≤◌, Bool, true, false, not, ◌||◌, ◌&&◌, ◌==◌, ◌⊎◌, inl, inr, [], ◌∷◌, ◌++◌, length, refl, ap, sym, ◌∙◌, arith, length-append}
use Rattle.std.proofs.lemmas.Bool.Decides.{nat_tests}
use Rattle.scan_tokens.specs.Characters.{Chars, next_is, next_are, past_one}
use Rattle.scan_tokens.proofs.Ends.{IsEnd, IsEnd-length}

pub which : (b : Bool) → (b ≡ true) ⊎ (b ≡ false)
which true = inl refl
which false = inr refl

pub neither : (a b : Bool) → (a || b) ≡ false → (a ≡ false) × (b ≡ false)
neither true b e = cc
neither false b e = (refl, e)

pub both : (a b : Bool) → (a && b) ≡ true → (a ≡ true) × (b ≡ true)
both true b e = (refl, e)
both false b e = cc

pub was_false : (a : Bool) → not a ≡ true → a ≡ false
was_false true e = cc
was_false false e = refl

pub same_number : (a b : ℕ) → (a == b) ≡ true → a ≡ b
same_number a b e = grind (arith, nat_tests)

pub next_is-cons : (k : ℕ) (cs : Chars) → next_is k cs ≡ true → cs ≡ k ∷ past_one cs
next_is-cons k [] e = cc
next_is-cons k (c ∷ cs) e = ap (λ x. x ∷ cs) (same_number c k e)

pub past_one-shorter : (k : ℕ) (cs : Chars) → next_is k cs ≡ true → length (past_one cs) < length cs
past_one-shorter k [] e = cc
past_one-shorter k (c ∷ cs) e = omega arith

pub next_are-cons : (j k : ℕ) (cs : Chars) → next_are j k cs ≡ true → cs ≡ j ∷ k ∷ past_one (past_one cs)
next_are-cons j k [] e = cc
next_are-cons j k (c ∷ cs) e =
    let t = both (c == j) (next_is k cs) e in
    ap (λ x. x ∷ cs) (same_number c j t.0) ∙ ap (λ xs. j ∷ xs) (next_is-cons k cs t.1)

nothing_before : (front rest : Chars) → length (front ++ rest) ≡ length rest → front ≡ []
nothing_before [] rest e = refl
nothing_before (c ∷ front) rest e = absurd (omega (arith, length-append front rest))

-- an end that is as long is all of it
pub IsEnd-all : (cs rest : Chars) → IsEnd cs rest → length cs ≤ length rest → rest ≡ cs
IsEnd-all cs rest e l =
    let shorter = IsEnd-length cs rest e in
    let same : length (e.front ++ rest) ≡ length rest = ap length (sym e.joined) ∙ (omega arith) in
    sym (e.joined ∙ ap (λ xs. xs ++ rest) (nothing_before e.front rest same))
