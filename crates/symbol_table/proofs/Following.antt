-- Definitions each of which was added behind those before it.
use Rattle.std.proofs.Common.{◌≡◌, ℕ, ◌+◌, ◌<◌, ◌≤◌, ◌==◌, false, Option, Some, None, List, [], ◌∷◌, ◌++◌, length, take, get_or, ⊎_elim, sym, subst, ◌∙◌, ap, arith}
use Rattle.std.proofs.Math.Seq.{take-append_seam, get_or-append_seam}
use Rattle.std.specs.List.{All}
use Rattle.std.specs.Option.{IfSome}
use Rattle.std.proofs.lemmas.Bool.{cases_lt, ne_eqb}
use Rattle.std.proofs.lemmas.List.{take-append-le, get_or_append_left, length_push, length-take}
use Rattle.symbol_table.specs.declared.definitions.Found.{Found}
use Rattle.symbol_table.specs.Found.{owner_rank, IsNext, AreNext}

moved : (before other : List Found) (d e : Found) → before ≡ other → d ≡ e → IsNext before d → IsNext other e
moved before other d e p q next = subst (λ found. IsNext other found) q (subst (λ found. IsNext found d) p next)

pub AreNext-nil : AreNext []
AreNext-nil = record { each = λ at d h. absurd (omega arith) }

pub AreNext-push : (found : List Found) (last : Found) → AreNext found → IsNext found last → AreNext (found ++ last ∷ [])
AreNext-push found last all next = record {
  each = λ at d h. ⊎_elim
      (λ (earlier : at < length found). moved _ _ _ _
      (sym (take-append-le at found (last ∷ []) (omega arith)))
      (sym (get_or_append_left found (last ∷ []) d at earlier))
      (all.each at d earlier))
      (λ (later : length found ≤ at).
      let here : at ≡ length found = omega (arith, length_push found last) in
      moved _ _ _ _
      (sym (ap (λ n. take n (found ++ last ∷ [])) here ∙ take-append_seam found (last ∷ [])))
      (sym (ap (λ n. get_or (found ++ last ∷ []) n d) here ∙ get_or-append_seam found last [] d))
      next)
      (cases_lt at (length found));
}

-- the number of each is its place
pub number-at : (found : List Found) → AreNext found → (at : ℕ) (d : Found) → at < length found → (get_or found at d).number ≡ length (take at found)
number-at found all at d h = ap (λ f. f.number) (all.each at d h).is

low_rank : (o : Option ℕ) (limit n : ℕ) → IfSome o (λ number. number < limit) → limit ≤ n → (owner_rank o == n + 1) ≡ false
low_rank None limit n below h = ne_eqb 0 (n + 1) (λ e. omega arith)
low_rank (Some m) limit n below h = ne_eqb (m + 1) (n + 1) (λ e. omega arith)

-- none of these definitions is owned by the last of them, nor by a later one
pub unowned : (found : List Found) → AreNext found → (n : ℕ) → length found ≤ n + 1 → All (λ d. (owner_rank d.owner == owner_rank (Some n)) ≡ false) found
unowned found all n h at d inside =
    let next = all.each at d inside in
    subst (λ o. (owner_rank o == n + 1) ≡ false) (sym (ap (λ f. f.owner) next.is))
    (low_rank next.owner (length (take at found)) n next.owned (omega (arith, length-take at found)))
