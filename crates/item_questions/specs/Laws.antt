-- What is so of all questions, and of the rounds over any list of items and any typing of them.
use Rattle.std.specs.Prelude.{◌≡◌, ℕ, ◌+◌, Bool, true, List, length, Some}
use Rattle.item_questions.specs.Questions.{Info, Has, Cyclic, Asks, Known, Needs, Infos, run, run_on}
use Rattle.item_questions.specs.Rounds.{IsExact, values, is_item, known, known_star, final}

-- the second map knows all that the first one knows
abbrev pub Extends : {K V : Type 0} → Infos K V → Infos K V → Type 0
Extends {K} {V} few many = (k : K) (i : Info V) → few k ≡ Some i → many k ≡ Some i

-- A typing that is done stays done, with the same result, under every map that knows more; of items and of units.
abbrev pub StaysDone : (K V A : Type 0) → Type 0
StaysDone K V A = (few many : Infos K V) → Extends few many → (q : Asks K V A) (a : A)
    → (run few q ≡ Known a → run many q ≡ Known a) × (run_on few q ≡ Known a → run_on many q ≡ Known a)

-- An item that in the end needs a cyclic item is cyclic.
abbrev pub CyclicNeed : (K V : Type 0) → Type 0
CyclicNeed K V = (eq : K → K → Bool) → IsExact eq → (items : List K) (typing : K → Asks K V V) (k other : K)
    → run (values (known_star eq items typing)) (typing k) ≡ Needs other → final eq items typing other ≡ Cyclic
    → final eq items typing k ≡ Cyclic

-- After as many rounds as there are items, no further round adds anything.
abbrev pub EndsInTime : (K V : Type 0) → Type 0
EndsInTime K V = (eq : K → K → Bool) → IsExact eq → (items : List K) (typing : K → Asks K V V) (more : ℕ) (k : K)
    → known eq items typing (length items + more) k ≡ known_star eq items typing k

-- Once a round adds no item, the rounds have ended.
abbrev pub EndsAtOnce : (K V : Type 0) → Type 0
EndsAtOnce K V = (eq : K → K → Bool) → IsExact eq → (items : List K) (typing : K → Asks K V V) (n : ℕ)
    → ((k : K) → known eq items typing (n + 1) k ≡ known eq items typing n k)
    → (more : ℕ) (k : K) → known eq items typing (n + more) k ≡ known eq items typing n k

-- An item of the list has, in the end, the value that its typing gives under the values of the end, and is cyclic exactly
-- where that typing is not done.
abbrev pub IsSettled : (K V : Type 0) → Type 0
IsSettled K V = (eq : K → K → Bool) → IsExact eq → (items : List K) (typing : K → Asks K V V) (k : K) (v : V)
    → is_item eq items k ≡ true
    → (final eq items typing k ≡ Has v → run (values (known_star eq items typing)) (typing k) ≡ Known v)
    × (run (values (known_star eq items typing)) (typing k) ≡ Known v → final eq items typing k ≡ Has v)
