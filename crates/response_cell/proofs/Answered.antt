-- What a history of calls leaves in a cell.
use Rattle.std.proofs.Common.{◌≡◌, ◌≢◌, ℕ, List, [], ◌∷◌, ◌++◌, replicate, set, slice_get, Option, Some, None, refl, ap, subst, suc, zero, inl, inr}
use Rattle.std.specs.Option.{option_and_then, option_to_list}
use Rattle.std.proofs.lemmas.Bool.Decides.{eqb_tells}
use Rattle.ask_history.specs.declared.answers.Answer.{Answer}
use Rattle.response_cell.specs.declared.cells.Cell.{Cell}
use Rattle.response_cell.specs.declared.cells.Cell.TheVariants as cell
use Rattle.response_cell.specs.Cells.{answer_in, after_take, taken, with_cell}
use Rattle.response_cell.specs.History.{Change, Cover, Set, Take, after, AreAllowed, answer_at, set_for, taken_for, OneAnswer}

-- the answers that were set and taken, by what the cell holds
abbrev Agrees : Option Cell → List Answer → List Answer → Type 0
Agrees None set taken = (set ≡ []) × (taken ≡ [])
Agrees (Some cell.Empty) set taken = (set ≡ []) × (taken ≡ [])
Agrees (Some (cell.Set answer)) set taken = (set ≡ answer ∷ []) × (taken ≡ [])
Agrees (Some cell.Taken) set taken = (answer : Answer) × (set ≡ answer ∷ []) × (taken ≡ answer ∷ [])

one_answer : (found : Option Cell) (set taken : List Answer) → Agrees found set taken → OneAnswer set taken (option_and_then answer_in found)
one_answer None set taken agrees = inl (agrees.0, agrees.1, refl)
one_answer (Some cell.Empty) set taken agrees = inl (agrees.0, agrees.1, refl)
one_answer (Some (cell.Set answer)) set taken agrees = inr (answer, agrees.0, inl (agrees.1, refl))
one_answer (Some cell.Taken) set taken agrees = inr (agrees.0, agrees.1, inr (agrees.2, refl))

-- ---- lists

slice_get-set_same : (cells : List Cell) (i : ℕ) (x y : Cell) → slice_get cells i ≡ Some x → slice_get (set cells i y) i ≡ Some y
slice_get-set_same [] i x y is = absurd (cc)
slice_get-set_same (c ∷ cells) zero x y is = refl
slice_get-set_same (c ∷ cells) (suc i) x y is = slice_get-set_same cells i x y is

slice_get-set_other : (cells : List Cell) (i j : ℕ) (y : Cell) → i ≢ j → slice_get (set cells i y) j ≡ slice_get cells j
slice_get-set_other [] i j y apart = refl
slice_get-set_other (c ∷ cells) zero zero y apart = absurd (apart refl)
slice_get-set_other (c ∷ cells) zero (suc j) y apart = refl
slice_get-set_other (c ∷ cells) (suc i) zero y apart = refl
slice_get-set_other (c ∷ cells) (suc i) (suc j) y apart = slice_get-set_other cells i j y (λ same. apart (ap suc same))

-- where more empty cells are made, a cell is as it was, or it is new and empty
Agrees-append : (cells : List Cell) (n i : ℕ) (set taken : List Answer) → Agrees (slice_get cells i) set taken → Agrees (slice_get (cells ++ replicate n cell.Empty) i) set taken
Agrees-append [] zero i set taken agrees = agrees
Agrees-append [] (suc n) zero set taken agrees = agrees
Agrees-append [] (suc n) (suc i) set taken agrees = Agrees-append [] n i set taken agrees
Agrees-append (c ∷ cells) n zero set taken agrees = agrees
Agrees-append (c ∷ cells) n (suc i) set taken agrees = Agrees-append cells n i set taken agrees

-- ---- a take

Agrees-take : (cells : List Cell) (i : ℕ) (found : Option Cell) (set taken : List Answer) → slice_get cells i ≡ found → Agrees found set taken
    → Agrees (slice_get (with_cell cells i found) i) set (option_to_list (option_and_then answer_in found) ++ taken)
Agrees-take cells i None set taken is agrees = rw is agrees
Agrees-take cells i (Some cell.Empty) set taken is agrees = rw (slice_get-set_same cells i cell.Empty cell.Empty is) agrees
Agrees-take cells i (Some (cell.Set answer)) set taken is agrees =
    rw (slice_get-set_same cells i (cell.Set answer) cell.Taken is) (answer, agrees.0, ap (λ rest. answer ∷ rest) agrees.1)
Agrees-take cells i (Some cell.Taken) set taken is agrees = rw (slice_get-set_same cells i cell.Taken cell.Taken is) agrees

slice_get-with_cell : (cells : List Cell) (i j : ℕ) (found : Option Cell) → i ≢ j → slice_get (with_cell cells i found) j ≡ slice_get cells j
slice_get-with_cell cells i j None apart = refl
slice_get-with_cell cells i j (Some x) apart = slice_get-set_other cells i j (after_take x) apart

-- ---- many calls

agrees-after : (calls : List Change) (ticket : ℕ) → AreAllowed calls → Agrees (slice_get (after calls) ticket) (set_for calls ticket) (taken_for calls ticket)
agrees-after [] ticket allowed = (refl, refl)
agrees-after (Cover other ∷ earlier) ticket allowed = Agrees-append (after earlier) _ ticket _ _ (agrees-after earlier ticket allowed)
agrees-after (Set other answer ∷ earlier) ticket allowed = elim (eqb_tells other ticket) [
  | inl same ↦
      let empty : slice_get (after earlier) ticket ≡ Some cell.Empty = rw (← same.1) allowed.0 in
      let before : Agrees (Some cell.Empty) (set_for earlier ticket) (taken_for earlier ticket) =
      subst (λ found. Agrees found (set_for earlier ticket) (taken_for earlier ticket)) empty (agrees-after earlier ticket allowed.1) in
      rw same.0 (rw same.1 (rw (slice_get-set_same (after earlier) ticket cell.Empty (cell.Set answer) empty) (ap (λ rest. answer ∷ rest) before.0, before.1)))
  | inr differs ↦ rw differs.0 (rw (slice_get-set_other (after earlier) other ticket (cell.Set answer) differs.1) (agrees-after earlier ticket allowed.1))
]
agrees-after (Take other ∷ earlier) ticket allowed = elim (eqb_tells other ticket) [
  | inl same ↦ rw same.0 (rw same.1 (Agrees-take (after earlier) ticket (slice_get (after earlier) ticket) _ _ refl (agrees-after earlier ticket allowed)))
  | inr differs ↦ rw differs.0 (rw (slice_get-with_cell (after earlier) other ticket (slice_get (after earlier) other) differs.1) (agrees-after earlier ticket allowed))
]

pub answered : (calls : List Change) (ticket : ℕ) → AreAllowed calls → OneAnswer (set_for calls ticket) (taken_for calls ticket) (answer_at (after calls) ticket)
answered calls ticket allowed = one_answer (slice_get (after calls) ticket) (set_for calls ticket) (taken_for calls ticket) (agrees-after calls ticket allowed)
