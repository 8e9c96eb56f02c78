-- What was set and taken by the calls made on cells, one after another. Of a list of calls the latest is first.
use Rattle.std.specs.Prelude.{◌≡◌, ◌⊎◌, ⊤, ℕ, ◌==◌, if◌then◌else◌, List, [], ◌∷◌, ◌++◌, slice_get, slice_set, Option, Some, None}
use Rattle.std.specs.Option.{option_and_then, option_to_list}
use Rattle.ask_history.specs.declared.answers.Answer.{Answer}
use Rattle.response_cell.specs.declared.cells.Cell.{Cell}
use Rattle.response_cell.specs.declared.cells.Cell.TheVariants as cell
use Rattle.response_cell.specs.Cells.{answer_in, covered, taken}

-- A call on cells.
pub data Change : Type 0 where
  Cover : (ticket : ℕ) → Change
  Set : (ticket : ℕ) → (answer : Answer) → Change
  Take : (ticket : ℕ) → Change

-- the cells after these calls
abbrev pub after : List Change → List Cell
after [] = []
after (Cover ticket ∷ earlier) = covered (after earlier) ticket
after (Set ticket answer ∷ earlier) = slice_set (after earlier) ticket (cell.Set answer)
after (Take ticket ∷ earlier) = taken (after earlier) ticket

-- no answer was put into a cell that was not empty
abbrev pub AreAllowed : List Change → Type 0
AreAllowed [] = ⊤
AreAllowed (Set ticket answer ∷ earlier) = (slice_get (after earlier) ticket ≡ Some cell.Empty) × AreAllowed earlier
AreAllowed (_ ∷ earlier) = AreAllowed earlier

-- what a `take` of this ticket answers
abbrev pub answer_at : List Cell → ℕ → Option Answer
answer_at cells ticket = option_and_then answer_in (slice_get cells ticket)

-- the answers that were set for a ticket
abbrev pub set_for : List Change → ℕ → List Answer
set_for [] ticket = []
set_for (Set other answer ∷ earlier) ticket = if other == ticket then answer ∷ set_for earlier ticket else set_for earlier ticket
set_for (_ ∷ earlier) ticket = set_for earlier ticket

-- the answers that were handed out for it
abbrev pub taken_for : List Change → ℕ → List Answer
taken_for [] ticket = []
taken_for (Take other ∷ earlier) ticket =
    if other == ticket then option_to_list (answer_at (after earlier) ticket) ++ taken_for earlier ticket else taken_for earlier ticket
taken_for (_ ∷ earlier) ticket = taken_for earlier ticket

-- Of a ticket one answer is set at most, and handed out once at most, and what is handed out is what was set.
-- A `take` answers it exactly where it was set and not yet handed out.
abbrev pub OneAnswer : (set taken : List Answer) → Option Answer → Type 0
OneAnswer set taken next =
    ((set ≡ []) × (taken ≡ []) × (next ≡ None))
    ⊎ ((answer : Answer) × (set ≡ answer ∷ []) × (((taken ≡ []) × (next ≡ Some answer)) ⊎ ((taken ≡ answer ∷ []) × (next ≡ None))))
