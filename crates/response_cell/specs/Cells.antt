-- What the calls on cells do. The list has the cell of ticket t at position t.
use Rattle.std.specs.Prelude.{ℕ, ◌+◌, ◌-◌, List, ◌++◌, length, replicate, slice_get, slice_set, Option, Some, None}
use Rattle.ask_history.specs.declared.answers.Answer.{Answer}
use Rattle.response_cell.specs.declared.cells.Cell.{Cell}
use Rattle.response_cell.specs.declared.cells.Cell.TheVariants.{Empty, Set, Taken}

-- the answer that can be taken
abbrev pub answer_in : Cell → Option Answer
answer_in (Set answer) = Some answer
answer_in _ = None

abbrev pub after_take : Cell → Cell
after_take (Set answer) = Taken
after_take cell = cell

-- an empty cell for every ticket up to and with this one that has none, and the others as they were
abbrev pub covered : List Cell → ℕ → List Cell
covered cells ticket = cells ++ replicate (ticket + 1 - length cells) Empty

abbrev pub with_cell : List Cell → ℕ → Option Cell → List Cell
with_cell cells ticket None = cells
with_cell cells ticket (Some cell) = slice_set cells ticket (after_take cell)

-- with the answer of this ticket taken, if it can be
abbrev pub taken : List Cell → ℕ → List Cell
taken cells ticket = with_cell cells ticket (slice_get cells ticket)
