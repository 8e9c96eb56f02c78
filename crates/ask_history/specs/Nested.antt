-- Which line of a script stands under which.
use Rattle.std.specs.Prelude.{ℕ, ◌+◌, nat_lt, if◌then◌else◌, List, [], ◌∷◌, ◌++◌}
use Rattle.ask_history.specs.declared.script.Order.{Order}
use Rattle.ask_history.specs.declared.script.Order.TheVariants.{Call}
use Rattle.ask_history.specs.declared.script.Line.{Line}

-- Lines that stand side by side: none, or a first one with its number, the lines under it, and those after it. The number
-- of a call line counts the call lines of the script up to it.
pub data Nested : Type 0 where
  End : Nested
  Then : (number : ℕ) → (line : Line) → (inner rest : Nested) → Nested

-- the number of the next call line, after a line where it is this
abbrev pub number_after : Order → ℕ → ℕ
number_after (Call call) number = number + 1
number_after _ number = number

-- the first lines of these, as far as each has a level above this one
abbrev pub deeper : ℕ → Nested → Nested
deeper level End = End
deeper level (Then number line inner rest) = if nat_lt level line.level then Then number line inner (deeper level rest) else End

-- the lines after those
abbrev pub others : ℕ → Nested → Nested
others level End = End
others level (Then number line inner rest) = if nat_lt level line.level then others level rest else Then number line inner rest

-- a line before lines of which the deeper ones stand under it
abbrev pub over : ℕ → Line → Nested → Nested
over number line lines = Then number line (deeper line.level lines) (others line.level lines)

-- The lines of a script, each under the nearest line above it with a lower level. The next call line has this number.
abbrev pub nested : ℕ → List Line → Nested
nested number [] = End
nested number (line ∷ lines) = over number line (nested (number_after line.order number) lines)

-- Nested lines one after another, each before those under it.
abbrev pub in_order : Nested → List Line
in_order End = []
in_order (Then number line inner rest) = line ∷ (in_order inner ++ in_order rest)
