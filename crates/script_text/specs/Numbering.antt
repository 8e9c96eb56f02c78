-- Where in its text a line of a script stands.
use Rattle.std.specs.Prelude.{ℕ, ◌+◌, ◌-◌, ◌==◌, if◌then◌else◌, List, [], ◌∷◌}
use Rattle.script_text.specs.Words.{Bytes, lines_of, is_passed}

-- The number of the line after so many others that are not passed over, where the first line has this number.
abbrev pub number_from : ℕ → ℕ → List Bytes → ℕ
number_from number before [] = number
number_from number before (bytes ∷ more) =
    if is_passed bytes then number_from (number + 1) before more
    else (if before == 0 then number else number_from (number + 1) (before - 1) more)

-- The number in its text, from 1, of a line that was read, with its index among the lines that were read.
abbrev pub line_number : Bytes → ℕ → ℕ
line_number text index = number_from 1 index (lines_of text)
