-- What is left of a text that is cut at a separator.
use Rattle.std.specs.Prelude.{ℕ, Bool, not, ◌==◌, List, [], Option, Some, None}
use Rattle.script_text.specs.Words.{Bytes, split}

abbrev pub is_other : ℕ → ℕ → Bool
is_other separator b = not (b == separator)

-- the pieces after a separator, where there is one
abbrev pub pieces_behind : ℕ → Option Bytes → List Bytes
pieces_behind separator None = []
pieces_behind separator (Some rest) = split separator rest
