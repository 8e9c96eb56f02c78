-- Which calls on a form in memory are to fail.
use Rattle.std.specs.Prelude.{ℕ, ◌==◌, Bool, List}
use Rattle.std.specs.List.{list_any}
use Rattle.pc_outside.specs.Counting.{one_more}

-- whether the call after so many calls is to fail; the first call has the number 1
abbrev pub is_planned : List ℕ → ℕ → Bool
is_planned failing calls = list_any (λ n. n == one_more calls) failing
