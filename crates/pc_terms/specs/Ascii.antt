-- ASCII.
use Rattle.std.specs.Prelude.{ℕ, Bool, nat_lt, List}
use Rattle.std.specs.List.{list_all}

abbrev pub is_ascii : ℕ → Bool
is_ascii byte = nat_lt byte 128

abbrev pub all_ascii : List ℕ → Bool
all_ascii bytes = list_all is_ascii bytes
