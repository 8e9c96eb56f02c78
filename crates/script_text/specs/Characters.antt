-- The characters of a script that have a meaning of their own, beside those of all texts.
use Rattle.std.specs.Prelude.{ℕ}

-- the first and the last byte that a word may have: `!` and `~`
abbrev pub exclamation_mark : ℕ
exclamation_mark = 33

abbrev pub tilde : ℕ
tilde = 126

-- `.`
abbrev pub full_stop : ℕ
full_stop = 46

-- `@`
abbrev pub at_sign : ℕ
at_sign = 64
