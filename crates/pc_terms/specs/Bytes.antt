-- Bytes, the characters that definitions name, and how many bytes a source has at most.
use Rattle.std.specs.Prelude.{ℕ, List, [], ◌∷◌}

abbrev pub Bytes : Type 0
Bytes = List ℕ

-- The most bytes that one source file may have.
abbrev pub max_source_bytes : ℕ
max_source_bytes = 262144

-- ---- characters, as bytes and as code points

abbrev pub tab : ℕ
tab = 9

abbrev pub line_feed : ℕ
line_feed = 10

abbrev pub form_feed : ℕ
form_feed = 12

abbrev pub carriage_return : ℕ
carriage_return = 13

abbrev pub space : ℕ
space = 32

-- "
abbrev pub quote : ℕ
quote = 34

-- #
abbrev pub hash : ℕ
hash = 35

-- $
abbrev pub dollar : ℕ
dollar = 36

-- '
abbrev pub apostrophe : ℕ
apostrophe = 39

-- (
abbrev pub open_round : ℕ
open_round = 40

-- )
abbrev pub close_round : ℕ
close_round = 41

-- *
abbrev pub star : ℕ
star = 42

-- -
abbrev pub minus : ℕ
minus = 45

-- /
abbrev pub slash : ℕ
slash = 47

-- the digit 0
abbrev pub digit_zero : ℕ
digit_zero = 48

-- the digit 9
abbrev pub digit_nine : ℕ
digit_nine = 57

-- <
abbrev pub less_sign : ℕ
less_sign = 60

-- the letter L
abbrev pub capital_l : ℕ
capital_l = 76

-- the letter X
abbrev pub capital_x : ℕ
capital_x = 88

-- [
abbrev pub open_square : ℕ
open_square = 91

-- \
abbrev pub backslash : ℕ
backslash = 92

-- ]
abbrev pub close_square : ℕ
close_square = 93

-- _
abbrev pub underscore : ℕ
underscore = 95

-- `
abbrev pub backquote : ℕ
backquote = 96

-- the letter l
abbrev pub letter_l : ℕ
letter_l = 108

-- the letter u
abbrev pub letter_u : ℕ
letter_u = 117

-- the letter x
abbrev pub letter_x : ℕ
letter_x = 120

-- {
abbrev pub open_curly : ℕ
open_curly = 123

-- }
abbrev pub close_curly : ℕ
close_curly = 125

-- ---- what ends a line

abbrev pub line_end : Bytes
line_end = line_feed ∷ []
