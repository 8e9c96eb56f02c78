-- What kind of token a piece is, by its shape and its bytes, and what is wrong with it.
use Rattle.std.specs.Prelude.{◌-◌, Bool, false, ◌||◌, ◌&&◌, ◌==◌, nat_lt, if◌then◌else◌, List, [], ◌∷◌, length, take, drop, slice_index, Option, Some, None}
use Rattle.std.specs.Char.{is_ascii_digit, is_ascii_hexdigit}
use Rattle.std.specs.List.{list_all}
use Rattle.std.specs.Str.{bytes_eq}
use Rattle.pc_terms.specs.Bytes.{digit_zero, capital_l, capital_x, letter_l, letter_x}
use Rattle.scan_tokens.specs.declared.tokens.TokenKind.{TokenKind}
use Rattle.scan_tokens.specs.declared.tokens.TokenKind.TheVariants as kind
use Rattle.scan_tokens.specs.declared.shapes.Shape.{Shape}
use Rattle.scan_tokens.specs.declared.shapes.Shape.TheVariants as shape
use Rattle.scan_tokens.specs.Words.{Bytes, reserved_words, reserved_signs}

abbrev pub is_among : List Bytes → Bytes → Bool
is_among [] word = false
is_among (w ∷ ws) word = bytes_eq w word || is_among ws word

unfoldable pub is_reserved_word : Bytes → Bool
is_reserved_word = is_among reserved_words

unfoldable pub is_reserved_sign : Bytes → Bool
is_reserved_sign = is_among reserved_signs

unfoldable pub is_reserved : Bytes → Bool
is_reserved word = is_reserved_word word || is_reserved_sign word

unfoldable pub name_kind : Bytes → TokenKind
name_kind word = if is_reserved_word word then kind.Word else (if is_reserved_sign word then kind.Sign else kind.Id)

-- ---- numbers

-- `0`, or digits that do not begin with 0, or `0x` or `0X` and hexadecimal digits
unfoldable pub is_whole : Bytes → Bool
is_whole n =
    if slice_index n 0 == digit_zero && (slice_index n 1 == letter_x || slice_index n 1 == capital_x) then nat_lt 2 (length n) && list_all is_ascii_hexdigit (drop 2 n)
    else (if slice_index n 0 == digit_zero then length n == 1 else nat_lt 0 (length n) && list_all is_ascii_digit n)

-- L or l
unfoldable pub has_suffix : Bytes → Bool
has_suffix n = slice_index n (length n - 1) == capital_l || slice_index n (length n - 1) == letter_l

unfoldable pub number_kind : Bytes → TokenKind
number_kind n =
    if has_suffix n then (if is_whole (take (length n - 1) n) then kind.Long else kind.Error) else (if is_whole n then kind.Int else kind.Error)

-- the kind of a piece with these bytes, or nothing for white space and comments
abbrev pub kind_of : Shape → Bytes → Option TokenKind
kind_of shape.Space bytes = None
kind_of shape.Comment bytes = None
kind_of shape.Plain bytes = Some (name_kind bytes)
kind_of shape.Operator bytes = Some (name_kind bytes)
kind_of shape.Backquoted bytes = Some kind.BackId
kind_of shape.Number bytes = Some (number_kind bytes)
kind_of shape.Character bytes = Some kind.Char
kind_of shape.LineString bytes = Some kind.Str
kind_of shape.RawString bytes = Some kind.Str
kind_of shape.Delimiter bytes = Some kind.Delimiter
kind_of _ bytes = Some kind.Error
