-- Thin texts: an empty one, or an object with one or more vals, whose right sides are numbers, strings and names of
-- earlier vals, with single spaces.
use Rattle.std.specs.Prelude.{ℕ, zero, suc, ◌+◌, ◌-◌, Bool, false, not, ◌&&◌, ◌==◌, nat_le, nat_lt, if◌then◌else◌, List, [], ◌∷◌, ◌++◌, length, take, drop, slice_index, nat_eq, codes, Option, Some, None, is_some, option_and_then}
use Rattle.std.specs.Option.{option_map}
use Rattle.std.specs.List.{list_all, take_while, starts_with}
use Rattle.std.specs.Char.{is_ascii_alphabetic, is_ascii_alphanumeric}
use Rattle.std.specs.Str.{bytes_eq}
pub use Rattle.pc_terms.specs.Bytes.{Bytes}
use Rattle.pc_terms.specs.Number.{number_of}
use Rattle.scan_tokens.specs.Kinds.{is_reserved_word}
use Rattle.compiler_loop.specs.declared.thin.reading.ValType.{ValType}
use Rattle.compiler_loop.specs.declared.thin.reading.ValType.TheVariants as val_type
use Rattle.compiler_loop.specs.declared.thin.reading.ThinVal.{ThinVal}
use Rattle.compiler_loop.specs.declared.thin.reading.ThinUnit.{ThinUnit}
use Rattle.compiler_loop.specs.declared.thin.reading.ThinUnit.TheVariants.{Empty, Object, Other}

abbrev pub begins_with_letter : Bytes → Bool
begins_with_letter [] = false
begins_with_letter (b ∷ bs) = is_ascii_alphabetic b

-- ASCII letters and digits, of which the first is a letter, and no reserved word (SLS 1.1)
unfoldable pub is_identifier : Bytes → Bool
is_identifier word = list_all is_ascii_alphanumeric word && begins_with_letter word && not (is_reserved_word word)

abbrev pub fits_int : Option ℕ → Bool
fits_int None = false
fits_int (Some value) = nat_le value 2147483647

-- decimal digits without a leading zero, of a value that an Int has (SLS 1.3.1)
unfoldable pub is_number : Bytes → Bool
is_number word = fits_int (number_of word)

-- from a space to `~`, without `"` and `\`
abbrev pub is_plain : ℕ → Bool
is_plain b = nat_le 32 b && nat_le b 126 && not (b == 34) && not (b == 92)

-- the word stands at this place
unfoldable pub stands_at : Bytes → ℕ → Bytes → Bool
stands_at text at word = starts_with nat_eq (drop at text) word

-- the letters and digits from this place on
unfoldable pub run_at : Bytes → ℕ → Bytes
run_at text at = take_while is_ascii_alphanumeric (drop at text)

-- how long the right side is that may stand here: a string with its quotes, or letters and digits
unfoldable pub right_len : Bytes → ℕ
right_len [] = 0
right_len (b ∷ bs) = if b == 34 then length (take_while is_plain bs) + 2 else length (take_while is_ascii_alphanumeric (b ∷ bs))

-- the type of the val of a name
abbrev pub type_of : List ThinVal → Bytes → Option ValType
type_of [] name = None
type_of (v ∷ vals) name = if bytes_eq v.name name then Some v.of else type_of vals name

-- an identifier that no val has
abbrev pub is_new : List ThinVal → Bytes → Bool
is_new vals name = is_identifier name && not (is_some (type_of vals name))

-- plain bytes, and a `"` after them
unfoldable pub is_closed : Bytes → Bool
is_closed bytes = nat_lt 0 (length bytes) && slice_index bytes (length bytes - 1) == 34 && list_all is_plain (take (length bytes - 1) bytes)

-- plain bytes between two `"`
unfoldable pub is_string : Bytes → Bool
is_string [] = false
is_string (b ∷ bs) = b == 34 && is_closed bs

-- the type of a right side, where it is one after these vals
unfoldable pub right_type : List ThinVal → Bytes → Option ValType
right_type vals right =
    if is_string right then Some val_type.String
    else (if is_number right then Some val_type.Int
    else (if is_identifier right then type_of vals right else None))

-- ---- vals, each after those before it

abbrev pub refers_to : Bytes → Option Bytes
refers_to right = if is_identifier right then Some right else None

-- the val of this name and this right side, whose `val` stands at this place
abbrev pub made_val : Bytes → ℕ → ℕ → Bytes → ValType → ThinVal
made_val name start right_start right of = record {
  name = name;
  start = start;
  right = record { start = right_start; end = right_start + length right };
  of = of;
  refers = refers_to right;
}

abbrev pub right_at : Bytes → ℕ → Bytes
right_at text at = take (right_len (drop at text)) (drop at text)

-- where the right side stands, after a name of so many letters
abbrev pub right_start : ℕ → Bytes → ℕ
right_start at name = at + 4 + length name + 3

-- `val NAME = RIGHT`, at this place
unfoldable pub val_at : Bytes → List ThinVal → ℕ → Option ThinVal
val_at text vals at =
    if stands_at text at (codes "val ") && is_new vals (run_at text (at + 4)) && stands_at text (at + 4 + length (run_at text (at + 4))) (codes " = ")
    then option_map (made_val (run_at text (at + 4)) at (right_start at (run_at text (at + 4))) (right_at text (right_start at (run_at text (at + 4)))))
    (right_type vals (right_at text (right_start at (run_at text (at + 4)))))
    else None

-- after a val: the end of the object, or more vals after a `; `
abbrev pub vals_behind : (List ThinVal → ℕ → Option (List ThinVal)) → Bytes → List ThinVal → ThinVal → Option (List ThinVal)
vals_behind more text vals v =
    if bytes_eq (drop v.right.end text) (codes " }") then Some (vals ++ v ∷ [])
    else (if stands_at text v.right.end (codes "; ") then more (vals ++ v ∷ []) (v.right.end + 2) else None)

-- The vals from this place on, after those so far, up to the end of the object; no more than this many.
abbrev pub vals_from : ℕ → Bytes → List ThinVal → ℕ → Option (List ThinVal)
vals_from zero text vals at = None
vals_from (suc most) text vals at = option_and_then (vals_behind (vals_from most text) text vals) (val_at text vals at)

abbrev pub object_of : Bytes → List ThinVal → ThinUnit
object_of name vals = Object (record { name = name; vals = vals })

abbrev pub unit_or_other : Option ThinUnit → ThinUnit
unit_or_other None = Other
unit_or_other (Some unit) = unit

-- the object of this name, whose vals stand after its head
abbrev pub object_at : Bytes → Bytes → ThinUnit
object_at text name =
    if is_identifier name && stands_at text (7 + length name) (codes " { ")
    then unit_or_other (option_map (object_of name) (vals_from (length text) text [] (10 + length name)))
    else Other

-- What a text is: empty, `object NAME { VALS }`, or not thin.
unfoldable pub unit_of : Bytes → ThinUnit
unit_of [] = Empty
unit_of (b ∷ bs) = if stands_at (b ∷ bs) 0 (codes "object ") then object_at (b ∷ bs) (run_at (b ∷ bs) 7) else Other
