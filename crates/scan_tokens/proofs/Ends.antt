-- What the readings leave is an end of the text.
use Rattle.std.proofs.Common.{◌≡◌, ℕ, ◌+◌, ◌-◌, ◌≤◌, Bool, true, false, not, ◌&&◌, ◌||◌, ◌==◌, cond, [], ◌∷◌, ◌++◌, length, Option, Some, None, IfSome, refl, ap, sym, ◌∙◌, append_assoc, length-append, arith}
use Rattle.std.specs.Option.{option_and_then, unwrap_or}
use Rattle.scan_tokens.specs.declared.characters.Class.{Class}
use Rattle.scan_tokens.specs.declared.characters.Class.TheVariants as class
use Rattle.scan_tokens.specs.declared.characters.Run.{Run}
use Rattle.scan_tokens.specs.declared.characters.Run.TheVariants as run
use Rattle.scan_tokens.specs.declared.shapes.Shape.TheVariants as shape
use Rattle.scan_tokens.specs.Characters.{Chars, class_of, is_operator, is_letter_or_digit, in_run, past, next_is, next_are, past_one, bytes_up_to}
use Rattle.scan_tokens.specs.Kinds.{is_reserved}
use Rattle.scan_tokens.specs.Literals.{Cut, past_hex, past_unicode, past_escape, past_character, closed_character, character, line_string, raw_string, string}
use Rattle.scan_tokens.specs.Reading.{begins_comment, past_operators, past_name, named, comment, operator, backquoted, begun, read}

pub record IsEnd (cs rest : Chars) : Type 0 where
  pub front : Chars
  pub joined : cs ≡ front ++ rest

pub whole : (cs : Chars) → IsEnd cs cs
whole cs = record { front = []; joined = refl }

pub IsEnd-more : (c : ℕ) (cs rest : Chars) → IsEnd cs rest → IsEnd (c ∷ cs) rest
IsEnd-more c cs rest e = record { front = c ∷ e.front; joined = ap (λ x. c ∷ x) e.joined }

pub IsEnd-trans : (cs ds rest : Chars) → IsEnd cs ds → IsEnd ds rest → IsEnd cs rest
IsEnd-trans cs ds rest d e = record { front = d.front ++ e.front; joined = d.joined ∙ ap (λ x. d.front ++ x) e.joined ∙ sym (append_assoc d.front e.front rest) }

pub IsEnd-length : (cs rest : Chars) → IsEnd cs rest → length rest ≤ length cs
IsEnd-length cs rest e = rw (e.joined, length-append e.front rest) (omega arith)

chosen : (b : Bool) (cs x y : Chars) → IsEnd cs x → IsEnd cs y → IsEnd cs (cond b x y)
chosen true cs x y p q = p
chosen false cs x y p q = q

chosen_cut : (b : Bool) (cs : Chars) (x y : Cut) → IsEnd cs x.1 → IsEnd cs y.1 → IsEnd cs (cond b x y).1
chosen_cut true cs x y p q = p
chosen_cut false cs x y p q = q

pub past-end : (r : Run) (cs : Chars) → IsEnd cs (past r cs)
past-end r [] = whole []
past-end r (c ∷ cs) = chosen (in_run r c) (c ∷ cs) (past r cs) (c ∷ cs) (IsEnd-more c cs _ (past-end r cs)) (whole (c ∷ cs))

pub past_one-end : (cs : Chars) → IsEnd cs (past_one cs)
past_one-end [] = whole []
past_one-end (c ∷ cs) = IsEnd-more c cs cs (whole cs)

-- ---- literals

abbrev pub AreEnds : Chars → Option Chars → Type 0
AreEnds cs o = IfSome o (IsEnd cs)

chosen_option : (b : Bool) (cs : Chars) (x y : Option Chars) → AreEnds cs x → AreEnds cs y → AreEnds cs (cond b x y)
chosen_option true cs x y p q = p
chosen_option false cs x y p q = q

past_hex-end : (cs : Chars) → AreEnds cs (past_hex cs)
past_hex-end [] = tt
past_hex-end (c ∷ cs) = chosen_option _ (c ∷ cs) (Some cs) None (IsEnd-more c cs cs (whole cs)) tt

past_hex-then : (cs : Chars) (o : Option Chars) → AreEnds cs o → AreEnds cs (option_and_then past_hex o)
past_hex-then cs None e = tt
past_hex-then cs (Some ds) e = let f = past_hex-end ds in goes (past_hex ds) f where
  goes : (o : Option Chars) → AreEnds ds o → AreEnds cs o
  goes None f = tt
  goes (Some rest) f = IsEnd-trans cs ds rest e f

past_unicode-end : (cs : Chars) → AreEnds cs (past_unicode cs)
unfolding past_unicode
past_unicode-end cs =
    let four = past_hex-then cs _ (past_hex-then cs _ (past_hex-then cs _ (past_hex-then cs (Some (past run.Us cs)) (past-end run.Us cs)))) in
    chosen_option (next_is 117 cs) cs _ None four tt

unwrapped-end : (cs rest : Chars) (o : Option Chars) → AreEnds cs o → IsEnd cs rest → IsEnd cs (unwrap_or o rest)
unwrapped-end cs rest None e f = f
unwrapped-end cs rest (Some ds) e f = e

past_escape-end : (cs : Chars) → AreEnds cs (past_escape cs)
unfolding past_escape
past_escape-end [] = tt
past_escape-end (c ∷ cs) =
    chosen_option (c == 10) (c ∷ cs) None (Some (unwrap_or (past_unicode (c ∷ cs)) cs)) tt
    (unwrapped-end (c ∷ cs) cs _ (past_unicode-end (c ∷ cs)) (IsEnd-more c cs cs (whole cs)))

more_option : (c : ℕ) (cs : Chars) (o : Option Chars) → AreEnds cs o → AreEnds (c ∷ cs) o
more_option c cs None e = tt
more_option c cs (Some rest) e = IsEnd-more c cs rest e

pub past_character-end : (cs : Chars) → AreEnds cs (past_character cs)
unfolding past_character
past_character-end [] = tt
past_character-end (c ∷ cs) =
    chosen_option (c == 39 || c == 10) (c ∷ cs) None (cond (c == 92) (past_escape cs) (Some cs)) tt
    (chosen_option (c == 92) (c ∷ cs) (past_escape cs) (Some cs) (more_option c cs _ (past_escape-end cs)) (IsEnd-more c cs cs (whole cs)))

closed_character-end : (cs : Chars) (o : Option Chars) → AreEnds cs o → IsEnd cs (closed_character cs o).1
closed_character-end cs None e = whole cs
closed_character-end cs (Some ds) e = chosen_cut (next_is 39 ds) cs _ _ (IsEnd-trans cs ds _ e (past_one-end ds)) (whole cs)

pub character-end : (cs : Chars) → IsEnd cs (character cs).1
unfolding character
character-end cs = closed_character-end cs (past_character cs) (past_character-end cs)

pub line_string-end : (escaped : Bool) (cs : Chars) → IsEnd cs (line_string escaped cs).1
line_string-end escaped [] = whole []
line_string-end escaped (c ∷ cs) =
    let further = line_string (not escaped && c == 92) cs in
    let closes = not escaped && c == 34 in
    chosen_cut (c == 10) (c ∷ cs) (shape.OpenString, c ∷ cs) (cond closes (shape.LineString, cs) further) (whole (c ∷ cs))
    (chosen_cut closes (c ∷ cs) (shape.LineString, cs) further (IsEnd-more c cs cs (whole cs)) (IsEnd-more c cs _ (line_string-end (not escaped && c == 92) cs)))

pub raw_string-end : (cs : Chars) → IsEnd cs (raw_string cs).1
raw_string-end [] = whole []
raw_string-end (c ∷ cs) =
    chosen_cut (c == 34 && next_are 34 34 cs) (c ∷ cs) (shape.RawString, past run.Quotes cs) (raw_string cs)
    (IsEnd-more c cs _ (past-end run.Quotes cs)) (IsEnd-more c cs _ (raw_string-end cs))

pub string-end : (cs : Chars) → IsEnd cs (string cs).1
unfolding string
string-end cs =
    let ds = past_one (past_one cs) in
    let two = IsEnd-trans cs _ ds (past_one-end cs) (past_one-end (past_one cs)) in
    chosen_cut (next_are 34 34 cs) cs _ _ (IsEnd-trans cs ds _ two (raw_string-end ds)) (line_string-end false cs)

-- ---- names, operators and comments

pub past_operators-end : (cs : Chars) → IsEnd cs (past_operators cs)
past_operators-end [] = whole []
past_operators-end (c ∷ cs) =
    chosen (is_operator (class_of c) && not (begins_comment (c ∷ cs))) (c ∷ cs) (past_operators cs) (c ∷ cs)
    (IsEnd-more c cs _ (past_operators-end cs)) (whole (c ∷ cs))

pub past_name-end : (underscore : Bool) (cs : Chars) → IsEnd cs (past_name underscore cs)
past_name-end underscore [] = whole []
past_name-end underscore (c ∷ cs) =
    let ended = cond underscore (past_operators (c ∷ cs)) (c ∷ cs) in
    chosen (is_letter_or_digit (class_of c)) (c ∷ cs) (past_name (c == 95) cs) ended (IsEnd-more c cs _ (past_name-end (c == 95) cs))
    (chosen underscore (c ∷ cs) (past_operators (c ∷ cs)) (c ∷ cs) (past_operators-end (c ∷ cs)) (whole (c ∷ cs)))

pub named-end : (from after : Chars) → IsEnd after (named from after).1
named-end from after =
    chosen_cut (next_is 34 after && not (is_reserved (bytes_up_to from after))) after
    (shape.Interpolated, (string (past_one after)).1) (shape.Plain, after)
    (IsEnd-trans after _ _ (past_one-end after) (string-end (past_one after))) (whole after)

pub comment-end : (depth : ℕ) (second : Bool) (cs : Chars) → IsEnd cs (comment depth second cs).1
comment-end depth second [] = whole []
comment-end depth true (c ∷ cs) = IsEnd-more c cs _ (comment-end depth false cs)
comment-end depth false (c ∷ cs) =
    let closed = comment (depth - 1) true cs in
    let opened = comment (depth + 1) true cs in
    let further = comment depth false cs in
    let closes = c == 42 && next_is 47 cs in
    let opens = c == 47 && next_is 42 cs in
    chosen_cut closes (c ∷ cs) (cond (depth == 0) (shape.Comment, past_one cs) closed) (cond opens opened further)
    (chosen_cut (depth == 0) (c ∷ cs) (shape.Comment, past_one cs) closed
    (IsEnd-more c cs _ (past_one-end cs)) (IsEnd-more c cs _ (comment-end (depth - 1) true cs)))
    (chosen_cut opens (c ∷ cs) opened further
    (IsEnd-more c cs _ (comment-end (depth + 1) true cs)) (IsEnd-more c cs _ (comment-end depth false cs)))

operator-end : (c : ℕ) (cs : Chars) → IsEnd cs (operator c cs).1
operator-end c cs =
    let nested = comment 0 false (past_one cs) in
    let operators : Cut = (shape.Operator, past_operators cs) in
    chosen_cut (c == 47 && next_is 47 cs) cs (shape.Comment, past run.LineRest cs) (cond (c == 47 && next_is 42 cs) nested operators)
    (past-end run.LineRest cs)
    (chosen_cut (c == 47 && next_is 42 cs) cs nested operators
    (IsEnd-trans cs _ _ (past_one-end cs) (comment-end 0 false (past_one cs))) (past_operators-end cs))

pub backquoted-end : (cs : Chars) → IsEnd cs (backquoted cs).1
backquoted-end cs =
    let after = past run.BetweenBackquotes cs in
    chosen_cut (not (next_is 96 cs) && next_is 96 after) cs (shape.Backquoted, past_one after) (shape.Illegal, cs)
    (IsEnd-trans cs _ _ (past-end run.BetweenBackquotes cs) (past_one-end after)) (whole cs)

begun-end : (k : Class) (c : ℕ) (cs : Chars) → IsEnd cs (begun k c cs).1
begun-end class.Space c cs = past-end run.Spaces cs
begun-end class.Letter c cs = IsEnd-trans cs _ _ (past_name-end false cs) (named-end (c ∷ cs) (past_name false cs))
begun-end class.Digit c cs = past-end run.AsciiAlphanumerics cs
begun-end class.Operator c cs = operator-end c cs
begun-end class.Delimiter c cs = whole cs
begun-end class.Apostrophe c cs = character-end cs
begun-end class.Quote c cs = string-end cs
begun-end class.Backquote c cs = backquoted-end cs
begun-end class.Other c cs = whole cs

-- a piece is at least one character long
pub read-end : (c : ℕ) (cs : Chars) → IsEnd cs (read (c ∷ cs)).1
unfolding read
read-end c cs = begun-end (class_of c) c cs
