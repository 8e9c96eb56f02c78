-- A piece that begins where the reading begins ends where the reading's piece ends, or before it.
use Rattle.std.proofs.Common.{◌≡◌, ℕ, ◌<◌, ◌+◌, ◌-◌, Bool, true, false, not, ◌||◌, ◌&&◌, ◌==◌, cond, ◌⊎◌, inl, inr, List, [], ◌∷◌, ◌++◌, length, take, Option, Some, None, encode_utf8_all, refl, ap, sym, ◌∙◌, subst, arith, length-append, append_assoc}
use Rattle.std.specs.Char.{is_ascii_alphanumeric, is_ascii_hexdigit}
use Rattle.std.proofs.Math.Seq.{take-append_seam}
use Rattle.std.proofs.lemmas.Str.{encodes-append}
use Rattle.scan_tokens.specs.declared.characters.Class.{Class}
use Rattle.scan_tokens.specs.declared.characters.Class.TheVariants as class
use Rattle.scan_tokens.specs.declared.characters.Run.{Run}
use Rattle.scan_tokens.specs.declared.characters.Run.TheVariants as run
use Rattle.scan_tokens.specs.declared.shapes.Shape.{Shape}
use Rattle.scan_tokens.specs.declared.shapes.Shape.TheVariants as shape
use Rattle.scan_tokens.specs.Characters.{Chars, class_of, is_space, is_letter_or_digit, in_run, past, next_is, next_are, past_one, bytes_up_to}
use Rattle.scan_tokens.specs.Kinds.{is_reserved}
use Rattle.scan_tokens.specs.Literals.{Cut, past_unicode, past_escape, past_character, closed_character, character, line_string, raw_string, string}
use Rattle.scan_tokens.specs.Reading.{begins_comment, past_operators, past_name, named, comment, begun, read}
use Rattle.scan_tokens.specs.Division.{Each, AreOperators, Quotable, Bare, Pair, Unicode, quotable_text, IsQuotable, Item, One, Escaped, items_text, AreItems, HasNoThree, IsString, IsQuoted, IsInterpolated, IsOne, IsLineComment, IsBlockComment, IsPlain, IsOperator, IsBackquoted, IsCharacter, Inside, End, Other, Nested, inside_text, IsInside}
use Rattle.scan_tokens.proofs.Ends.{AreEnds, IsEnd, IsEnd-trans, IsEnd-length, past-end, past_one-end, string-end, whole, past_operators-end, raw_string-end, line_string-end, past_character-end, past_name-end}
use Rattle.scan_tokens.proofs.Steps.{which, neither, both, was_false, same_number, next_are-cons, past_one-shorter}

-- the cut goes as far as a piece of this shape does, after which `after` is left, or farther
pub record Covers (s : Shape) (after : Chars) (cut : Cut) : Type 0 where
  pub goes : IsEnd after cut.1
  pub same : cut.1 ≡ after → cut.0 ≡ s

-- a cut that leaves less than `after` is no cut at `after`
farther : (s : Shape) (after : Chars) (cut : Cut) → IsEnd after cut.1 → length cut.1 < length after → Covers s after cut
farther s after cut e l = record { goes = e; same = λ q. absurd (omega (arith, ap length q)) }

pub reached : (s : Shape) (after rest : Chars) → IsEnd after rest → Covers s after (s, rest)
reached s after rest e = record { goes = e; same = λ _. refl }

-- ---- runs

pub past-over : (r : Run) (xs ys : Chars) → Each (in_run r) xs → past r (xs ++ ys) ≡ past r ys
past-over r [] ys e = refl
past-over r (x ∷ xs) ys e = rw e.0 (past-over r xs ys e.1)

pub read-as : (c : ℕ) (cs : Chars) (k : Class) → class_of c ≡ k → read (c ∷ cs) ≡ begun k c cs
unfolding read
read-as c cs k e = ap (λ k. begun k c cs) e

pub Space-covers : (c : ℕ) (xs after : Chars) → class_of c ≡ class.Space → Each is_space xs → Covers shape.Space after (read (c ∷ (xs ++ after)))
unfolding in_run
Space-covers c xs after e each =
    rw (read-as c (xs ++ after) class.Space e, past-over run.Spaces xs after each) (reached shape.Space after _ (past-end run.Spaces after))

pub Number-covers : (c : ℕ) (xs after : Chars) → class_of c ≡ class.Digit → Each is_ascii_alphanumeric xs → Covers shape.Number after (read (c ∷ (xs ++ after)))
unfolding in_run
Number-covers c xs after e each =
    rw (read-as c (xs ++ after) class.Digit e, past-over run.AsciiAlphanumerics xs after each)
    (reached shape.Number after _ (past-end run.AsciiAlphanumerics after))

pub Delimiter-covers : (c : ℕ) (after : Chars) → class_of c ≡ class.Delimiter → Covers shape.Delimiter after (read (c ∷ after))
Delimiter-covers c after e = rw (read-as c after class.Delimiter e) (reached shape.Delimiter after after (whole after))

Other-covers : (c : ℕ) (after : Chars) → class_of c ≡ class.Other → Covers shape.Illegal after (read (c ∷ after))
Other-covers c after e = rw (read-as c after class.Other e) (reached shape.Illegal after after (whole after))

-- ---- operators and comments

pub slash : class_of 47 ≡ class.Operator
unfolding class_of
slash = refl

past_operators-over : (xs after : Chars) → AreOperators xs after → past_operators (xs ++ after) ≡ past_operators after
unfolding begins_comment
past_operators-over [] after e = refl
past_operators-over (x ∷ xs) after e = rw (e.0, e.1, e.2) (past_operators-over xs after e.3)

Operator-covers : (c : ℕ) (xs after : Chars) → AreOperators (c ∷ xs) after → Covers shape.Operator after (read (c ∷ (xs ++ after)))
Operator-covers c xs after e =
    rw (read-as c (xs ++ after) class.Operator e.0, e.1, e.2, past_operators-over xs after e.3)
    (reached shape.Operator after _ (past_operators-end after))

Line-covers : (xs after : Chars) → Each (λ c. not (c == 10)) xs → Covers shape.Comment after (read (47 ∷ 47 ∷ (xs ++ after)))
unfolding in_run
Line-covers xs after each =
    rw (read-as 47 (47 ∷ (xs ++ after)) class.Operator slash, past-over run.LineRest xs after each)
    (reached shape.Comment after _ (past-end run.LineRest after))

pub next_is-inside : (k : ℕ) (i : Inside) (ys : Chars) → next_is k (inside_text i ++ ys) ≡ next_is k (inside_text i)
next_is-inside k End ys = refl
next_is-inside k (Other c i) ys = refl
next_is-inside k (Nested j i) ys = refl

more_than_none : (d : ℕ) → (d + 1 == 0) ≡ false
more_than_none d = grind arith

one_less : (d : ℕ) → d + 1 - 1 ≡ d
one_less d = omega arith

pub comment-inside : (i : Inside) → IsInside i → (d : ℕ) (ys : Chars)
    → comment d false (inside_text i ++ ys) ≡ cond (d == 0) (shape.Comment, ys) (comment (d - 1) false ys)
comment-inside End p d ys = refl
comment-inside (Other c i) p d ys = rw (next_is-inside 47 i ys, next_is-inside 42 i ys, p.0, p.1) (comment-inside i p.2 d ys)
comment-inside (Nested j i) p d ys =
    rw append_assoc
    (comment-inside j p.0 (d + 1) (inside_text i ++ ys) ∙ ap (λ b. cond b (shape.Comment, inside_text i ++ ys) (comment (d + 1 - 1) false (inside_text i ++ ys))) (more_than_none d)
    ∙ ap (λ e. comment e false (inside_text i ++ ys)) (one_less d) ∙ comment-inside i p.1 d ys)

Block-covers : (i : Inside) (after : Chars) → IsInside i → Covers shape.Comment after (read (47 ∷ 42 ∷ (inside_text i ++ after)))
Block-covers i after p =
    rw (read-as 47 (42 ∷ (inside_text i ++ after)) class.Operator slash, comment-inside i p 0 after) (reached shape.Comment after after (whole after))

-- ---- backquotes

backquote : class_of 96 ≡ class.Backquote
unfolding class_of
backquote = refl

Backquoted-covers : (c : ℕ) (xs after : Chars) → Each (λ c. not (c == 10 || c == 9 || c == 96)) (c ∷ xs)
    → Covers shape.Backquoted after (read (96 ∷ c ∷ (xs ++ 96 ∷ after)))
unfolding in_run
Backquoted-covers c xs after each =
    let first = neither (c == 10 || c == 9) (c == 96) (was_false _ each.0) in
    rw (read-as 96 (c ∷ (xs ++ 96 ∷ after)) class.Backquote backquote, past-over run.BetweenBackquotes (c ∷ xs) (96 ∷ after) each, first.1)
    (reached shape.Backquoted after after (whole after))

Backquote-covers : (c : ℕ) (after : Chars) → class_of c ≡ class.Backquote → Covers shape.Illegal after (read (c ∷ after))
Backquote-covers c after e =
    let rest = past run.BetweenBackquotes after in
    let closes = not (next_is 96 after) && next_is 96 rest in
    rw (read-as c after class.Backquote e)
    (elim (which closes) [
      | inl is ↦
          let shorter = past_one-shorter 96 rest (both (not (next_is 96 after)) (next_is 96 rest) is).1 in
          let within = IsEnd-length after rest (past-end run.BetweenBackquotes after) in
          rw is (farther shape.Illegal after (shape.Backquoted, past_one rest)
          (IsEnd-trans after rest _ (past-end run.BetweenBackquotes after) (past_one-end rest)) (omega arith))
      | inr isnt ↦ rw isnt (reached shape.Illegal after after (whole after))
    ])

-- ---- character literals

apostrophe : class_of 39 ≡ class.Apostrophe
unfolding class_of
apostrophe = refl

hexdigit_is_no_u : (c : ℕ) → is_ascii_hexdigit c ≡ true → (c == 117) ≡ false
hexdigit_is_no_u c e =
    elim (which (c == 117)) [
      | inl is ↦ absurd (let P : ℕ → Type 0 = λ n. is_ascii_hexdigit n ≡ true in let f : is_ascii_hexdigit 117 ≡ true = subst P (same_number c 117 is) e in cc)
      | inr isnt ↦ isnt
    ]

past_unicode-quote : (c : ℕ) (after : Chars) → past_unicode (c ∷ 39 ∷ after) ≡ None
unfolding past_unicode in_run
past_unicode-quote c after = elim (which (c == 117)) [ inl is ↦ rw is refl | inr isnt ↦ rw isnt refl ]

pub past_unicode-over : (us : Chars) (a b c d : ℕ) (after : Chars) → IsQuotable (Unicode us a b c d)
    → past_unicode (117 ∷ (us ++ a ∷ b ∷ c ∷ d ∷ after)) ≡ Some after
unfolding past_unicode in_run
past_unicode-over us a b c d after p =
    rw (past-over run.Us us (a ∷ b ∷ c ∷ d ∷ after) p.0, hexdigit_is_no_u a p.1, p.1, p.2, p.3, p.4) refl

past_character-over : (q : Quotable) → IsQuotable q → (after : Chars) → past_character (quotable_text q ++ 39 ∷ after) ≡ Some (39 ∷ after)
unfolding past_character past_escape
past_character-over (Bare c) p after =
    let two = neither (c == 39 || c == 10) (c == 92) p in
    rw (two.0, two.1) refl
past_character-over (Pair c) p after = rw (p, past_unicode-quote c after) refl
past_character-over (Unicode us a b c d) p after =
    rw append_assoc (rw (past_unicode-over us a b c d (39 ∷ after) p) refl)

Character-covers : (q : Quotable) (after : Chars) → IsQuotable q → Covers shape.Character after (read (39 ∷ (quotable_text q ++ 39 ∷ after)))
unfolding character
Character-covers q after p =
    rw (read-as 39 (quotable_text q ++ 39 ∷ after) class.Apostrophe apostrophe, past_character-over q p after)
    (reached shape.Character after after (whole after))

closed_character-covers : (after : Chars) (o : Option Chars) → AreEnds after o → Covers shape.Apostrophe after (closed_character after o)
closed_character-covers after None e = reached shape.Apostrophe after after (whole after)
closed_character-covers after (Some rest) e =
    elim (which (next_is 39 rest)) [
      | inl is ↦
          let shorter = past_one-shorter 39 rest is in
          let within = IsEnd-length after rest e in
          rw is (farther shape.Apostrophe after (shape.Character, past_one rest) (IsEnd-trans after rest _ e (past_one-end rest)) (omega arith))
      | inr isnt ↦ rw isnt (reached shape.Apostrophe after after (whole after))
    ]

pub Apostrophe-covers : (c : ℕ) (after : Chars) → class_of c ≡ class.Apostrophe → Covers shape.Apostrophe after (read (c ∷ after))
unfolding character
Apostrophe-covers c after e =
    rw (read-as c after class.Apostrophe e) (closed_character-covers after (past_character after) (past_character-end after))

-- ---- strings

quote : class_of 34 ≡ class.Quote
unfolding class_of
quote = refl

line_string-over : (is : List Item) (ys : Chars) → AreItems is → line_string false (items_text is ++ ys) ≡ line_string false ys
line_string-over [] ys p = refl
line_string-over (One c ∷ is) ys p =
    let two = neither (c == 34 || c == 10) (c == 92) p.0 in
    let one = neither (c == 34) (c == 10) two.0 in
    rw (one.0, one.1, two.1) (line_string-over is ys p.1)
line_string-over (Escaped c ∷ is) ys p = rw p.0 (line_string-over is ys p.1)

-- a cut of a string of one line that closes it has gone past the quote
line_string-cut : (escaped : Bool) (cs : Chars)
    → ((line_string escaped cs).0 ≡ shape.OpenString) ⊎ (length (line_string escaped cs).1 < length cs)
line_string-cut escaped [] = inl refl
line_string-cut escaped (c ∷ cs) =
    elim (which (c == 10)) [
      | inl is ↦ rw is (inl refl)
      | inr isnt ↦ elim (which (not escaped && c == 34)) [
        | inl closes ↦ rw (isnt, closes) (inr (omega arith))
        | inr goes ↦ rw (isnt, goes) (later (line_string-cut (not escaped && c == 92) cs))
      ]
    ] where
      later : ((line_string (not escaped && c == 92) cs).0 ≡ shape.OpenString) ⊎ (length (line_string (not escaped && c == 92) cs).1 < length cs)
          → ((line_string (not escaped && c == 92) cs).0 ≡ shape.OpenString) ⊎ (length (line_string (not escaped && c == 92) cs).1 < length (c ∷ cs))
      later (inl e) = inl e
      later (inr l) = inr (omega arith)

line_string-open : (escaped : Bool) (after : Chars) → Covers shape.OpenString after (line_string escaped after)
line_string-open escaped after =
    elim (line_string-cut escaped after) [
      | inl e ↦ record { goes = line_string-end escaped after; same = λ _. e }
      | inr l ↦ farther shape.OpenString after (line_string escaped after) (line_string-end escaped after) l
    ]

-- after a quote and two more, the string goes on
three-covers : (s : Shape) (after : Chars) → next_is 34 after ≡ true → Covers s after (raw_string (past_one after))
three-covers s after e =
    let shorter = past_one-shorter 34 after e in
    let end = IsEnd-trans after (past_one after) _ (past_one-end after) (raw_string-end (past_one after)) in
    let within = IsEnd-length (past_one after) _ (raw_string-end (past_one after)) in
    farther s after (raw_string (past_one after)) end (omega arith)

LineString-covers : (is : List Item) (after : Chars) → AreItems is → Covers shape.LineString after (string (items_text is ++ 34 ∷ after))
unfolding string
LineString-covers [] after p =
    elim (which (next_is 34 after)) [
      | inl is ↦ rw is (three-covers shape.LineString after is)
      | inr isnt ↦ rw isnt (reached shape.LineString after after (whole after))
    ]
LineString-covers (One c ∷ is) after p =
    let two = neither (c == 34 || c == 10) (c == 92) p.0 in
    let one = neither (c == 34) (c == 10) two.0 in
    rw (one.0, one.1, two.1, line_string-over is (34 ∷ after) p.1) (reached shape.LineString after after (whole after))
LineString-covers (Escaped c ∷ is) after p =
    rw (p.0, line_string-over is (34 ∷ after) p.1) (reached shape.LineString after after (whole after))

open-covers : (is : List Item) (after : Chars) → AreItems is → Covers shape.OpenString after (string (items_text is ++ after))
unfolding string
open-covers [] after p =
    elim (which (next_are 34 34 after)) [
      | inl is ↦
          let two = next_are-cons 34 34 after is in
          let rest = past_one (past_one after) in
          let end = IsEnd-trans after (past_one after) _ (past_one-end after) (IsEnd-trans (past_one after) rest _ (past_one-end (past_one after)) (raw_string-end rest)) in
          let within = IsEnd-length rest _ (raw_string-end rest) in
          rw is (farther shape.OpenString after (raw_string rest) end (omega (arith, ap length two)))
      | inr isnt ↦ rw isnt (line_string-open false after)
    ]
open-covers (One c ∷ is) after p =
    let two = neither (c == 34 || c == 10) (c == 92) p.0 in
    let one = neither (c == 34) (c == 10) two.0 in
    rw (one.0, one.1, two.1, line_string-over is after p.1) (line_string-open false after)
open-covers (Escaped c ∷ is) after p = rw (p.0, line_string-over is after p.1) (line_string-open false after)

open_escape-covers : (is : List Item) (after : Chars) → AreItems is → Covers shape.OpenString after (string (items_text is ++ 92 ∷ after))
unfolding string
open_escape-covers [] after p = line_string-open true after
open_escape-covers (One c ∷ is) after p =
    let two = neither (c == 34 || c == 10) (c == 92) p.0 in
    let one = neither (c == 34) (c == 10) two.0 in
    rw (one.0, one.1, two.1, line_string-over is (92 ∷ after) p.1) (line_string-open true after)
open_escape-covers (Escaped c ∷ is) after p = rw (p.0, line_string-over is (92 ∷ after) p.1) (line_string-open true after)

raw_string-over : (xs ys : Chars) → HasNoThree xs ys → raw_string (xs ++ ys) ≡ raw_string ys
raw_string-over [] ys p = refl
raw_string-over (x ∷ xs) ys p = rw p.0 (raw_string-over xs ys p.1)

RawString-covers : (body quotes after : Chars) → HasNoThree body (34 ∷ 34 ∷ 34 ∷ (quotes ++ after)) → Each (λ c. c == 34) quotes
    → Covers shape.RawString after (string (34 ∷ 34 ∷ (body ++ 34 ∷ 34 ∷ 34 ∷ (quotes ++ after))))
unfolding string in_run
RawString-covers body quotes after p each =
    rw (raw_string-over body (34 ∷ 34 ∷ 34 ∷ (quotes ++ after)) p, past-over run.Quotes quotes after each)
    (reached shape.RawString after _ (past-end run.Quotes after))

OpenRaw-covers : (body : Chars) → HasNoThree body [] → Covers shape.OpenString [] (string (34 ∷ 34 ∷ (body ++ [])))
unfolding string
OpenRaw-covers body p = rw (raw_string-over body [] p) (reached shape.OpenString [] [] (whole []))

string-covers : (s : Shape) (xs after : Chars) → IsString s xs after → Covers s after (string (xs ++ after))
string-covers shape.LineString xs after e =
    rw (e.text, append_assoc) (LineString-covers e.items after e.proper)
string-covers shape.RawString xs after e =
    rw (e.text, append_assoc) (RawString-covers e.body e.quotes after e.first_three e.only_quotes)
string-covers shape.OpenString xs after (inl e) = opened e.text where
  opened : (xs ≡ items_text e.items) ⊎ (xs ≡ items_text e.items ++ 92 ∷ []) → Covers shape.OpenString after (string (xs ++ after))
  opened (inl t) = rw t (open-covers e.items after e.proper)
  opened (inr t) = rw (t, append_assoc) (open_escape-covers e.items after e.proper)
string-covers shape.OpenString xs after (inr e) = rw (e.text, e.last) (OpenRaw-covers e.body e.no_three)
string-covers shape.Space xs after e = absurd e
string-covers shape.Comment xs after e = absurd e
string-covers shape.OpenComment xs after e = absurd e
string-covers shape.Plain xs after e = absurd e
string-covers shape.Operator xs after e = absurd e
string-covers shape.Backquoted xs after e = absurd e
string-covers shape.Number xs after e = absurd e
string-covers shape.Character xs after e = absurd e
string-covers shape.Apostrophe xs after e = absurd e
string-covers shape.Interpolated xs after e = absurd e
string-covers shape.Delimiter xs after e = absurd e
string-covers shape.Illegal xs after e = absurd e

-- ---- identifiers

abbrev pub last_is_underscore : Bool → Chars → Bool
last_is_underscore u [] = u
last_is_underscore u (c ∷ cs) = last_is_underscore (c == 95) cs

past_name-over : (u : Bool) (xs ys : Chars) → Each (λ c. is_letter_or_digit (class_of c)) xs
    → past_name u (xs ++ ys) ≡ past_name (last_is_underscore u xs) ys
past_name-over u [] ys e = refl
past_name-over u (x ∷ xs) ys e = rw e.0 (past_name-over (x == 95) xs ys e.1)

last_is_underscore-front : (u : Bool) (front : Chars) → last_is_underscore u (front ++ 95 ∷ []) ≡ true
last_is_underscore-front u [] = refl
last_is_underscore-front u (c ∷ front) = last_is_underscore-front (c == 95) front

past_name-over_operators : (xs after : Chars) → AreOperators xs after → IsEnd after (past_name true (xs ++ after))
unfolding begins_comment
past_name-over_operators [] after e = past_name-end true after
past_name-over_operators (x ∷ xs) after e = rw (e.0, e.1, e.2, past_operators-over xs after e.3) (past_operators-end after)

-- the name goes as far as a plain identifier does
name_goes : (run operators after : Chars) → Each (λ c. is_letter_or_digit (class_of c)) run → AreOperators operators after
    → (operators ≡ []) ⊎ ((front : Chars) × (run ≡ front ++ 95 ∷ []))
    → IsEnd after (past_name false (run ++ (operators ++ after)))
name_goes run operators after runs operates (inl none) =
    rw (none, past_name-over false run after runs) (past_name-end (last_is_underscore false run) after)
name_goes run operators after runs operates (inr some) =
    let ends : last_is_underscore false run ≡ true = ap (last_is_underscore false) some.1 ∙ last_is_underscore-front false some.0 in
    rw (past_name-over false run (operators ++ after) runs, ends) (past_name-over_operators operators after operates)

named-covers : (from after rest : Chars) → IsEnd after rest → Covers shape.Plain after (named from rest)
named-covers from after rest e =
    elim (which (next_is 34 rest && not (is_reserved (bytes_up_to from rest)))) [
      | inl is ↦
          let shorter = past_one-shorter 34 rest (both (next_is 34 rest) (not (is_reserved (bytes_up_to from rest))) is).0 in
          let within = IsEnd-length after rest e in
          let end = string-end (past_one rest) in
          let string_within = IsEnd-length (past_one rest) _ end in
          rw is (farther shape.Plain after (shape.Interpolated, (string (past_one rest)).1)
          (IsEnd-trans after rest _ e (IsEnd-trans rest (past_one rest) _ (past_one-end rest) end)) (omega arith))
      | inr isnt ↦ rw isnt (reached shape.Plain after rest e)
    ]

Plain-covers : (c : ℕ) (run operators after : Chars) → class_of c ≡ class.Letter → Each (λ c. is_letter_or_digit (class_of c)) run
    → AreOperators operators after → (operators ≡ []) ⊎ ((front : Chars) × (run ≡ front ++ 95 ∷ []))
    → Covers shape.Plain after (read (c ∷ (run ++ (operators ++ after))))
Plain-covers c run operators after e runs operates underscore =
    rw (read-as c (run ++ (operators ++ after)) class.Letter e)
    (named-covers (c ∷ (run ++ (operators ++ after))) after (past_name false (run ++ (operators ++ after))) (name_goes run operators after runs operates underscore))

name_stops : (u : Bool) (zs : Chars) → past_name u (34 ∷ zs) ≡ 34 ∷ zs
name_stops true zs = rw quote refl
name_stops false zs = rw quote refl

operators_stop : (xs zs : Chars) → AreOperators xs (34 ∷ zs) → past_name true (xs ++ 34 ∷ zs) ≡ 34 ∷ zs
unfolding begins_comment
operators_stop [] zs e = name_stops true zs
operators_stop (x ∷ xs) zs e = rw (e.0, e.1, e.2, past_operators-over xs (34 ∷ zs) e.3) (rw quote refl)

name_ends : (run operators zs : Chars) → Each (λ c. is_letter_or_digit (class_of c)) run → AreOperators operators (34 ∷ zs)
    → (operators ≡ []) ⊎ ((front : Chars) × (run ≡ front ++ 95 ∷ []))
    → past_name false (run ++ (operators ++ 34 ∷ zs)) ≡ 34 ∷ zs
name_ends run operators zs runs operates (inl none) =
    rw (none, past_name-over false run (34 ∷ zs) runs) (name_stops (last_is_underscore false run) zs)
name_ends run operators zs runs operates (inr some) =
    let ends : last_is_underscore false run ≡ true = ap (last_is_underscore false) some.1 ∙ last_is_underscore-front false some.0 in
    rw (past_name-over false run (operators ++ 34 ∷ zs) runs, ends) (operators_stop operators zs operates)

taken_front : (xs ys : List ℕ) → take (length (xs ++ ys) - length ys) (xs ++ ys) ≡ xs
taken_front xs ys =
    let n : length (xs ++ ys) - length ys ≡ length xs = omega (arith, length-append xs ys) in
    ap (λ n. take n (xs ++ ys)) n ∙ take-append_seam xs ys

pub bytes_up_to-front : (xs ys : Chars) → bytes_up_to (xs ++ ys) ys ≡ encode_utf8_all xs
bytes_up_to-front xs ys = rw encodes-append (taken_front (encode_utf8_all xs) (encode_utf8_all ys))

Interpolated-covers : (c : ℕ) (run operators : Chars) (s : Shape) (xs after : Chars) → class_of c ≡ class.Letter
    → Each (λ c. is_letter_or_digit (class_of c)) run → AreOperators operators (34 ∷ (xs ++ after))
    → (operators ≡ []) ⊎ ((front : Chars) × (run ≡ front ++ 95 ∷ [])) → is_reserved (encode_utf8_all (c ∷ (run ++ operators))) ≡ false
    → IsString s xs after → Covers shape.Interpolated after (read (c ∷ (run ++ (operators ++ 34 ∷ (xs ++ after)))))
Interpolated-covers c run operators s xs after e runs operates underscore reserved strings =
    let zs = xs ++ after in
    let bytes : bytes_up_to (c ∷ (run ++ (operators ++ 34 ∷ zs))) (34 ∷ zs) ≡ encode_utf8_all (c ∷ (run ++ operators)) =
    ap (λ ws. bytes_up_to (c ∷ ws) (34 ∷ zs)) (sym (append_assoc run operators (34 ∷ zs))) ∙ bytes_up_to-front (c ∷ (run ++ operators)) (34 ∷ zs) in
    rw (read-as c (run ++ (operators ++ 34 ∷ zs)) class.Letter e, name_ends run operators zs runs operates underscore, bytes, reserved)
    (reached shape.Interpolated after _ (string-covers s xs after strings).goes)

-- ---- all shapes

pub Comment-covers : (piece after : Chars) → IsLineComment piece ⊎ IsBlockComment piece → Covers shape.Comment after (read (piece ++ after))
Comment-covers piece after (inl e) = rw e.text (Line-covers e.line after e.one_line)
Comment-covers piece after (inr e) = rw e.text (Block-covers e.inside after e.proper)

pub quoted-covers : (s : Shape) (piece after : Chars) → IsQuoted s piece after → Covers s after (read (piece ++ after))
quoted-covers s piece after e =
    rw (e.text, read-as 34 (e.string ++ after) class.Quote quote) (string-covers s e.string after e.strings)

pub Illegal-covers : (piece after : Chars) → IsOne class.Other piece ⊎ IsOne class.Backquote piece → Covers shape.Illegal after (read (piece ++ after))
Illegal-covers piece after (inl e) = rw e.text (Other-covers e.first after e.begins)
Illegal-covers piece after (inr e) = rw e.text (Backquote-covers e.first after e.begins)

pub Interpolated-fits : (piece after : Chars) → IsInterpolated piece after → Covers shape.Interpolated after (read (piece ++ after))
Interpolated-fits piece after e =
    let p = e.plain in
    let reserved : is_reserved (encode_utf8_all (p.letter ∷ (p.run ++ p.operators))) ≡ false = ap (λ n. is_reserved (encode_utf8_all n)) (sym p.text) ∙ e.not_reserved in
    let text : piece ++ after ≡ p.letter ∷ (p.run ++ (p.operators ++ 34 ∷ (e.string ++ after))) =
    ap (λ ws. ws ++ after) (e.text ∙ ap (λ n. n ++ 34 ∷ e.string) p.text) ∙ append_assoc (p.letter ∷ (p.run ++ p.operators)) (34 ∷ e.string) after
    ∙ ap (λ ws. p.letter ∷ ws) (append_assoc p.run p.operators (34 ∷ (e.string ++ after))) in
    rw text (Interpolated-covers p.letter p.run p.operators e.shape e.string after p.begins p.runs p.operates p.low_line reserved e.strings)

pub Backquoted-fits : (piece after : Chars) → IsBackquoted piece → Covers shape.Backquoted after (read (piece ++ after))
Backquoted-fits piece after e = rw (e.text, append_assoc) (Backquoted-covers e.first e.others after e.between)

pub Character-fits : (piece after : Chars) → IsCharacter piece → Covers shape.Character after (read (piece ++ after))
Character-fits piece after e = rw (e.text, append_assoc) (Character-covers e.quoted after e.proper)

pub Plain-fits : (piece after : Chars) → IsPlain piece after → Covers shape.Plain after (read (piece ++ after))
Plain-fits piece after e = rw (e.text, append_assoc) (Plain-covers e.letter e.run e.operators after e.begins e.runs e.operates e.low_line)

pub Operator-fits : (piece after : Chars) → IsOperator piece after → Covers shape.Operator after (read (piece ++ after))
Operator-fits piece after e =
    let P : Chars → Type 0 = λ p. AreOperators p after in
    rw e.text (Operator-covers e.first e.others after (subst P e.text e.operates))
