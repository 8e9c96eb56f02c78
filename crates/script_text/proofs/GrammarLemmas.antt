-- A text and its lines.
use Rattle.std.proofs.Common.{◌≡◌, ℕ, zero, suc, ◌+◌, ◌<◌, Bool, true, false, cond, inl, inr, List, [], ◌∷◌, ◌++◌, length, take, drop, append-nil, slice_get, Option, Some, None, Result, Ok, Err, refl, sym, ap, ◌∙◌, add-one, add-zero, arith}
use Rattle.ask_history.specs.declared.script.Line.{Line}
use Rattle.script_text.specs.declared.kinds.ScriptKind.{ScriptKind}
use Rattle.script_text.specs.declared.refused.ScriptRefused.{ScriptRefused}
use Rattle.script_text.specs.declared.refused.ScriptRefused.TheVariants.{BadLine, NoMemory}
use Rattle.script_text.specs.Words.{Bytes, lines_of, is_passed}
use Rattle.script_text.specs.Grammar.{IsLineAt, AreLines, IsScript, IsFirstBad}
use Rattle.script_text.specs.Reading.{behind_line, lines_from, lines_read, line_read}
use Rattle.std.proofs.lemmas.Option.{slice_get_within}
use Rattle.std.proofs.lemmas.List.{length-take-le}
use Rattle.script_text.specs.Standing.{holder_at}
use Rattle.script_text.specs.Refusing.{IsReading, IsRefused}
use Rattle.script_text.proofs.WrittenOrders.{not_some, same_some}
use Rattle.script_text.proofs.WrittenLines.{line_is, line_read-text, is_passed-line}

abbrev lines_or : List Line → Result (List Line) ℕ → List Line
lines_or lines (Ok found) = found
lines_or lines (Err number) = lines

abbrev number_or : ℕ → Result (List Line) ℕ → ℕ
number_or number (Ok found) = number
number_or number (Err found) = found

-- ---- lines that are read

-- what is read to the end is lines
lines_are : (script : ScriptKind) (pieces : List Bytes) (above : List Line) (number : ℕ) (all : List Line) → lines_from script above number pieces ≡ Ok all → AreLines script above pieces all
lines_are script [] above number all h = sym (ap (lines_or above) h)
lines_are script (bytes ∷ more) above number all h = by (is_passed bytes) refl (line_read script above bytes) refl (lines_are script more) h
  where
    by : (b : Bool) → is_passed bytes ≡ b → (found : Option Line) → line_read script above bytes ≡ found
        → ((a : List Line) (n : ℕ) (l : List Line) → lines_from script a n more ≡ Ok l → AreLines script a more l)
        → cond b (lines_from script above (number + 1) more) (behind_line (λ all. lines_from script all (number + 1) more) above number found) ≡ Ok all
        → AreLines script above (bytes ∷ more) all
    by true passed found is rest h = inl (passed, rest above (number + 1) all h)
    by false passed None is rest h = absurd (cc)
    by false passed (Some line) is rest h = inr (line, line_is script above bytes line is, rest (above ++ line ∷ []) (number + 1) all h)

-- what is refused is refused at the first line that is none
record IsBadBehind (script : ScriptKind) (above : List Line) (pieces : List Bytes) (first number : ℕ) : Type 0 where
  before : ℕ
  counted : number ≡ first + before
  lines : List Line
  read : AreLines script above (take before pieces) lines
  bytes : Bytes
  there : slice_get pieces before ≡ Some bytes
  not_passed : is_passed bytes ≡ false
  no_line : (line : Line) → IsLineAt script lines line bytes → ⊥

bad_line : (script : ScriptKind) (above : List Line) (bytes : Bytes) → line_read script above bytes ≡ None → (line : Line) → IsLineAt script above line bytes → ⊥
bad_line script above bytes none line is = not_some line (sym none ∙ line_read-text script above bytes line is)

bad_is : (script : ScriptKind) (pieces : List Bytes) (above : List Line) (first number : ℕ) → lines_from script above first pieces ≡ Err number → IsBadBehind script above pieces first number
bad_is script [] above first number h = absurd (cc)
bad_is script (bytes ∷ more) above first number h = by (is_passed bytes) refl (line_read script above bytes) refl (bad_is script more) h
  where
    by : (b : Bool) → is_passed bytes ≡ b → (found : Option Line) → line_read script above bytes ≡ found
        → ((a : List Line) (f n : ℕ) → lines_from script a f more ≡ Err n → IsBadBehind script a more f n)
        → cond b (lines_from script above (first + 1) more) (behind_line (λ all. lines_from script all (first + 1) more) above first found) ≡ Err number
        → IsBadBehind script above (bytes ∷ more) first number
    by true passed found is rest h =
        let bad = rest above (first + 1) number h in
        record {
          before = suc bad.before;
          counted = omega (arith, bad.counted);
          lines = bad.lines;
          read = inl (passed, bad.read);
          bytes = bad.bytes;
          there = bad.there;
          not_passed = bad.not_passed;
          no_line = bad.no_line;
        }
    by false passed None is rest h =
        let counted : number ≡ first = sym (ap (number_or first) h) in
        record { before = 0; counted = omega arith; lines = above; read = refl; bytes = bytes; there = refl; not_passed = passed; no_line = bad_line script above bytes is }
    by false passed (Some line) is rest h =
        let bad = rest (above ++ line ∷ []) (first + 1) number h in
        record {
          before = suc bad.before;
          counted = omega (arith, bad.counted);
          lines = bad.lines;
          read = inr (line, line_is script above bytes line is, bad.read);
          bytes = bad.bytes;
          there = bad.there;
          not_passed = bad.not_passed;
          no_line = bad.no_line;
        }

pub script_from_reading : (script : ScriptKind) (text : Bytes) (lines : List Line) → lines_read script text ≡ Ok lines → IsScript script text lines
script_from_reading script text lines h = lines_are script (lines_of text) [] 1 lines h

pub bad_from_reading : (script : ScriptKind) (text : Bytes) (number : ℕ) → lines_read script text ≡ Err number → IsFirstBad script text number
bad_from_reading script text number h =
    let bad = bad_is script (lines_of text) [] 1 number h in
    record {
      before = bad.before;
      counted = omega (arith, bad.counted);
      above = bad.lines;
      read = bad.read;
      bytes = bad.bytes;
      there = bad.there;
      not_passed = bad.not_passed;
      no_line = bad.no_line;
    }

pub refused_from_reading : {A : Type 0} (script : ScriptKind) (text : Bytes) (lines : A → List Line) (r : ScriptRefused) → IsReading lines (lines_read script text) (Err r) → IsRefused script text r
refused_from_reading script text lines (BadLine number) h = bad_from_reading script text number h
refused_from_reading script text lines NoMemory h = tt

pub ruleset reading_rules = (script_from_reading, refused_from_reading)

-- ---- lines are read as they are

not_passed_line : (script : ScriptKind) (above : List Line) (line : Line) (bytes : Bytes) → IsLineAt script above line bytes → is_passed bytes ≡ false
not_passed_line script above line bytes is = ap is_passed is.text ∙ is_passed-line (holder_at above line.level) line

-- after lines, more is read after all of them
reads_on : (script : ScriptKind) (pieces more : List Bytes) (above : List Line) (number : ℕ) (all : List Line) → AreLines script above pieces all
    → lines_from script above number (pieces ++ more) ≡ lines_from script all (number + length pieces) more
reads_on script [] more above number all are = (λ i. lines_from script (sym are i) (sym (add-zero number) i) more)
reads_on script (bytes ∷ pieces) more above number all (inl (passed, rest)) =
    rw passed (reads_on script pieces more above (number + 1) all rest ∙ counted number pieces script all more)
  where
    counted : (number : ℕ) (pieces : List Bytes) (script : ScriptKind) (all : List Line) (more : List Bytes)
        → lines_from script all (number + 1 + length pieces) more ≡ lines_from script all (number + length (bytes ∷ pieces)) more
    counted number pieces script all more = let same : number + 1 + length pieces ≡ number + length (bytes ∷ pieces) = omega arith in ap (λ n. lines_from script all n more) same
reads_on script (bytes ∷ pieces) more above number all (inr (line, is, rest)) =
    let shown : is_passed bytes ≡ false = not_passed_line script above line bytes is in
    let read : line_read script above bytes ≡ Some line = line_read-text script above bytes line is in
    let same : number + 1 + length pieces ≡ number + length (bytes ∷ pieces) = omega arith in
    rw (shown, read) (reads_on script pieces more (above ++ line ∷ []) (number + 1) all rest ∙ ap (λ n. lines_from script all n more) same)

-- The lines that a text says are those that are read.
pub reading_from_script : (script : ScriptKind) (text : Bytes) (lines : List Line) → IsScript script text lines → lines_read script text ≡ Ok lines
reading_from_script script text lines is =
    ap (lines_from script [] 1) (sym (append-nil (lines_of text))) ∙ reads_on script (lines_of text) [] [] 1 lines is

-- and there are no others
pub one_script : (script : ScriptKind) (text : Bytes) (a b : List Line) → IsScript script text a → IsScript script text b → a ≡ b
one_script script text a b first second = ap (lines_or a) (sym (reading_from_script script text a first) ∙ reading_from_script script text b second)

no_line_read : (script : ScriptKind) (above : List Line) (bytes : Bytes) (found : Option Line) → line_read script above bytes ≡ found → ((line : Line) → IsLineAt script above line bytes → ⊥) → found ≡ None
no_line_read script above bytes None here none = refl
no_line_read script above bytes (Some line) here none = absurd (none line (line_is script above bytes line here))

cut_there : {A : Type 0} (xs : List A) (n : ℕ) (x : A) → slice_get xs n ≡ Some x → xs ≡ take n xs ++ x ∷ drop (n + 1) xs
cut_there [] n x h = not_some x h
cut_there (y ∷ ys) zero x h = ap (λ z. z ∷ ys) (same_some y x h)
cut_there (y ∷ ys) (suc n) x h = rw (cut_next n) (ap (λ rest. y ∷ rest) (cut_there ys n x h))
  where
    cut_next : (n : ℕ) → drop (suc n + 1) (y ∷ ys) ≡ drop (n + 1) ys
    cut_next n = rw (add-one, add-one) refl

-- The first line that is outside the grammar is the one that is refused.
pub reading_from_bad : (script : ScriptKind) (text : Bytes) (number : ℕ) → IsFirstBad script text number → lines_read script text ≡ Err number
reading_from_bad script text number bad =
    let pieces = lines_of text in
    let rest = drop (bad.before + 1) pieces in
    let within : bad.before < length pieces = slice_get_within pieces bad.before bad.bytes bad.there in
    let counted : 1 + length (take bad.before pieces) ≡ number = omega (arith, length-take-le bad.before pieces (omega arith), bad.counted) in
    let none : line_read script bad.above bad.bytes ≡ None = no_line_read script bad.above bad.bytes _ refl bad.no_line in
    ap (lines_from script [] 1) (cut_there pieces bad.before bad.bytes bad.there)
    ∙ reads_on script (take bad.before pieces) (bad.bytes ∷ rest) [] 1 bad.above bad.read
    ∙ rw (bad.not_passed, none) (ap Err counted)
