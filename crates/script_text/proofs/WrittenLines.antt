-- The text of a line, and the line that a text is.
use Rattle.std.proofs.Common.{◌≡◌, ℕ, zero, suc, ◌*◌, ◌/◌, ◌<◌, Bool, true, false, ◌&&◌, ◌==◌, cond, codes, List, [], ◌∷◌, ◌++◌, drop, replicate, option_and_then, Option, Some, None, refl, sym, ap, ◌∙◌, subst, arith}
use Rattle.std.specs.Option.{option_map}
use Rattle.std.specs.List.{list_all, join_with_byte, prefix_len}
use Rattle.std.specs.Fmt.{decimal}
use Rattle.std.specs.Char.{is_ascii_digit}
use Rattle.std.proofs.lemmas.List.Folds.{list_all-append}
use Rattle.std.proofs.lemmas.Bool.{false≢true}
use Rattle.std.proofs.lemmas.Bool.Decides.{nat_tests}
use Rattle.pc_terms.specs.Number.{number_of}
use Rattle.ask_history.specs.declared.calls.Call.TheVariants.{Reload, Remove, TypeAt, MembersAt, ScopeAt, LinkAt, Structure, LoadedTyped}
use Rattle.ask_history.specs.declared.script.Order.{Order}
use Rattle.ask_history.specs.declared.script.Order.TheVariants as order
use Rattle.ask_history.specs.declared.script.Line.{Line}
use Rattle.script_text.specs.declared.kinds.Holder.{Holder}
use Rattle.script_text.specs.declared.kinds.Holder.TheVariants as holder
use Rattle.script_text.specs.declared.kinds.Numbers.{Numbers}
use Rattle.script_text.specs.declared.kinds.ScriptKind.{ScriptKind}
use Rattle.script_text.specs.declared.kinds.ScriptKind.TheVariants as kind
use Rattle.script_text.specs.Words.{Bytes, split, is_passed, is_word_byte, is_word, is_name, is_number}
use Rattle.script_text.specs.Pieces.{is_other}
use Rattle.script_text.specs.LineText.{pair_words, order_words, number_word, number_words, line_text}
use Rattle.script_text.specs.Standing.{holder_at, sibling_at, numbers_in, does_not_fall, is_held, is_placed, is_meant, are_pairs, is_written, may_stand}
use Rattle.script_text.specs.Grammar.{IsLineAt}
use Rattle.script_text.specs.Reading.{exactly_two, order_from, turn_of, both_numbers, check_and_turn, numbers_of, is_space, with_level, unindented, words_of, meant_line, line_of, if_not_below, inner_numbers, inner_line, inner_line_in, line_at, line_read}
use Rattle.script_text.proofs.WordLemmas.{left_of_both, right_of_both, name_is_word}
use Rattle.script_text.proofs.NumberTexts.{number_text, number_of-decimal, digits-decimal}
use Rattle.script_text.proofs.Joins.{lacks, split-join, join-split, spaces_first, prefix_len-spaces, drop-spaces, half-double}
use Rattle.script_text.proofs.WrittenOrders.{not_some, same_some, made_of, then_of, tested_of, order_is, order_from-words}

-- ---- numbers

record AreNumbers (above : Holder) (first : Bytes) (numbers : Numbers) : Type 0 where
  word : first ≡ number_word above numbers
  check : is_number numbers.check ≡ true
  turn : is_number numbers.turn ≡ true
  held : (sibling : Option Numbers) → does_not_fall sibling numbers ≡ true → is_held (Some above) sibling numbers ≡ true

two_pieces_are : (pieces : List Bytes) (two : Bytes × Bytes) → exactly_two pieces ≡ Some two → pieces ≡ two.0 ∷ two.1 ∷ []
two_pieces_are [] two h = not_some two h
two_pieces_are (a ∷ []) two h = not_some two h
two_pieces_are (a ∷ b ∷ []) two h = ap (λ (t : Bytes × Bytes). t.0 ∷ t.1 ∷ []) (same_some (a, b) two h)
two_pieces_are (a ∷ b ∷ c ∷ rest) two h = not_some two h

turn_is : (digits : Bytes) (numbers : Numbers) → turn_of digits ≡ Some numbers → AreNumbers holder.Ask (64 ∷ digits) numbers
turn_is digits numbers h =
    let found = made_of (λ turn. record { check = 0; turn = turn }) (number_of digits) numbers h in
    let text = number_text digits found.of found.here in
    subst (λ (n : Numbers). AreNumbers holder.Ask (64 ∷ digits) n) (sym found.is)
    (record { word = ap (λ d. 64 ∷ d) text.0; check = refl; turn = text.1; held = λ sibling falls. falls })

check_and_turn_is : (digits : Bytes) (numbers : Numbers) → check_and_turn digits ≡ Some numbers → AreNumbers holder.Idle (64 ∷ digits) numbers
check_and_turn_is digits numbers h =
    let two = then_of (λ two. both_numbers two.0 two.1) (exactly_two (split 46 digits)) numbers h in
    let check = then_of (λ n. option_map (λ t. record { check = n; turn = t }) (number_of two.of.1)) (number_of two.of.0) numbers two.is in
    let turn = made_of (λ t. record { check = check.of; turn = t }) (number_of two.of.1) numbers check.is in
    let check_text = number_text two.of.0 check.of check.here in
    let turn_text = number_text two.of.1 turn.of turn.here in
    let joined : digits ≡ two.of.0 ++ (46 ∷ two.of.1) = sym (join-split 46 digits) ∙ ap (join_with_byte 46) (two_pieces_are (split 46 digits) two.of two.here) in
    subst (λ (n : Numbers). AreNumbers holder.Idle (64 ∷ digits) n) (sym turn.is)
    (record {
      word = ap (λ d. 64 ∷ d) (joined ∙ (λ i. check_text.0 i ++ (46 ∷ turn_text.0 i)));
      check = check_text.1;
      turn = turn_text.1;
      held = λ sibling falls. falls;
    })

numbers_are : (above : Holder) (first : Bytes) (numbers : Numbers) → numbers_of above first ≡ Some numbers → AreNumbers above first numbers
numbers_are above [] numbers h = not_some numbers h
numbers_are holder.Ask (b ∷ bs) numbers h =
    let at = tested_of (b == 64) (turn_of bs) numbers h in
    let is : 64 ≡ b = grind (arith, nat_tests, at.passed) in
    subst (λ x. AreNumbers holder.Ask (x ∷ bs) numbers) is (turn_is bs numbers at.is)
numbers_are holder.Idle (b ∷ bs) numbers h =
    let at = tested_of (b == 64) (check_and_turn bs) numbers h in
    let is : 64 ≡ b = grind (arith, nat_tests, at.passed) in
    subst (λ x. AreNumbers holder.Idle (x ∷ bs) numbers) is (check_and_turn_is bs numbers at.is)

-- ---- no spaces in words

lacks-digits : (c : ℕ) (digits : Bytes) → c < 48 → list_all is_ascii_digit digits ≡ true → lacks c digits ≡ true
lacks-digits c [] low h = refl
lacks-digits c (b ∷ bs) low h =
    let digit : is_ascii_digit b ≡ true = left_of_both _ _ h in
    let here : is_other c b ≡ true = grind (arith, nat_tests) in
    rw here (lacks-digits c bs low (right_of_both _ _ h))

lacks-decimal : (c n : ℕ) → c < 48 → is_number n ≡ true → lacks c (decimal n) ≡ true
lacks-decimal c n low h = lacks-digits c (decimal n) low (digits-decimal n h)

lacks-bytes : (word : Bytes) → list_all is_word_byte word ≡ true → lacks 32 word ≡ true
lacks-bytes [] h = refl
lacks-bytes (b ∷ bs) h =
    let own : is_word_byte b ≡ true = left_of_both _ _ h in
    let here : is_other 32 b ≡ true = grind (arith, nat_tests) in
    rw here (lacks-bytes bs (right_of_both _ _ h))

lacks-word : (word : Bytes) → is_word word ≡ true → lacks 32 word ≡ true
lacks-word [] h = absurd (false≢true h)
lacks-word (b ∷ bs) h = lacks-bytes (b ∷ bs) h

lacks-name : (name : Bytes) → is_name name ≡ true → lacks 32 name ≡ true
lacks-name name h = lacks-word name (name_is_word name h)

lack-names : (names : List Bytes) → list_all is_name names ≡ true → list_all (lacks 32) names ≡ true
lack-names [] h = refl
lack-names (name ∷ names) h =
    let named : lacks 32 name ≡ true = lacks-name name (left_of_both (is_name name) (list_all is_name names) h) in
    rw named (lack-names names (right_of_both _ _ h))

lack-pairs : (names : List Bytes) (pairs : List (Bytes × Bytes)) → are_pairs names pairs ≡ true → list_all (lacks 32) (pair_words pairs) ≡ true
lack-pairs names [] h = refl
lack-pairs names (pair ∷ pairs) h =
    let both : (is_name pair.0 && is_word pair.1) ≡ true = left_of_both _ _ (left_of_both _ _ h) in
    let name : lacks 32 pair.0 ≡ true = lacks-name pair.0 (left_of_both (is_name pair.0) (is_word pair.1) both) in
    let path : lacks 32 pair.1 ≡ true = lacks-word pair.1 (right_of_both (is_name pair.0) (is_word pair.1) both) in
    rw (name, path) (lack-pairs (names ++ pair.0 ∷ []) pairs (right_of_both _ _ h))

lack-offset : (name : Bytes) (n : ℕ) → (is_name name && is_number n) ≡ true → list_all (lacks 32) (name ∷ decimal n ∷ []) ≡ true
lack-offset name n h =
    let named : lacks 32 name ≡ true = lacks-name name (left_of_both (is_name name) (is_number n) h) in
    let digits : lacks 32 (decimal n) ≡ true = lacks-decimal 32 n (omega arith) (right_of_both (is_name name) (is_number n) h) in
    rw (named, digits) refl

lack-file : (name : Bytes) → is_name name ≡ true → list_all (lacks 32) (name ∷ []) ≡ true
lack-file name h = rw (lacks-name name h) refl

lack-number : (n : ℕ) → is_number n ≡ true → list_all (lacks 32) (decimal n ∷ []) ≡ true
lack-number n h = let digits : lacks 32 (decimal n) ≡ true = lacks-decimal 32 n (omega arith) h in rw digits refl

order_lacks : (made : Order) → is_written made ≡ true → list_all (lacks 32) (order_words made) ≡ true
order_lacks (order.Call (Reload pairs)) h = lack-pairs [] pairs (right_of_both _ _ h)
order_lacks (order.Call (Remove names)) h = lack-names names (right_of_both _ _ h)
order_lacks (order.Call (TypeAt name n)) h = lack-offset name n h
order_lacks (order.Call (MembersAt name n)) h = lack-offset name n h
order_lacks (order.Call (ScopeAt name n)) h = lack-offset name n h
order_lacks (order.Call (LinkAt name n)) h = lack-offset name n h
order_lacks (order.Call (Structure name)) h = lack-file name (left_of_both (is_name name) true h)
order_lacks (order.Call (LoadedTyped name)) h = lack-file name (left_of_both (is_name name) true h)
order_lacks (order.Cancel k) h = lack-number k h
order_lacks order.Close h = refl
order_lacks (order.Wait k) h = lack-number k h
order_lacks order.Idle h = refl

-- ---- what words begin with

-- the first word begins with a byte that is no space
record Begins (words : List Bytes) : Type 0 where
  byte : ℕ
  bytes : Bytes
  more : List Bytes
  is : words ≡ (byte ∷ bytes) ∷ more
  other : (byte == 32) ≡ false
  shown : (byte == 35) ≡ false

order_begins : (made : Order) → Begins (order_words made)
order_begins (order.Call (Reload pairs)) = record { byte = 114; bytes = codes "eload"; more = pair_words pairs; is = refl; other = refl; shown = refl }
order_begins (order.Call (Remove names)) = record { byte = 114; bytes = codes "emove"; more = names; is = refl; other = refl; shown = refl }
order_begins (order.Call (TypeAt name n)) = record { byte = 116; bytes = codes "ype"; more = name ∷ decimal n ∷ []; is = refl; other = refl; shown = refl }
order_begins (order.Call (MembersAt name n)) = record { byte = 109; bytes = codes "embers"; more = name ∷ decimal n ∷ []; is = refl; other = refl; shown = refl }
order_begins (order.Call (ScopeAt name n)) = record { byte = 115; bytes = codes "cope"; more = name ∷ decimal n ∷ []; is = refl; other = refl; shown = refl }
order_begins (order.Call (LinkAt name n)) = record { byte = 108; bytes = codes "ink"; more = name ∷ decimal n ∷ []; is = refl; other = refl; shown = refl }
order_begins (order.Call (Structure name)) = record { byte = 115; bytes = codes "tructure"; more = name ∷ []; is = refl; other = refl; shown = refl }
order_begins (order.Call (LoadedTyped name)) = record { byte = 116; bytes = codes "yped"; more = name ∷ []; is = refl; other = refl; shown = refl }
order_begins (order.Cancel k) = record { byte = 99; bytes = codes "ancel"; more = decimal k ∷ []; is = refl; other = refl; shown = refl }
order_begins order.Close = record { byte = 99; bytes = codes "lose"; more = []; is = refl; other = refl; shown = refl }
order_begins (order.Wait k) = record { byte = 119; bytes = codes "ait"; more = decimal k ∷ []; is = refl; other = refl; shown = refl }
order_begins order.Idle = record { byte = 105; bytes = codes "dle"; more = []; is = refl; other = refl; shown = refl }

line_begins : (above : Option Holder) (line : Line) → Begins (number_words above line ++ order_words line.order)
line_begins None line = order_begins line.order
line_begins (Some holder.Ask) line = record { byte = 64; bytes = decimal line.turn; more = order_words line.order; is = refl; other = refl; shown = refl }
line_begins (Some holder.Idle) line = record { byte = 64; bytes = decimal line.check ++ (46 ∷ decimal line.turn); more = order_words line.order; is = refl; other = refl; shown = refl }

record JoinBegins (words : List Bytes) : Type 0 where
  byte : ℕ
  bytes : Bytes
  is : join_with_byte 32 words ≡ byte ∷ bytes
  other : (byte == 32) ≡ false
  shown : (byte == 35) ≡ false

join-begins : (words : List Bytes) → Begins words → JoinBegins words
join-begins words begins = by begins.more begins.is
  where
    by : (more : List Bytes) → words ≡ (begins.byte ∷ begins.bytes) ∷ more → JoinBegins words
    by [] is = record { byte = begins.byte; bytes = begins.bytes; is = ap (join_with_byte 32) is; other = begins.other; shown = begins.shown }
    by (next ∷ more) is =
        record { byte = begins.byte; bytes = begins.bytes ++ (32 ∷ join_with_byte 32 (next ∷ more)); is = ap (join_with_byte 32) is; other = begins.other; shown = begins.shown }

-- ---- levels

unindented_is : (bytes : Bytes) (found : ℕ × Bytes) → unindented bytes ≡ Some found → bytes ≡ replicate (2 * found.0) 32 ++ found.1
unindented_is bytes found h =
    let indent = prefix_len is_space bytes in
    let even = tested_of (2 * (indent / 2) == indent) (Some (indent / 2, drop indent bytes)) found h in
    let is : indent ≡ 2 * (indent / 2) = grind (arith, nat_tests, even.passed) in
    subst (λ (f : ℕ × Bytes). bytes ≡ replicate (2 * f.0) 32 ++ f.1) (same_some (indent / 2, drop indent bytes) found even.is)
    (spaces_first bytes ∙ ap (λ n. replicate n 32 ++ drop indent bytes) is)

same_level : (level : ℕ) → (2 * (2 * level / 2) == 2 * level) ≡ true
same_level level = rw (half-double level) (grind (arith, nat_tests))

with_level-spaces : (level indent : ℕ) (rest : Bytes) → indent ≡ 2 * level → with_level indent (replicate (2 * level) 32 ++ rest) ≡ Some (level, rest)
with_level-spaces level indent rest is =
    rw (is, same_level level) (λ i. Some (half-double level i, drop-spaces (2 * level) rest i))

unindented-text : (level b : ℕ) (rest : Bytes) → (b == 32) ≡ false → unindented (replicate (2 * level) 32 ++ b ∷ rest) ≡ Some (level, b ∷ rest)
unindented-text level b rest other = with_level-spaces level (prefix_len is_space (replicate (2 * level) 32 ++ b ∷ rest)) (b ∷ rest) (prefix_len-spaces (2 * level) b rest other)

-- ---- a line that is read

record IsLineOf (script : ScriptKind) (above : List Line) (level : ℕ) (numbers : Numbers) (words : List Bytes) (line : Line) : Type 0 where
  own : Order
  is : line ≡ record { level = level; check = numbers.check; turn = numbers.turn; order = own }
  same : words ≡ order_words own
  written : is_written own ≡ true
  meant : is_meant script above own ≡ true

line_of_is : (script : ScriptKind) (above : List Line) (level : ℕ) (numbers : Numbers) (words : List Bytes) (line : Line)
    → line_of script above level numbers words ≡ Some line → IsLineOf script above level numbers words line
line_of_is script above level numbers words line h =
    let found = then_of (meant_line script above level numbers) (order_from words) line h in
    let made : Line = record { level = level; check = numbers.check; turn = numbers.turn; order = found.of } in
    let tested = tested_of (is_meant script above found.of) (Some made) line found.is in
    let read = order_is words found.of found.here in
    record { own = found.of; is = sym (same_some made line tested.is); same = read.same; written = read.written; meant = tested.passed }

-- the words are those of a line of this level that may stand there
record IsLineHere (script : ScriptKind) (above : List Line) (level : ℕ) (words : List Bytes) (line : Line) : Type 0 where
  here : line.level ≡ level
  same : words ≡ number_words (holder_at above level) line ++ order_words line.order
  stands : may_stand script above line ≡ true

six : (a b c d e f : Bool) → a ≡ true → b ≡ true → c ≡ true → d ≡ true → e ≡ true → f ≡ true → (a && b && c && d && e && f) ≡ true
six a b c d e f p q r s t u = rw (p, q, r, s, t, u) refl

placed_top : (script : ScriptKind) (above : List Line) (own : Order) → is_placed script above (record { level = 0; check = 0; turn = 0; order = own }) ≡ true
placed_top kind.Client above own = refl
placed_top kind.Schedule above own = refl

top_is : (script : ScriptKind) (above : List Line) (words : List Bytes) (line : Line)
    → line_of script above 0 (record { check = 0; turn = 0 }) words ≡ Some line → IsLineHere script above 0 words line
top_is script above words line h =
    let read = line_of_is script above 0 (record { check = 0; turn = 0 }) words line h in
    subst (λ (l : Line). IsLineHere script above 0 words l) (sym read.is)
    (record { here = refl; same = read.same; stands = six true true true _ _ _ refl refl refl read.written (placed_top script above read.own) read.meant })

inner_is : (above : List Line) (level : ℕ) (words : List Bytes) (line : Line) → (level == 0) ≡ false → is_number level ≡ true
    → inner_line above level words ≡ Some line → IsLineHere kind.Schedule above level words line
inner_is above level [] line not_zero fits h = not_some line h
inner_is above level (first ∷ words) line not_zero fits h =
    let numbers = then_of (λ numbers. line_of kind.Schedule above level numbers words) (inner_numbers above level first) line h in
    let under = then_of (λ u. option_and_then (if_not_below (sibling_at above level)) (numbers_of u first)) (holder_at above level) numbers.of numbers.here in
    let given = then_of (if_not_below (sibling_at above level)) (numbers_of under.of first) numbers.of under.is in
    let tested = tested_of (does_not_fall (sibling_at above level) given.of) (Some given.of) numbers.of given.is in
    let same = same_some given.of numbers.of tested.is in
    let are = numbers_are under.of first numbers.of (given.here ∙ ap Some same) in
    let read = line_of_is kind.Schedule above level numbers.of words line numbers.is in
    let held : is_held (holder_at above level) (sibling_at above level) numbers.of ≡ true =
    ap (λ u. is_held u (sibling_at above level) numbers.of) under.here
    ∙ are.held (sibling_at above level) (ap (does_not_fall (sibling_at above level)) (sym same) ∙ tested.passed) in
    let made : Line = record { level = level; check = numbers.of.check; turn = numbers.of.turn; order = read.own } in
    let placed : is_placed kind.Schedule above made ≡ true =
    ap (λ b. cond b ((made.check == 0) && (made.turn == 0)) (is_held (holder_at above level) (sibling_at above level) numbers.of)) not_zero ∙ held in
    subst (λ (l : Line). IsLineHere kind.Schedule above level (first ∷ words) l) (sym read.is)
    (record {
      here = refl;
      same = (λ i. are.word i ∷ read.same i) ∙ ap (λ u. number_words u made ++ order_words read.own) (sym under.here);
      stands = six _ _ _ _ _ _ fits are.check are.turn read.written placed read.meant;
    })

line_at_is : (script : ScriptKind) (above : List Line) (level : ℕ) (words : List Bytes) (line : Line) → line_at script above level words ≡ Some line → IsLineHere script above level words line
line_at_is script above level words line h = by (level == 0) refl h
  where
    inner : (s : ScriptKind) → (level == 0) ≡ false → inner_line_in s above level words ≡ Some line → IsLineHere s above level words line
    inner kind.Client not_zero h = not_some line h
    inner kind.Schedule not_zero h =
        let tested = tested_of (is_number level) (inner_line above level words) line h in
        inner_is above level words line not_zero tested.passed tested.is

    by : (b : Bool) → (level == 0) ≡ b → cond b (line_of script above 0 (record { check = 0; turn = 0 }) words) (inner_line_in script above level words) ≡ Some line → IsLineHere script above level words line
    by true e h = let is : 0 ≡ level = grind (arith, nat_tests) in subst (λ l. IsLineHere script above l words line) is (top_is script above words line h)
    by false e h = inner script e h

-- what is read is a line, of which the bytes are the text
pub line_is : (script : ScriptKind) (above : List Line) (bytes : Bytes) (line : Line) → line_read script above bytes ≡ Some line → IsLineAt script above line bytes
line_is script above bytes line h =
    let found = then_of (λ f. line_at script above f.0 (words_of f.1)) (unindented bytes) line h in
    let here = line_at_is script above found.of.0 (words_of found.of.1) line found.is in
    record {
      text = subst (λ l. bytes ≡ replicate (2 * l) 32 ++ join_with_byte 32 (number_words (holder_at above l) line ++ order_words line.order)) (sym here.here)
          (unindented_is bytes found.of found.here
          ∙ ap (λ r. replicate (2 * found.of.0) 32 ++ r) (sym (join-split 32 found.of.1) ∙ ap (join_with_byte 32) here.same));
      stands = here.stands;
    }

-- a line that is read may stand there
pub read_stands : (script : ScriptKind) (above : List Line) (bytes : Bytes) (line : Line) → Some line ≡ line_read script above bytes → may_stand script above line ≡ true
read_stands script above bytes line h = (line_is script above bytes line (sym h)).stands

-- ---- a line that is written

both_lack : (c : ℕ) (numbers : Numbers) → c < 48 → is_number numbers.check ≡ true → is_number numbers.turn ≡ true → list_all (lacks c) (decimal numbers.check ∷ decimal numbers.turn ∷ []) ≡ true
both_lack c numbers low check turn =
    let first : lacks c (decimal numbers.check) ≡ true = lacks-decimal c numbers.check low check in
    let second : lacks c (decimal numbers.turn) ≡ true = lacks-decimal c numbers.turn low turn in
    rw (first, second) refl

numbers_read : (above : Holder) (numbers : Numbers) → is_number numbers.check ≡ true → is_number numbers.turn ≡ true → (sibling : Option Numbers) → is_held (Some above) sibling numbers ≡ true
    → numbers_of above (number_word above numbers) ≡ Some numbers
numbers_read holder.Ask numbers check turn sibling held =
    let none : numbers.check ≡ 0 = let first : (numbers.check == 0) ≡ true = left_of_both _ _ held in grind (arith, nat_tests) in
    ap (λ t. option_map (λ turn. record { check = 0; turn = turn }) t) (number_of-decimal numbers.turn turn)
    ∙ ap (λ c. Some (record { check = c; turn = numbers.turn })) (sym none)
numbers_read holder.Idle numbers check turn sibling held =
    let lack : list_all (lacks 46) (decimal numbers.check ∷ decimal numbers.turn ∷ []) ≡ true =
    both_lack 46 numbers (omega arith) check turn in
    ap (λ pieces. option_and_then (λ two. both_numbers two.0 two.1) (exactly_two pieces)) (split-join 46 (decimal numbers.check) (decimal numbers.turn ∷ []) lack)
    ∙ rw (number_of-decimal numbers.check check, number_of-decimal numbers.turn turn) refl

number_word_lacks : (above : Holder) (numbers : Numbers) → is_number numbers.check ≡ true → is_number numbers.turn ≡ true → lacks 32 (number_word above numbers) ≡ true
number_word_lacks holder.Ask numbers check turn = lacks-decimal 32 numbers.turn (omega arith) turn
number_word_lacks holder.Idle numbers check turn = list_all-append (is_other 32) (decimal numbers.check) (46 ∷ decimal numbers.turn)
    ∙ ap (λ b. b && lacks 32 (46 ∷ decimal numbers.turn)) (lacks-decimal 32 numbers.check (omega arith) check) ∙ lacks-decimal 32 numbers.turn (omega arith) turn

line_lacks : (above : Option Holder) (line : Line) → is_number line.check ≡ true → is_number line.turn ≡ true → is_written line.order ≡ true
    → list_all (lacks 32) (number_words above line ++ order_words line.order) ≡ true
line_lacks None line check turn written = order_lacks line.order written
line_lacks (Some above) line check turn written = rw (number_word_lacks above (numbers_in line) check turn) (order_lacks line.order written)

words_of-line : (above : Option Holder) (line : Line) → is_number line.check ≡ true → is_number line.turn ≡ true → is_written line.order ≡ true
    → words_of (join_with_byte 32 (number_words above line ++ order_words line.order)) ≡ number_words above line ++ order_words line.order
words_of-line above line check turn written =
    let words = number_words above line ++ order_words line.order in
    let begins = line_begins above line in
    let first : words ≡ (begins.byte ∷ begins.bytes) ∷ begins.more = begins.is in
    ap (λ w. split 32 (join_with_byte 32 w)) first
    ∙ split-join 32 (begins.byte ∷ begins.bytes) begins.more (ap (list_all (lacks 32)) (sym first) ∙ line_lacks above line check turn written)
    ∙ sym first

unindented-line : (above : Option Holder) (line : Line) → unindented (line_text above line) ≡ Some (line.level, join_with_byte 32 (number_words above line ++ order_words line.order))
unindented-line above line =
    let words = number_words above line ++ order_words line.order in
    let begins = join-begins words (line_begins above line) in
    subst (λ w. unindented (replicate (2 * line.level) 32 ++ w) ≡ Some (line.level, w)) (sym begins.is) (unindented-text line.level begins.byte begins.bytes begins.other)

-- the parts of what lets a line stand
record Stands (script : ScriptKind) (above : List Line) (line : Line) : Type 0 where
  level : is_number line.level ≡ true
  check : is_number line.check ≡ true
  turn : is_number line.turn ≡ true
  written : is_written line.order ≡ true
  placed : is_placed script above line ≡ true
  meant : is_meant script above line.order ≡ true

stands_by : (script : ScriptKind) (above : List Line) (line : Line) → may_stand script above line ≡ true → Stands script above line
stands_by script above line h =
    let five = left_of_both _ _ h in
    let four = left_of_both _ _ five in
    let three = left_of_both _ _ four in
    let two = left_of_both _ _ three in
    record { level = left_of_both _ _ two; check = right_of_both _ _ two; turn = right_of_both _ _ three; written = right_of_both _ _ four; placed = right_of_both _ _ five; meant = right_of_both _ _ h }

line_of-words : (script : ScriptKind) (above : List Line) (line : Line) → is_written line.order ≡ true → is_meant script above line.order ≡ true
    → line_of script above line.level (numbers_in line) (order_words line.order) ≡ Some line
line_of-words script above line written meant = rw (order_from-words line.order written, meant) refl

top_read : (script : ScriptKind) (above : List Line) (line : Line) → Stands script above line → line.level ≡ 0 → line.check ≡ 0 → line.turn ≡ 0
    → line_of script above 0 (record { check = 0; turn = 0 }) (order_words line.order) ≡ Some line
top_read script above line stands level check turn =
    (λ i. line_of script above (sym level i) (record { check = sym check i; turn = sym turn i }) (order_words line.order)) ∙ line_of-words script above line stands.written stands.meant

inner_read : (above : List Line) (line : Line) (held : Option Holder) → holder_at above line.level ≡ held → Stands kind.Schedule above line
    → is_held held (sibling_at above line.level) (numbers_in line) ≡ true
    → inner_line above line.level (number_words held line ++ order_words line.order) ≡ Some line
inner_read above line None here stands held = absurd (false≢true held)
inner_read above line (Some under) here stands held =
    let falls : does_not_fall (sibling_at above line.level) (numbers_in line) ≡ true = not_falling under (sibling_at above line.level) (numbers_in line) held in
    let numbers : inner_numbers above line.level (number_word under (numbers_in line)) ≡ Some (numbers_in line) =
    rw (here, numbers_read under (numbers_in line) stands.check stands.turn (sibling_at above line.level) held, falls) refl in
    ap (option_and_then (λ n. line_of kind.Schedule above line.level n (order_words line.order))) numbers
    ∙ line_of-words kind.Schedule above line stands.written stands.meant
  where
    not_falling : (under : Holder) (sibling : Option Numbers) (numbers : Numbers) → is_held (Some under) sibling numbers ≡ true → does_not_fall sibling numbers ≡ true
    not_falling holder.Ask sibling numbers h = right_of_both _ _ h
    not_falling holder.Idle sibling numbers h = h

top_check : (s : ScriptKind) (above : List Line) (line : Line) → (line.level == 0) ≡ true → is_placed s above line ≡ true → (line.check == 0) ≡ true
top_check kind.Client above line e placed = right_of_both _ _ (left_of_both _ _ placed)
top_check kind.Schedule above line e placed = left_of_both _ _ (rw e at placed)

top_turn : (s : ScriptKind) (above : List Line) (line : Line) → (line.level == 0) ≡ true → is_placed s above line ≡ true → (line.turn == 0) ≡ true
top_turn kind.Client above line e placed = right_of_both _ _ placed
top_turn kind.Schedule above line e placed = right_of_both _ _ (rw e at placed)

held_by : (above : List Line) (line : Line) → (line.level == 0) ≡ false → is_placed kind.Schedule above line ≡ true → is_held (holder_at above line.level) (sibling_at above line.level) (numbers_in line) ≡ true
held_by above line e placed =
    subst (λ b. cond b ((line.check == 0) && (line.turn == 0)) (is_held (holder_at above line.level) (sibling_at above line.level) (numbers_in line)) ≡ true) e placed

line_at-words : (script : ScriptKind) (above : List Line) (line : Line) → Stands script above line
    → line_at script above line.level (number_words (holder_at above line.level) line ++ order_words line.order) ≡ Some line
line_at-words script above line stands = by script (line.level == 0) refl stands
  where
    top : (s : ScriptKind) → (line.level == 0) ≡ true → Stands s above line → (line.check == 0) ≡ true → (line.turn == 0) ≡ true → line_of s above 0 (record { check = 0; turn = 0 }) (number_words (holder_at above line.level) line ++ order_words line.order) ≡ Some line
    top s e stands check turn =
        let level_is : line.level ≡ 0 = grind (arith, nat_tests) in
        let check_is : line.check ≡ 0 = grind (arith, nat_tests) in
        let turn_is : line.turn ≡ 0 = grind (arith, nat_tests) in
        let none : holder_at above line.level ≡ None = rw e refl in
        rw none (top_read s above line stands level_is check_is turn_is)

    by : (s : ScriptKind) (b : Bool) → (line.level == 0) ≡ b → Stands s above line
        → cond b (line_of s above 0 (record { check = 0; turn = 0 }) (number_words (holder_at above line.level) line ++ order_words line.order))
        (inner_line_in s above line.level (number_words (holder_at above line.level) line ++ order_words line.order)) ≡ Some line
    by s true e stands = top s e stands (top_check s above line e stands.placed) (top_turn s above line e stands.placed)
    by kind.Client false e stands = absurd (false≢true (sym e ∙ left_of_both _ _ (left_of_both _ _ stands.placed)))
    by kind.Schedule false e stands =
        let held : is_held (holder_at above line.level) (sibling_at above line.level) (numbers_in line) ≡ true = held_by above line e stands.placed in
        rw (stands.level) (inner_read above line (holder_at above line.level) refl stands held)

-- the text of a line that may stand is read as that line
pub line_read-text : (script : ScriptKind) (above : List Line) (bytes : Bytes) (line : Line) → IsLineAt script above line bytes → line_read script above bytes ≡ Some line
line_read-text script above bytes line is =
    let stands = stands_by script above line is.stands in
    let held = holder_at above line.level in
    ap (line_read script above) is.text
    ∙ ap (option_and_then (λ found. line_at script above found.0 (words_of found.1))) (unindented-line held line)
    ∙ ap (line_at script above line.level) (words_of-line held line stands.check stands.turn stands.written)
    ∙ line_at-words script above line stands

not_passed : (n b : ℕ) (rest : Bytes) → (b == 35) ≡ false → is_passed (replicate n 32 ++ b ∷ rest) ≡ false
not_passed zero b rest shown = shown
not_passed (suc n) b rest shown = refl

-- no line is passed over
pub is_passed-line : (above : Option Holder) (line : Line) → is_passed (line_text above line) ≡ false
is_passed-line above line =
    let begins = join-begins (number_words above line ++ order_words line.order) (line_begins above line) in
    ap (λ w. is_passed (replicate (2 * line.level) 32 ++ w)) begins.is ∙ not_passed (2 * line.level) begins.byte begins.bytes begins.shown
