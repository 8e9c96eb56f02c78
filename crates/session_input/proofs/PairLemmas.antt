-- A script names no more pairs than it has bytes.
use Rattle.std.proofs.Common.{◌≡◌, inl, inr, ℕ, ◌+◌, ◌*◌, ◌<◌, ◌≤◌, Bool, true, false, not, ◌&&◌, cond, ◌==◌, map, List, [], ◌∷◌, ◌++◌, length, replicate, append-nil, Option, refl, ap, ◌∙◌, length-append, arith}
use Rattle.std.specs.List.{list_all, list_any, join_with_byte}
use Rattle.std.specs.Str.{bytes_eq}
use Rattle.std.proofs.lemmas.List.{length-map}
use Rattle.std.proofs.lemmas.List.Folds.{list_all-append}
use Rattle.std.proofs.lemmas.List.Concat.{flat_map-append}
use Rattle.pc_terms.specs.Bytes.{Bytes, space, line_feed, less_sign}
use Rattle.ask_history.specs.Engine.{is_file_name}
use Rattle.script_text.proofs.WordLemmas.{left_of_both, right_of_both}
use Rattle.script_text.specs.Texts.{pair_with, order_with, line_with}
use Rattle.session_input.proofs.CountLemmas.{pairs_in-with}
use Rattle.ask_history.specs.declared.calls.Call.TheVariants.{Reload, Remove, TypeAt, MembersAt, ScopeAt, LinkAt, Structure, LoadedTyped}
use Rattle.ask_history.specs.declared.script.Order.{Order}
use Rattle.ask_history.specs.declared.script.Order.TheVariants as order
use Rattle.ask_history.specs.declared.script.Line.{Line}
use Rattle.script_text.specs.declared.kinds.ScriptKind.{ScriptKind}
use Rattle.script_text.specs.declared.kinds.Holder.{Holder}
use Rattle.script_text.specs.Words.{split, onto_first, lines_of, is_word, is_name, is_number}
use Rattle.script_text.specs.LineText.{pair_words, order_words, number_words, line_text}
use Rattle.script_text.specs.Standing.{holder_at, may_stand, is_placed, is_meant, is_written, are_pairs, is_next_pair, is_some_list}
use Rattle.script_text.specs.Grammar.{AreLines, IsScript}
use Rattle.session_input.specs.Sources.{pairs_of, pairs_in, order_names_files, names_files}

-- ---- the words of a line

pair_words-length : (pairs : List (Bytes × Bytes)) → length pairs ≤ length (pair_words pairs)
pair_words-length [] = omega arith
pair_words-length (pair ∷ pairs) = omega (arith, pair_words-length pairs)

pairs_words : (order : Order) → length (pairs_of order) < length (order_words order)
pairs_words (order.Call (Reload pairs)) = omega (arith, pair_words-length pairs)
pairs_words (order.Call (Remove names)) = omega arith
pairs_words (order.Call (TypeAt name offset)) = omega arith
pairs_words (order.Call (MembersAt name offset)) = omega arith
pairs_words (order.Call (ScopeAt name offset)) = omega arith
pairs_words (order.Call (LinkAt name offset)) = omega arith
pairs_words (order.Call (Structure name)) = omega arith
pairs_words (order.Call (LoadedTyped name)) = omega arith
pairs_words (order.Cancel k) = omega arith
pairs_words order.Close = omega arith
pairs_words (order.Wait k) = omega arith
pairs_words order.Idle = omega arith

-- between two words stands a space
joined-length : (words : List Bytes) → length words ≤ length (join_with_byte space words) + 1
joined-length [] = omega arith
joined-length (word ∷ []) = omega arith
joined-length (word ∷ next ∷ words) = omega (arith, joined-length (next ∷ words), length-append word (space ∷ join_with_byte space (next ∷ words)))

pairs_line : (above : Option Holder) (line : Line) → length (pairs_of line.order) ≤ length (line_text above line)
pairs_line above line = omega (
  arith,
  pairs_words line.order,
  joined-length (number_words above line ++ order_words line.order),
  length-append (number_words above line) (order_words line.order),
  length-append (replicate (2 * line.level) space) (join_with_byte space (number_words above line ++ order_words line.order)),
)

-- ---- the lines of a text

abbrev bytes_in : List Bytes → ℕ
bytes_in [] = 0
bytes_in (piece ∷ pieces) = length piece + bytes_in pieces

split-bytes : (separator : ℕ) (bs : Bytes) → bytes_in (split separator bs) ≤ length bs
split-bytes separator [] = omega arith
split-bytes separator (b ∷ bs) = by (b == separator) (split separator bs) (split-bytes separator bs) where
  by : (same : Bool) (pieces : List Bytes) → bytes_in pieces ≤ length bs → bytes_in (cond same ([] ∷ pieces) (onto_first b pieces)) ≤ length (b ∷ bs)
  by true pieces within = omega arith
  by false [] within = omega arith
  by false (piece ∷ pieces) within = omega arith

pairs_in-push : (above : List Line) (line : Line) → length (pairs_in (above ++ line ∷ [])) ≡ length (pairs_in above) + length (pairs_of line.order)
pairs_in-push above line =
    ap length (flat_map-append (λ l. pairs_of l.order) above (line ∷ [])) ∙ length-append (pairs_in above) (pairs_of line.order ++ [])
    ∙ ap (λ ps. length (pairs_in above) + length ps) (append-nil (pairs_of line.order))

pairs_lines : (kind : ScriptKind) (pieces : List Bytes) (above all : List Line) → AreLines kind above pieces all → length (pairs_in all) ≤ length (pairs_in above) + bytes_in pieces
pairs_lines kind [] above all same = let e = ap (λ lines. length (pairs_in lines)) same in omega arith
pairs_lines kind (bytes ∷ pieces) above all (inl (passed, rest)) = omega (arith, pairs_lines kind pieces above all rest)
pairs_lines kind (bytes ∷ pieces) above all (inr (line, here, rest)) = omega (
  arith,
  pairs_lines kind pieces (above ++ line ∷ []) all rest,
  pairs_in-push above line,
  pairs_line (holder_at above line.level) line,
  ap length here.text,
)

pub pairs_in_script : (kind : ScriptKind) (text : Bytes) (lines : List Line) → IsScript kind text lines → length (pairs_in lines) ≤ length text
pairs_in_script kind text lines is = omega (arith, pairs_lines kind (lines_of text) [] lines is, split-bytes line_feed text)

-- ---- how many lines

split-length : (separator : ℕ) (bs : Bytes) → length (split separator bs) ≤ length bs + 1
split-length separator [] = omega arith
split-length separator (b ∷ bs) = by (b == separator) (split separator bs) (split-length separator bs) where
  by : (same : Bool) (pieces : List Bytes) → length pieces ≤ length bs + 1 → length (cond same ([] ∷ pieces) (onto_first b pieces)) ≤ length (b ∷ bs) + 1
  by true pieces within = omega arith
  by false [] within = omega arith
  by false (piece ∷ pieces) within = omega arith

counted_lines : (kind : ScriptKind) (pieces : List Bytes) (above all : List Line) → AreLines kind above pieces all → length all ≤ length above + length pieces
counted_lines kind [] above all same = let e = ap length same in omega arith
counted_lines kind (bytes ∷ pieces) above all (inl (passed, rest)) = omega (arith, counted_lines kind pieces above all rest)
counted_lines kind (bytes ∷ pieces) above all (inr (line, here, rest)) = omega (arith, counted_lines kind pieces (above ++ line ∷ []) all rest, length-append above (line ∷ []))

pub lines_in_script : (kind : ScriptKind) (text : Bytes) (lines : List Line) → IsScript kind text lines → length lines ≤ length text + 1
lines_in_script kind text lines is = omega (arith, counted_lines kind (lines_of text) [] lines is, split-length line_feed text)

-- ---- the names of files

name_of_file : (name : Bytes) → is_name name ≡ true → is_file_name name ≡ true
name_of_file [] h = h
name_of_file (b ∷ bs) h = left_of_both (not (b == less_sign)) (is_word (b ∷ bs)) h

all_names : (names : List Bytes) → list_all is_name names ≡ true → list_all is_file_name names ≡ true
all_names [] h = refl
all_names (name ∷ names) h =
    (λ i. name_of_file name (left_of_both (is_name name) (list_all is_name names) h) i && all_names names (right_of_both (is_name name) (list_all is_name names) h) i)

pair_names : (before : List Bytes) (pairs : List (Bytes × Bytes)) → are_pairs before pairs ≡ true → list_all (λ pair. is_file_name pair.0) pairs ≡ true
pair_names before [] h = refl
pair_names before (pair ∷ pairs) h =
    let first = left_of_both (is_next_pair before pair.0 pair.1) (are_pairs (before ++ pair.0 ∷ []) pairs) h in
    let rest = right_of_both (is_next_pair before pair.0 pair.1) (are_pairs (before ++ pair.0 ∷ []) pairs) h in
    let name = left_of_both (is_name pair.0) (is_word pair.1) (left_of_both (is_name pair.0 && is_word pair.1) (not (list_any (bytes_eq pair.0) before)) first) in
    (λ i. name_of_file pair.0 name i && pair_names (before ++ pair.0 ∷ []) pairs rest i)

written_names : (o : Order) → is_written o ≡ true → order_names_files o ≡ true
written_names (order.Call (Reload pairs)) h = pair_names [] pairs (right_of_both (is_some_list pairs) (are_pairs [] pairs) h)
written_names (order.Call (Remove names)) h = all_names names (right_of_both (is_some_list names) (list_all is_name names) h)
written_names (order.Call (TypeAt name offset)) h = name_of_file name (left_of_both (is_name name) (is_number offset) h)
written_names (order.Call (MembersAt name offset)) h = name_of_file name (left_of_both (is_name name) (is_number offset) h)
written_names (order.Call (ScopeAt name offset)) h = name_of_file name (left_of_both (is_name name) (is_number offset) h)
written_names (order.Call (LinkAt name offset)) h = name_of_file name (left_of_both (is_name name) (is_number offset) h)
written_names (order.Call (Structure name)) h = name_of_file name (left_of_both (is_name name) true h)
written_names (order.Call (LoadedTyped name)) h = name_of_file name (left_of_both (is_name name) true h)
written_names (order.Cancel k) h = refl
written_names order.Close h = refl
written_names (order.Wait k) h = refl
written_names order.Idle h = refl

line_names : (kind : ScriptKind) (above : List Line) (line : Line) → may_stand kind above line ≡ true → names_files line ≡ true
line_names kind above line h =
    let numbers : Bool = is_number line.level && is_number line.check && is_number line.turn in
    let written = left_of_both (numbers && is_written line.order) (is_placed kind above line) (left_of_both (numbers && is_written line.order && is_placed kind above line) (is_meant kind above line.order) h) in
    written_names line.order (right_of_both numbers (is_written line.order) written)

names-push : (above : List Line) (line : Line) → list_all names_files above ≡ true → names_files line ≡ true → list_all names_files (above ++ line ∷ []) ≡ true
names-push above line before own = list_all-append names_files above (line ∷ []) ∙ (λ i. before i && (own i && true))

names_lines : (kind : ScriptKind) (pieces : List Bytes) (above all : List Line) → AreLines kind above pieces all → list_all names_files above ≡ true → list_all names_files all ≡ true
names_lines kind [] above all same before = ap (list_all names_files) same ∙ before
names_lines kind (bytes ∷ pieces) above all (inl (passed, rest)) before = names_lines kind pieces above all rest before
names_lines kind (bytes ∷ pieces) above all (inr (line, here, rest)) before =
    names_lines kind pieces (above ++ line ∷ []) all rest (names-push above line before (line_names kind above line here.stands))

pub names_script : (kind : ScriptKind) (text : Bytes) (lines : List Line) → IsScript kind text lines → list_all names_files lines ≡ true
names_script kind text lines is = names_lines kind (lines_of text) [] lines is refl

pub ruleset script_rules = (pairs_in_script, names_script)

-- ---- with their texts lines name the same files, and as many

pair_names-with : (sources pairs : List (Bytes × Bytes)) → list_all (λ pair. is_file_name pair.0) (map (pair_with sources) pairs) ≡ list_all (λ pair. is_file_name pair.0) pairs
pair_names-with sources [] = refl
pair_names-with sources (pair ∷ pairs) = ap (λ b. is_file_name pair.0 && b) (pair_names-with sources pairs)

order_names-with : (sources : List (Bytes × Bytes)) (o : Order) → order_names_files (order_with sources o) ≡ order_names_files o
order_names-with sources (order.Call (Reload pairs)) = pair_names-with sources pairs
order_names-with sources (order.Call (Remove names)) = refl
order_names-with sources (order.Call (TypeAt name offset)) = refl
order_names-with sources (order.Call (MembersAt name offset)) = refl
order_names-with sources (order.Call (ScopeAt name offset)) = refl
order_names-with sources (order.Call (LinkAt name offset)) = refl
order_names-with sources (order.Call (Structure name)) = refl
order_names-with sources (order.Call (LoadedTyped name)) = refl
order_names-with sources (order.Cancel k) = refl
order_names-with sources order.Close = refl
order_names-with sources (order.Wait k) = refl
order_names-with sources order.Idle = refl

names-with : (sources : List (Bytes × Bytes)) (lines : List Line) → list_all names_files (map (line_with sources) lines) ≡ list_all names_files lines
names-with sources [] = refl
names-with sources (line ∷ lines) = λ i. order_names-with sources line.order i && names-with sources lines i

pub found_names : (sources : List (Bytes × Bytes)) (lines found : List Line) → found ≡ map (line_with sources) lines → list_all names_files found ≡ list_all names_files lines
found_names sources lines found same = ap (list_all names_files) same ∙ names-with sources lines

pub found_few : (sources : List (Bytes × Bytes)) (lines found : List Line) → found ≡ map (line_with sources) lines → length (pairs_in found) ≤ length (pairs_in lines)
found_few sources lines found same =
    let e : length (pairs_in found) ≡ length (pairs_in lines) = ap (λ ls. length (pairs_in ls)) same ∙ ap length (pairs_in-with sources lines) ∙ length-map (pairs_in lines) (pair_with sources) in omega arith

pub ruleset text_rules = (found_names, found_few)
