-- The pairs and the call lines of several scripts.
use Rattle.std.proofs.Common.{◌≡◌, ℕ, ◌+◌, ◌<◌, ◌≤◌, Bool, true, false, cond, List, [], ◌∷◌, ◌++◌, length, take, drop, get_or, map, count_by, append-nil, length-append, refl, sym, ap, ◌∙◌, arith}
use Rattle.std.proofs.lemmas.List.{take-append-drop, map-append}
use Rattle.std.proofs.lemmas.List.Concat.{flat_map-append}
use Rattle.std.proofs.lemmas.List.Sums.{sum_by-append, sum_by-cons}
use Rattle.ask_history.specs.Sources.{Sources}
use Rattle.ask_history.specs.declared.script.Line.{Line}
use Rattle.ask_history.specs.declared.script.Script.{Script}
use Rattle.script_text.specs.Standing.{is_call_line}
use Rattle.script_text.specs.Texts.{pair_with, line_with, script_with}
use Rattle.script_text.proofs.TextLemmas.{take_one_more}
use Rattle.session_input.specs.Sources.{pairs_of, pairs_in, lines_in}
use Rattle.session_input.proofs.CountLemmas.{pairs_in-with, calls-with}
use Rattle.session_input.proofs.SourceLemmas.{split_at_item}

pub pairs_in-append : (front back : List Line) → pairs_in (front ++ back) ≡ pairs_in front ++ pairs_in back
pairs_in-append front back = flat_map-append (λ (l : Line). pairs_of l.order) front back

pub lines_in-append : (front back : List Script) → lines_in (front ++ back) ≡ lines_in front ++ lines_in back
lines_in-append front back = flat_map-append (λ (s : Script). s.lines) front back

-- ---- one name more

pub names-more : {A B : Type 0} (f : A → B) (names : List A) (i : ℕ) (name : A) → i < length names → name ≡ get_or names i name → map f (take (i + 1) names) ≡ map f (take i names) ++ f name ∷ []
names-more f names i name within here = ap (map f) (take_one_more names i name within here) ∙ map-append f (take i names) (name ∷ [])

pub names-split : {A B : Type 0} (f : A → B) (names : List A) (i : ℕ) (name : A) → i < length names → name ≡ get_or names i name
    → (map f (take i names) ++ f name ∷ []) ++ map f (drop (i + 1) names) ≡ map f names
names-split f names i name within here =
    ap (λ ns. ns ++ map f (drop (i + 1) names)) (sym (map-append f (take i names) (name ∷ [])))
    ∙ sym (map-append f (take i names ++ name ∷ []) (drop (i + 1) names)) ∙ ap (map f) (split_at_item names i name within here)

-- ---- one script more

lines_in-more : (scripts : List Script) (i : ℕ) (script : Script) → i < length scripts → script ≡ get_or scripts i script → lines_in (take (i + 1) scripts) ≡ lines_in (take i scripts) ++ script.lines
lines_in-more scripts i script within here =
    ap lines_in (take_one_more scripts i script within here) ∙ lines_in-append (take i scripts) (script ∷ []) ∙ ap (λ ls. lines_in (take i scripts) ++ ls) (append-nil script.lines)

lines_in-split : (scripts : List Script) (i : ℕ) → lines_in (take i scripts) ++ lines_in (drop i scripts) ≡ lines_in scripts
lines_in-split scripts i = sym (lines_in-append (take i scripts) (drop i scripts)) ∙ ap lines_in (take-append-drop i scripts)

pub pairs_in_scripts-more : (scripts : List Script) (i : ℕ) (script : Script) → i < length scripts → script ≡ get_or scripts i script
    → pairs_in (lines_in (take (i + 1) scripts)) ≡ pairs_in (lines_in (take i scripts)) ++ pairs_in script.lines
pairs_in_scripts-more scripts i script within here = ap pairs_in (lines_in-more scripts i script within here) ∙ pairs_in-append (lines_in (take i scripts)) script.lines

pub pairs_in_scripts-split : (scripts : List Script) (i : ℕ) (script : Script) → i < length scripts → script ≡ get_or scripts i script
    → (pairs_in (lines_in (take i scripts)) ++ pairs_in script.lines) ++ pairs_in (lines_in (drop (i + 1) scripts)) ≡ pairs_in (lines_in scripts)
pairs_in_scripts-split scripts i script within here =
    ap (λ ps. ps ++ pairs_in (lines_in (drop (i + 1) scripts))) (sym (pairs_in_scripts-more scripts i script within here))
    ∙ sym (pairs_in-append (lines_in (take (i + 1) scripts)) (lines_in (drop (i + 1) scripts))) ∙ ap pairs_in (lines_in-split scripts (i + 1))

-- ---- call lines

calls_within : (lines : List Line) → count_by is_call_line lines ≤ length lines
calls_within [] = omega arith
calls_within (line ∷ lines) = by (is_call_line line) (sum_by-cons (λ l. cond (is_call_line l) 1 0) line lines) (calls_within lines)
  where
    by : (b : Bool) → count_by is_call_line (line ∷ lines) ≡ cond b 1 0 + count_by is_call_line lines → count_by is_call_line lines ≤ length lines → count_by is_call_line (line ∷ lines) ≤ length (line ∷ lines)
    by true e rest = omega arith
    by false e rest = omega arith

pub calls_in_scripts-more : (scripts : List Script) (i : ℕ) (script : Script) → i < length scripts → script ≡ get_or scripts i script
    → count_by is_call_line (lines_in (take (i + 1) scripts)) ≡ count_by is_call_line (lines_in (take i scripts)) + count_by is_call_line script.lines
calls_in_scripts-more scripts i script within here =
    ap (count_by is_call_line) (lines_in-more scripts i script within here) ∙ sum_by-append (λ l. cond (is_call_line l) 1 0) (lines_in (take i scripts)) script.lines

-- the calls so far are no more than all lines
pub calls_fit : (scripts : List Script) (i : ℕ) → count_by is_call_line (lines_in (take i scripts)) ≤ length (lines_in scripts)
calls_fit scripts i =
    omega (arith, calls_within (lines_in (take i scripts)), ap length (lines_in-split scripts i), length-append (lines_in (take i scripts)) (lines_in (drop i scripts)))

-- ---- with their texts

lines_in-with : (sources : Sources) (scripts : List Script) → lines_in (map (script_with sources) scripts) ≡ map (line_with sources) (lines_in scripts)
lines_in-with sources [] = refl
lines_in-with sources (script ∷ scripts) =
    ap (λ ls. map (line_with sources) script.lines ++ ls) (lines_in-with sources scripts) ∙ sym (map-append (line_with sources) script.lines (lines_in scripts))

pub pairs_in_scripts-with : (sources : Sources) (scripts : List Script) → pairs_in (lines_in (map (script_with sources) scripts)) ≡ map (pair_with sources) (pairs_in (lines_in scripts))
pairs_in_scripts-with sources scripts = ap pairs_in (lines_in-with sources scripts) ∙ pairs_in-with sources (lines_in scripts)

pub all_calls-with : (sources : Sources) (scripts : List Script) → count_by is_call_line (lines_in (map (script_with sources) scripts)) ≡ count_by is_call_line (lines_in scripts)
all_calls-with sources scripts = ap (count_by is_call_line) (lines_in-with sources scripts) ∙ calls-with sources (lines_in scripts)
