-- What is kept of the lines above says what a further line is judged by.
use Rattle.std.proofs.Common.{◌≡◌, ℕ, zero, suc, ◌+◌, ◌-◌, ◌<◌, ◌≤◌, Bool, true, false, ◌&&◌, ◌==◌, nat_lt, cond, List, [], ◌∷◌, ◌++◌, length, take, slice_get, count_by, option_and_then, is_some, Option, Some, None, refl, sym, ap, ◌∙◌, subst, arith}
use Rattle.std.specs.Option.{option_map}
use Rattle.std.specs.List.{filter_map}
use Rattle.std.proofs.lemmas.Bool.{false≢true}
use Rattle.std.proofs.lemmas.Bool.Decides.{nat_tests}
use Rattle.std.proofs.lemmas.Option.{slice_get_within}
use Rattle.std.proofs.lemmas.List.Sums.{fold-append, sum_by_push}
use Rattle.std.proofs.lemmas.List.Elements.{filter_map-append}
use Rattle.ask_history.specs.declared.script.Line.{Line}
use Rattle.ask_history.specs.declared.script.Order.{Order}
use Rattle.ask_history.specs.declared.script.Order.TheVariants as order
use Rattle.script_text.specs.declared.above.Open.{Open}
use Rattle.script_text.specs.declared.above.Above.{Above}
use Rattle.script_text.specs.declared.kinds.Numbers.{Numbers}
use Rattle.script_text.specs.declared.kinds.Holder.{Holder}
use Rattle.script_text.specs.Standing.{holder_of, holder_at, latest, latest_step, sibling_at, numbers_in, is_held, is_placed, is_call, is_call_line, cancelled, cancelled_number, cancelled_by, may_stand}
use Rattle.script_text.specs.declared.kinds.ScriptKind.{ScriptKind}
use Rattle.script_text.specs.declared.kinds.ScriptKind.TheVariants as kind
use Rattle.script_text.proofs.WordLemmas.{left_of_both, right_of_both}
use Rattle.script_text.specs.Above.{IsAbove, open_of, calls_in, cancels_in}

-- ---- looking

mapped_none : (x : Option Line) → option_map open_of x ≡ None → x ≡ None
mapped_none None h = refl
mapped_none (Some line) h = absurd (cc)

mapped_holder : (x : Option Line) (open_ : Open) → option_map open_of x ≡ Some open_ → open_.holder ≡ option_and_then (λ above. holder_of above.order) x
mapped_holder None open_ h = absurd (cc)
mapped_holder (Some line) open_ h = ap (λ (o : Open). o.holder) (some_is (open_of line) open_ (sym h))
  where
    some_is : (a b : Open) → Some b ≡ Some a → b ≡ a
    some_is a b h = cc

mapped_numbers : (x : Option Line) (open_ : Open) → option_map open_of x ≡ Some open_ → Some open_.numbers ≡ option_map numbers_in x
mapped_numbers None open_ h = absurd (cc)
mapped_numbers (Some line) open_ h = ap (λ (o : Open). Some o.numbers) (some_is (open_of line) open_ (sym h))
  where
    some_is : (a b : Open) → Some b ≡ Some a → b ≡ a
    some_is a b h = cc

not_zero : (level : ℕ) → 0 < level → (level == 0) ≡ false
not_zero level h = grind (arith, nat_tests)

pub holder_none : (above : Above) (level : ℕ) → IsAbove above → 0 < level → slice_get above.levels.items (level - 1) ≡ None → holder_at above.lines level ≡ None
holder_none above level is inner none =
    rw (not_zero level inner, mapped_none (latest (level - 1) above.lines) (sym (is.levels (level - 1)) ∙ none)) refl

pub holder_some : (above : Above) (level : ℕ) (open_ : Open) → IsAbove above → 0 < level → slice_get above.levels.items (level - 1) ≡ Some open_ → holder_at above.lines level ≡ open_.holder
holder_some above level open_ is inner some =
    rw (not_zero level inner) (sym (mapped_holder (latest (level - 1) above.lines) open_ (sym (is.levels (level - 1)) ∙ some)))

pub sibling_none : (above : Above) (level : ℕ) → IsAbove above → slice_get above.levels.items level ≡ None → sibling_at above.lines level ≡ None
sibling_none above level is none = rw (mapped_none (latest level above.lines) (sym (is.levels level) ∙ none)) refl

pub sibling_some : (above : Above) (level : ℕ) (open_ : Open) → IsAbove above → slice_get above.levels.items level ≡ Some open_ → sibling_at above.lines level ≡ Some open_.numbers
sibling_some above level open_ is some = sym (mapped_numbers (latest level above.lines) open_ (sym (is.levels level) ∙ some))

pub ruleset open_rules = (holder_none, holder_some, sibling_none, sibling_some)

-- ---- one line more

get-below : {A : Type 0} (xs : List A) (n i : ℕ) (x : A) → i < n → n ≤ length xs → slice_get (take n xs ++ x ∷ []) i ≡ slice_get xs i
get-below xs zero i x low within = absurd (omega arith)
get-below [] (suc n) i x low within = absurd (omega arith)
get-below (y ∷ ys) (suc n) zero x low within = refl
get-below (y ∷ ys) (suc n) (suc i) x low within = get-below ys n i x (omega arith) (omega arith)

get-at : {A : Type 0} (xs : List A) (n : ℕ) (x : A) → n ≤ length xs → slice_get (take n xs ++ x ∷ []) n ≡ Some x
get-at xs zero x within = refl
get-at [] (suc n) x within = absurd (omega arith)
get-at (y ∷ ys) (suc n) x within = get-at ys n x (omega arith)

get-above : {A : Type 0} (xs : List A) (n i : ℕ) (x : A) → n < i → n ≤ length xs → slice_get (take n xs ++ x ∷ []) i ≡ None
get-above xs zero zero x high within = absurd (omega arith)
get-above xs zero (suc i) x high within = refl
get-above [] (suc n) i x high within = absurd (omega arith)
get-above (y ∷ ys) (suc n) zero x high within = absurd (omega arith)
get-above (y ∷ ys) (suc n) (suc i) x high within = get-above ys n i x (omega arith) (omega arith)

latest-push : (level : ℕ) (lines : List Line) (line : Line) → latest level (lines ++ line ∷ []) ≡ latest_step level (latest level lines) line
latest-push level lines line = fold-append (latest_step level) None lines (line ∷ [])

levels-push : (levels : List Open) (lines : List Line) (line : Line) (i : ℕ) → line.level ≤ length levels
    → slice_get levels i ≡ option_map open_of (latest i lines)
    → slice_get (take line.level levels ++ open_of line ∷ []) i ≡ option_map open_of (latest_step i (latest i lines) line)
levels-push levels lines line i within kept = at (line.level == i) refl
  where
    not_at : (b : Bool) → (line.level == i) ≡ false → nat_lt line.level i ≡ b → slice_get (take line.level levels ++ open_of line ∷ []) i ≡ option_map open_of (cond b None (latest i lines))
    not_at true other low = get-above levels line.level i (open_of line) (grind (arith, nat_tests)) within
    not_at false other high = get-below levels line.level i (open_of line) (grind (arith, nat_tests)) within ∙ kept

    at : (b : Bool) → (line.level == i) ≡ b → slice_get (take line.level levels ++ open_of line ∷ []) i ≡ option_map open_of (cond b (Some line) (cond (nat_lt line.level i) None (latest i lines)))
    at true same = let is : line.level ≡ i = grind (arith, nat_tests) in subst (λ n. slice_get (take line.level levels ++ open_of line ∷ []) n ≡ Some (open_of line)) is (get-at levels line.level (open_of line) within)
    at false other = not_at (nat_lt line.level i) other refl

-- a line that may stand stands at an open level, or begins the next one
held_within : (above : Above) (level : ℕ) (found : Option Line) → IsAbove above → latest (level - 1) above.lines ≡ found → is_some (option_and_then (λ l. holder_of l.order) found) ≡ true → level ≤ length above.levels.items
held_within above level None is here some = absurd (false≢true some)
held_within above level (Some line) is here some =
    let within : level - 1 < length above.levels.items = slice_get_within above.levels.items (level - 1) (open_of line) (is.levels (level - 1) ∙ ap (option_map open_of) here) in
    omega arith

held_some : (held : Option Holder) (sibling : Option Numbers) (numbers : Numbers) → is_held held sibling numbers ≡ true → is_some held ≡ true
held_some None sibling numbers h = absurd (false≢true h)
held_some (Some holder) sibling numbers h = refl

placed_within : (script : ScriptKind) (above : Above) (line : Line) → IsAbove above → is_placed script above.lines line ≡ true → line.level ≤ length above.levels.items
placed_within kind.Client above line is placed =
    let top : (line.level == 0) ≡ true = left_of_both _ _ (left_of_both _ _ placed) in
    let zero_level : line.level ≡ 0 = grind (arith, nat_tests) in omega arith
placed_within kind.Schedule above line is placed = by (line.level == 0) refl placed
  where
    inner : (line.level == 0) ≡ false → is_some (holder_at above.lines line.level) ≡ true → line.level ≤ length above.levels.items
    inner other some = held_within above line.level (latest (line.level - 1) above.lines) is refl (rw other at some)

    by : (b : Bool) → (line.level == 0) ≡ b → cond b ((line.check == 0) && (line.turn == 0)) (is_held (holder_at above.lines line.level) (sibling_at above.lines line.level) (numbers_in line)) ≡ true
        → line.level ≤ length above.levels.items
    by true top placed = let zero_level : line.level ≡ 0 = grind (arith, nat_tests) in omega arith
    by false other placed = inner other (held_some (holder_at above.lines line.level) (sibling_at above.lines line.level) (numbers_in line) placed)

pub level_within : (script : ScriptKind) (above : Above) (line : Line) → IsAbove above → may_stand script above.lines line ≡ true → line.level ≤ length above.levels.items
level_within script above line is stands = placed_within script above line is (right_of_both _ _ (left_of_both _ _ stands))

calls-push : (lines : List Line) (line : Line) → count_by is_call_line (lines ++ line ∷ []) ≡ count_by is_call_line lines + calls_in line.order
calls-push lines line = sum_by_push (λ l. cond (is_call_line l) 1 0) lines line ∙ ap (λ n. count_by is_call_line lines + n) (of line.order)
  where
    of : (own : Order) → cond (is_call own) 1 0 ≡ calls_in own
    of (order.Call call) = refl
    of (order.Cancel k) = refl
    of order.Close = refl
    of (order.Wait k) = refl
    of order.Idle = refl

cancelled-push : (lines : List Line) (line : Line) → cancelled (lines ++ line ∷ []) ≡ cancelled lines ++ cancels_in line.order
cancelled-push lines line = filter_map-append cancelled_by lines (line ∷ []) ∙ ap (λ n. cancelled lines ++ n) (of line.order)
  where
    of : (own : Order) → filter_map (λ o. cancelled_number o) (own ∷ []) ≡ cancels_in own
    of (order.Call call) = refl
    of (order.Cancel k) = refl
    of order.Close = refl
    of (order.Wait k) = refl
    of order.Idle = refl

pub is_above-push : (script : ScriptKind) (above above' : Above) (line : Line) → IsAbove above → may_stand script above.lines line ≡ true
    → above'.lines ≡ above.lines ++ line ∷ [] → above'.levels.items ≡ take line.level above.levels.items ++ open_of line ∷ []
    → above'.calls ≡ above.calls + calls_in line.order → above'.cancelled.keys ≡ above.cancelled.keys ++ cancels_in line.order → IsAbove above'
is_above-push script above above' line is stands lines levels calls cancels = record {
  levels = λ i. rw (levels, lines, latest-push i above.lines line) (levels-push above.levels.items above.lines line i (level_within script above line is stands) (is.levels i));
  calls = calls ∙ ap (λ n. n + calls_in line.order) is.calls ∙ sym (calls-push above.lines line) ∙ ap (count_by is_call_line) (sym lines);
  cancels = cancels ∙ ap (λ n. n ++ cancels_in line.order) is.cancels ∙ sym (cancelled-push above.lines line) ∙ ap cancelled (sym lines);
}

pub ruleset note_rules = (level_within, is_above-push)
