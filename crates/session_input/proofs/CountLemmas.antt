-- What is counted of one pair after another.
use Rattle.std.proofs.Common.{◌≡◌, ℕ, ◌+◌, ◌-◌, ◌<◌, ◌≤◌, max, Bool, true, false, cond, List, [], ◌∷◌, ◌++◌, length, map, take, count_by, append_assoc, append-nil, length-append, get_or, Option, Some, None, is_some, unwrap_or, zero-add, refl, sym, ap, ◌∙◌, subst, arith}
use Rattle.std.specs.Str.{bytes_eq}
use Rattle.std.specs.Map.{update, lookup}
use Rattle.script_text.proofs.TextLemmas.{take_one_more}
use Rattle.std.proofs.lemmas.List.{length-map, map-append, get_or_append_left, get_or-append-add}
use Rattle.std.proofs.lemmas.List.Sums.{sum_by-append, sum_by-cons}
use Rattle.indexmap.specs.IndexMap.{IndexMap, get}
use Rattle.pc_terms.specs.Bytes.{Bytes, max_source_bytes}
use Rattle.ask_history.specs.Sources.{Sources, text_of}
use Rattle.ask_history.specs.declared.calls.Call.TheVariants.{Reload, Remove, TypeAt, MembersAt, ScopeAt, LinkAt, Structure, LoadedTyped}
use Rattle.ask_history.specs.declared.script.Order.{Order}
use Rattle.ask_history.specs.declared.script.Order.TheVariants as order
use Rattle.ask_history.specs.declared.script.Line.{Line}
use Rattle.script_text.specs.Standing.{is_call_line}
use Rattle.script_text.specs.Texts.{text_at, pair_with, order_with, line_with}
use Rattle.work_queue.specs.declared.usage.Usage.{Usage}
use Rattle.work_queue.specs.Reloads.{usage_of, with_text}
use Rattle.work_queue.proofs.Usages.{usage_of-push, longest-update}
use Rattle.session_input.specs.Sources.{pairs_of, pairs_in}
use Rattle.session_input.specs.Counts.{AreCounted, HasRoom, CountsMore, HaveTexts}
use Rattle.session_input.specs.declared.counts.Counts.{Counts}

-- ---- one after another

pub counts-none : (counts : Counts) → CountsMore [] counts counts
counts-none counts = record { counted = λ before are. subst (λ (pairs : List (Bytes × Bytes)). AreCounted pairs counts) (sym (append-nil before)) are; room = λ texts room. subst (λ n. HasRoom n counts.usage) (let e : 0 + texts ≡ texts = omega arith in e) room }

pub counts-more : {xs ys : List (Bytes × Bytes)} {old mid new : Counts} → CountsMore xs old mid → CountsMore ys mid new → CountsMore (xs ++ ys) old new
counts-more {xs = xs} {ys = ys} {old = old} {new = new} first second = record {
  counted = λ before are. subst (λ (pairs : List (Bytes × Bytes)). AreCounted pairs new) (append_assoc before xs ys) (second.counted (before ++ xs) (first.counted before are));
  room = λ texts room.
      let more : length (xs ++ ys) + texts ≡ length xs + (length ys + texts) = omega (arith, length-append xs ys) in
      second.room texts (first.room (length ys + texts) (subst (λ n. HasRoom n old.usage) more room));
}

fewer : (less more : ℕ) (usage : Usage) → less ≤ more → HasRoom more usage → HasRoom less usage
fewer less more usage within room = record { text = omega (arith, room.text); names = omega (arith, room.names); map = omega (arith, room.map) }

-- where there is room for all, there is still room for the next ones
pub room_part : (f : Bytes × Bytes → Bytes × Bytes) {old now : Counts} (xs ys zs all : List (Bytes × Bytes)) → (xs ++ ys) ++ zs ≡ all
    → CountsMore (map f xs) old now → HasRoom (length all) old.usage → HasRoom (length ys) now.usage
room_part f {old = old} {now = now} xs ys zs all split more room =
    let counted : length all ≡ length (map f xs) + (length ys + length zs) = omega (arith, ap length split, length-append (xs ++ ys) zs, length-append xs ys, length-map xs f) in
    fewer (length ys) (length ys + length zs) now.usage (omega arith) (more.room (length ys + length zs) (subst (λ n. HasRoom n old.usage) counted room))

nothing_longest : {S : Type 0} (m : IndexMap Bytes ℕ S) → m.entries ≡ [] → (name : Bytes) → get bytes_eq m name ≡ None
nothing_longest m none name = ap (lookup (bytes_eq name)) none

pub counted-nothing : (counts : Counts) → counts.usage ≡ usage_of [] → counts.longest.entries ≡ [] → AreCounted [] counts
counted-nothing counts usage none = record { usage = usage; longest = nothing_longest counts.longest none }

-- ---- one pair

pub room-one : (usage : Usage) (most : Option ℕ) (len texts : ℕ) → len ≤ max_source_bytes → HasRoom (1 + texts) usage → HasRoom texts (with_text usage most len)
room-one usage most len texts small room = by (is_some most) where
  by : (b : Bool) → HasRoom texts (record { text = usage.text + len; names = usage.names + cond b 0 1; map = usage.map + (len - unwrap_or most 0) })
  by true = record { text = omega (arith, room.text); names = omega (arith, room.names); map = omega (arith, room.map) }
  by false = record { text = omega (arith, room.text); names = omega (arith, room.names); map = omega (arith, room.map) }

pub counted-one : {before : List (Bytes × Bytes)} {old new : Counts} (pair : Bytes × Bytes) → AreCounted before old
    → new.usage ≡ with_text old.usage (get bytes_eq old.longest pair.0) (length pair.1)
    → ((name : Bytes) → get bytes_eq new.longest name ≡ update bytes_eq (get bytes_eq old.longest) pair.0 (Some (max (unwrap_or (get bytes_eq old.longest pair.0) 0) (length pair.1))) name)
    → AreCounted (before ++ pair ∷ []) new
counted-one {before = before} {old = old} pair are usage updates = record {
  usage = usage ∙ (λ i. with_text (are.usage i) (are.longest pair.0 i) (length pair.1)) ∙ sym (usage_of-push before pair);
  longest = λ name. updates name ∙ longest-update before pair (get bytes_eq old.longest) are.longest name;
}

-- ---- lines with their texts

pub pairs_of-with : (sources : Sources) (o : Order) → pairs_of (order_with sources o) ≡ map (pair_with sources) (pairs_of o)
pairs_of-with sources (order.Call (Reload pairs)) = refl
pairs_of-with sources (order.Call (Remove names)) = refl
pairs_of-with sources (order.Call (TypeAt name offset)) = refl
pairs_of-with sources (order.Call (MembersAt name offset)) = refl
pairs_of-with sources (order.Call (ScopeAt name offset)) = refl
pairs_of-with sources (order.Call (LinkAt name offset)) = refl
pairs_of-with sources (order.Call (Structure name)) = refl
pairs_of-with sources (order.Call (LoadedTyped name)) = refl
pairs_of-with sources (order.Cancel k) = refl
pairs_of-with sources order.Close = refl
pairs_of-with sources (order.Wait k) = refl
pairs_of-with sources order.Idle = refl

pub pairs_in-with : (sources : Sources) (lines : List Line) → pairs_in (map (line_with sources) lines) ≡ map (pair_with sources) (pairs_in lines)
pairs_in-with sources [] = refl
pairs_in-with sources (line ∷ lines) =
    (λ i. pairs_of-with sources line.order i ++ pairs_in-with sources lines i) ∙ sym (map-append (pair_with sources) (pairs_of line.order) (pairs_in lines))

call_line-with : (sources : Sources) (line : Line) → is_call_line (line_with sources line) ≡ is_call_line line
call_line-with sources line = by line.order where
  by : (o : Order) → is_call_line (record line { order = order_with sources o }) ≡ is_call_line (record line { order = o })
  by (order.Call call) = refl
  by (order.Cancel k) = refl
  by order.Close = refl
  by (order.Wait k) = refl
  by order.Idle = refl

pub calls-with : (sources : Sources) (lines : List Line) → count_by is_call_line (map (line_with sources) lines) ≡ count_by is_call_line lines
calls-with sources [] = refl
calls-with sources (line ∷ lines) =
    sum_by-cons (λ l. cond (is_call_line l) 1 0) (line_with sources line) (map (line_with sources) lines)
    ∙ (λ i. cond (call_line-with sources line i) 1 0 + calls-with sources lines i)
    ∙ sym (sum_by-cons (λ l. cond (is_call_line l) 1 0) line lines)

call_lines-push : (lines : List Line) (line : Line) → count_by is_call_line (lines ++ line ∷ []) ≡ count_by is_call_line lines + cond (is_call_line line) 1 0
call_lines-push lines line =
    sum_by-append (λ l. cond (is_call_line l) 1 0) lines (line ∷ []) ∙ ap (λ n. count_by is_call_line lines + n) (zero-add (cond (is_call_line line) 1 0))

-- one line more is counted where it is a call line
pub call_lines-more : (lines : List Line) (i : ℕ) (line : Line) → i < length lines → line ≡ get_or lines i line
    → count_by is_call_line (take (i + 1) lines) ≡ count_by is_call_line (take i lines) + cond (is_call_line line) 1 0
call_lines-more lines i line within here = ap (count_by is_call_line) (take_one_more lines i line within here) ∙ call_lines-push (take i lines) line

-- ---- the texts

pub text_of-lookup : (sources : Sources) (path : Bytes) → lookup (bytes_eq path) sources ≡ text_of sources path
text_of-lookup [] path = refl
text_of-lookup (source ∷ sources) path = ap (λ found. cond (bytes_eq path source.0) (Some source.1) found) (text_of-lookup sources path)

pub texts-part : (sources : Sources) (xs ys zs : List (Bytes × Bytes)) → HaveTexts sources ((xs ++ ys) ++ zs) → HaveTexts sources ys
texts-part sources xs ys zs all = λ k d within.
    let there : length xs + k < length (xs ++ ys) = omega (arith, length-append xs ys) in
    let inside : length xs + k < length ((xs ++ ys) ++ zs) = omega (arith, length-append (xs ++ ys) zs) in
    let at : get_or ((xs ++ ys) ++ zs) (length xs + k) d ≡ get_or ys k d = get_or_append_left (xs ++ ys) zs d (length xs + k) there ∙ get_or-append-add xs ys k d in
    subst (λ (pair : Bytes × Bytes). length (text_at sources pair.1) ≤ max_source_bytes) at (all (length xs + k) d inside)
