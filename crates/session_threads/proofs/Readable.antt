-- Scripts that were read may be played.
use Rattle.std.proofs.Common.{◌≡◌, ◌⊎◌, inl, inr, ℕ, zero, suc, ◌^◌, ◌<◌, ◌≤◌, Bool, true, false, not, ◌&&◌, cond, nat_eq, nat_lt, nat_le, List, [], ◌∷◌, ◌++◌, length, map, slice_get, Option, Some, None, Ok, refl, sym, ap, ◌∙◌, subst, arith}
use Rattle.std.specs.Prelude.{option_map}
use Rattle.std.specs.List.{list_all, list_any}
use Rattle.std.proofs.lemmas.Bool.Decides.{nat_tests}
use Rattle.std.proofs.lemmas.List.{length-append, length-map}
use Rattle.std.proofs.lemmas.List.Concat.{flat_map-append}
use Rattle.std.proofs.lemmas.List.Folds.{list_all-append}
use Rattle.std.proofs.lemmas.Option.{slice_get-map}
use Rattle.pc_terms.specs.Bytes.{Bytes}
use Rattle.ask_history.specs.Sources.{Sources}
use Rattle.ask_history.specs.declared.script.Line.{Line}
use Rattle.ask_history.specs.declared.script.Order.{Order}
use Rattle.ask_history.specs.declared.script.Order.TheVariants as order
use Rattle.ask_history.specs.declared.script.Script.{Script}
use Rattle.client_scripts.specs.Lines.{MayPost}
use Rattle.script_text.specs.Grammar.{AreLines}
use Rattle.script_text.specs.Standing.{cancelled, is_meant, is_placed, is_written, may_stand}
use Rattle.script_text.specs.Texts.{line_with, order_with, script_with}
use Rattle.script_text.specs.Words.{lines_of, is_number}
use Rattle.script_text.specs.declared.kinds.ScriptKind.TheVariants as kind
use Rattle.script_text.proofs.WordLemmas.{left_of_both, right_of_both}
use Rattle.session_input.specs.Clients.{clients_reading, named_scripts, scripts_with_sources, scripts_within}
use Rattle.session_input.specs.Counts.{passed_by}
use Rattle.session_input.specs.Input.{unless_passed}
use Rattle.session_input.specs.Limits.{most_of}
use Rattle.session_input.specs.Reads.{Refuses, then_reads, ComesTo}
use Rattle.session_input.specs.Sources.{pairs_of, pairs_in, lines_in, names_files, order_names_files, sources_reading}
use Rattle.session_input.specs.declared.limits.Limit.{Limit}
use Rattle.session_input.specs.declared.limits.Limit.TheVariants as limit
use Rattle.session_input.specs.declared.refusal.Refusal.TheVariants as refusal
use Rattle.session_input.proofs.ClientLemmas.{WasRead, AreRead, ok_split, were_read}
use Rattle.session_input.proofs.CountLemmas.{calls-with}
use Rattle.session_input.proofs.PairLemmas.{pairs_in_script, names_script, found_names, found_few}
use Rattle.session_threads.specs.Clients.{CanPlay, CanPlayAll}
use Rattle.session_threads.proofs.Splits.{value_at}

-- ---- the lines of a text

-- an element of a list with one more is the last, or one of the list
last_or_before : {X : Type 0} (xs above below : List X) (x y : X) → xs ++ x ∷ [] ≡ above ++ y ∷ below
    → ((above ≡ xs) × (y ≡ x)) ⊎ ((rest : List X) × (xs ≡ above ++ y ∷ rest))
last_or_before [] [] below x y h = let same : y ≡ x = cc in inl (refl, same)
last_or_before [] (z ∷ []) below x y h = cc
last_or_before [] (z ∷ w ∷ above) below x y h = cc
last_or_before (w ∷ xs) [] below x y h = let same : w ≡ y = cc in inr (xs, ap (λ z. z ∷ xs) same)
last_or_before (w ∷ xs) (z ∷ above) below x y h =
    let first : w ≡ z = cc in
    let rest : xs ++ x ∷ [] ≡ above ++ y ∷ below = cc in
    elim (last_or_before xs above below x y rest) [
      | inl (same, last) ↦ inl ((λ i. sym first i ∷ same i), last)
      | inr (more, whole) ↦ inr (more, (λ i. first i ∷ whole i))
    ]

-- each line may stand behind those above it
abbrev AllStand : List Line → Type 0
AllStand lines = (above below : List Line) (line : Line) → lines ≡ above ++ line ∷ below → may_stand kind.Client above line ≡ true

one_stands : (lines : List Line) (line : Line) → AllStand lines → may_stand kind.Client lines line ≡ true → AllStand (lines ++ line ∷ [])
one_stands lines line stand stands above below other whole =
    elim (last_or_before lines above below line other whole) [
      | inl (same, last) ↦ subst (λ ls. may_stand kind.Client ls other ≡ true) (sym same) (subst (λ l. may_stand kind.Client lines l ≡ true) (sym last) stands)
      | inr (rest, before) ↦ stand above rest other before
    ]

none_stands : AllStand []
none_stands [] below line whole = cc
none_stands (other ∷ above) below line whole = cc

all_stand : (pieces : List Bytes) (above all : List Line) → AreLines kind.Client above pieces all → AllStand above → AllStand all
all_stand [] above all same stand = subst AllStand (sym same) stand
all_stand (bytes ∷ pieces) above all (inl (passed, rest)) stand = all_stand pieces above all rest stand
all_stand (bytes ∷ pieces) above all (inr (line, here, rest)) stand = all_stand pieces (above ++ line ∷ []) all rest (one_stands above line stand here.stands)

meant_where_it_stands : (above : List Line) (line : Line) → may_stand kind.Client above line ≡ true → is_meant kind.Client above line.order ≡ true
meant_where_it_stands above line stands =
    right_of_both (is_number line.level && is_number line.check && is_number line.turn && is_written line.order && is_placed kind.Client above line) (is_meant kind.Client above line.order) stands

-- ---- with their texts

cancelled-with : (sources : Sources) (lines : List Line) → cancelled (map (line_with sources) lines) ≡ cancelled lines
cancelled-with sources [] = refl
cancelled-with sources (line ∷ lines) = by line.order (cancelled-with sources lines)
  where
    by : (o : Order) → cancelled (map (line_with sources) lines) ≡ cancelled lines
        → cancelled (record line { order = order_with sources o } ∷ map (line_with sources) lines) ≡ cancelled (record line { order = o } ∷ lines)
    by (order.Call call) rest = rest
    by (order.Cancel k) rest = ap (λ ks. k ∷ ks) rest
    by (order.Wait k) rest = rest
    by order.Close rest = rest
    by order.Idle rest = rest

meant-with : (sources : Sources) (above : List Line) (o : Order) → is_meant kind.Client (map (line_with sources) above) (order_with sources o) ≡ is_meant kind.Client above o
meant-with sources above (order.Call call) = refl
meant-with sources above (order.Cancel k) =
    λ i. (nat_lt 0 k && nat_le k (calls-with sources above i)) && not (list_any (nat_eq k) (cancelled-with sources above i))
meant-with sources above (order.Wait k) = λ i. true && (nat_lt 0 k && nat_le k (calls-with sources above i))
meant-with sources above order.Close = refl
meant-with sources above order.Idle = refl

-- one of several is as all are
one_of_all : {X : Type 0} (test : X → Bool) (above below : List X) (x : X) → list_all test (above ++ x ∷ below) ≡ true → test x ≡ true
one_of_all test above below x all = left_of_both (test x) (list_all test below) (right_of_both (list_all test above) (list_all test (x ∷ below)) (sym (list_all-append test above (x ∷ below)) ∙ all))

pairs_of_one : (above below : List Line) (line : Line) → length (pairs_of line.order) ≤ length (pairs_in (above ++ line ∷ below))
pairs_of_one above below line = omega (
  arith,
  ap length (flat_map-append (λ (l : Line). pairs_of l.order) above (line ∷ below)),
  length-append (pairs_in above) (pairs_in (line ∷ below)),
  length-append (pairs_of line.order) (pairs_in below),
)

may_post : (o : Order) → order_names_files o ≡ true → length (pairs_of o) < 2 ^ 32 → MayPost o
may_post (order.Call call) names few = (names, few)
may_post (order.Cancel k) names few = tt
may_post (order.Wait k) names few = tt
may_post order.Close names few = tt
may_post order.Idle names few = tt

-- A script that was read may be played with its texts.
can_play : (sources : Sources) (script : Script) → WasRead script → CanPlay (script_with sources script)
can_play sources script was = record {
  meant = λ above below line whole.
      let at = value_at (line_with sources) script.lines above below line whole in
      let meant : is_meant kind.Client at.front at.x.order ≡ true = meant_where_it_stands at.front at.x (all_stand (lines_of was.text) [] script.lines was.says none_stands at.front at.back at.x at.whole) in
      subst (λ ls. is_meant kind.Client ls line.order ≡ true) at.is_front
      (subst (λ (l : Line). is_meant kind.Client (map (line_with sources) at.front) l.order ≡ true) at.is_x (meant-with sources at.front at.x.order ∙ meant));
  may = λ above below line whole. may_post line.order
      (one_of_all names_files above below line
      (ap (list_all names_files) (sym whole) ∙ found_names sources script.lines (map (line_with sources) script.lines) refl ∙ names_script kind.Client was.text script.lines was.says))
      (omega (
        arith,
        pairs_of_one above below line,
        ap (λ ls. length (pairs_in ls)) whole,
        found_few sources script.lines (map (line_with sources) script.lines) refl,
        pairs_in_script kind.Client was.text script.lines was.says,
        was.small,
      ));
}

-- ---- all that was read

-- These scripts were read: as many as there are names, and no more than there may be.
pub record AreFound (names : List Bytes) (scripts : List Script) : Type 0 where
  pub read : List Script
  pub sources : Sources
  pub few : length names ≤ 32
  pub were : AreRead read
  pub counted : length read ≡ length names
  pub found : scripts ≡ map (script_with sources) read

within_is : (content : Bytes → Option Bytes) (found scripts : List Script) → ComesTo content (scripts_within found) (Ok scripts) → scripts ≡ found
within_is content found scripts = by (passed_by (lines_in found)) where
  by : (passed : Option (Limit × ℕ)) → ComesTo content (unless_passed found passed) (Ok scripts) → scripts ≡ found
  by None (inl same) = cc
  by None (inr wrong) = cc
  by (Some passed) (inl wrong) = cc
  by (Some passed) (inr wrong) = cc

pub are_found : (content : Bytes → Option Bytes) (names : List Bytes) (scripts : List Script) → ComesTo content (clients_reading names) (Ok scripts) → AreFound names scripts
are_found content names scripts = by (nat_lt (most_of limit.Clients) (length names)) refl where
  by : (many : Bool) → nat_lt (most_of limit.Clients) (length names) ≡ many
      → ComesTo content (cond many (Refuses (refusal.Limit limit.Clients (length names))) (then_reads scripts_with_sources (named_scripts names))) (Ok scripts) → AreFound names scripts
  by true is (inl wrong) = cc
  by true is (inr wrong) = cc
  by false is comes =
      let first = ok_split content scripts_with_sources (named_scripts names) scripts comes in
      let second = ok_split content (λ sources. scripts_within (map (script_with sources) first.0)) (sources_reading [] (pairs_in (lines_in first.0))) scripts first.2 in
      let read = were_read content names first.0 first.1 in record {
        read = first.0;
        sources = second.0;
        few = grind (arith, nat_tests);
        were = read.0;
        counted = read.1;
        found = within_is content (map (script_with second.0) first.0) scripts second.2;
      }

pub few_found : (names : List Bytes) (scripts : List Script) → AreFound names scripts → length scripts ≤ 32
few_found names scripts are = omega (arith, are.few, are.counted, ap length are.found, length-map are.read (script_with are.sources))

read_at : (read : List Script) (number : ℕ) (script : Script) → AreRead read → slice_get read number ≡ Some script → WasRead script
read_at [] number script are at = cc
read_at (one ∷ read) zero script are at = let same : one ≡ script = cc in subst WasRead same are.0
read_at (one ∷ read) (suc number) script are at = read_at read number script are.1 at

pub can_play_all : (names : List Bytes) (scripts : List Script) → AreFound names scripts → CanPlayAll scripts
can_play_all names scripts are number script at =
    by (slice_get are.read number) refl (sym (slice_get-map (script_with are.sources) are.read number) ∙ ap (λ ss. slice_get ss number) (sym are.found) ∙ at)
  where
    by : (o : Option Script) → slice_get are.read number ≡ o → option_map (script_with are.sources) o ≡ Some script → CanPlay script
    by None there same = cc
    by (Some one) there same =
        let is : script_with are.sources one ≡ script = cc in subst CanPlay is (can_play are.sources one (read_at are.read number one are.were there))
