-- What is known of a call that is not refused.
use Rattle.std.proofs.Common.{◌≡◌, ◌≢◌, ℕ, ◌+◌, ◌*◌, ◌^◌, ◌<◌, ◌≤◌, Bool, true, false, if◌then◌else◌, nat_lt, ◌==◌, List, [], ◌∷◌, ◌++◌, length, Option, Some, None, refl, ap, arith}
use Rattle.std.specs.Option.{option_or, option_map}
use Rattle.std.proofs.Math.Nat.{mul-le-mul}
use Rattle.std.proofs.lemmas.Bool.{eqb-false}
use Rattle.std.proofs.lemmas.Bool.Decides.{nat_tests}
use Rattle.std.proofs.lemmas.List.Sums.{sum_by-cons}
use Rattle.ask_history.specs.Sources.{Bytes}
use Rattle.ask_history.specs.Journal.{accepted, is_closed}
use Rattle.ask_history.specs.Engine.{HasFileSizes}
use Rattle.ask_history.specs.declared.calls.Call.{Call}
use Rattle.ask_history.specs.declared.calls.Call.TheVariants.{Reload, Remove, TypeAt, MembersAt, ScopeAt, LinkAt, Structure, LoadedTyped}
use Rattle.std.specs.List.{All}
use Rattle.std.proofs.lemmas.List.Elements.{All-nil, All-cons}
use Rattle.ask_history.specs.declared.events.Event.{Event}
use Rattle.work_queue.specs.declared.limits.Limits.{Limits}
use Rattle.work_queue.specs.declared.limits.PostRefused.{PostRefused}
use Rattle.work_queue.specs.declared.limits.PostRefused.TheVariants.{TooLarge, CallsFull, TextFull, Closed, NamesFull, MapFull}
use Rattle.work_queue.specs.declared.usage.Usage.{Usage}
use Rattle.work_queue.specs.Indexes.{close_index}
use Rattle.work_queue.specs.Reloads.{reloaded_by, reloads, text_bytes, usage_of}
use Rattle.work_queue.specs.Refusal.{too_large, above, overfull, refusal}
use Rattle.work_queue.proofs.Queues.{close_index-unclosed}

-- where no text is too long, all of them take no more than their number times the longest
text_bytes-le : (limit : ℕ) (pairs : List (Bytes × Bytes)) → too_large limit pairs ≡ None → text_bytes pairs ≤ length pairs * limit
text_bytes-le limit [] h = omega arith
text_bytes-le limit (pair ∷ pairs) h = by (nat_lt limit (length pair.1)) refl h (text_bytes-le limit pairs)
  where
    by : (b : Bool) → nat_lt limit (length pair.1) ≡ b → (if b then Some (length pair.1) else too_large limit pairs) ≡ None
        → (too_large limit pairs ≡ None → text_bytes pairs ≤ length pairs * limit) → text_bytes (pair ∷ pairs) ≤ length (pair ∷ pairs) * limit
    by true long e rest = cc
    by false short e rest =
        let here : length pair.1 ≤ limit = grind (arith, nat_tests) in
        let more = rest e in
        let sum = sum_by-cons (λ (n : Bytes × Bytes). length n.1) pair pairs in
        let next : (length pairs + 1) * limit ≡ length pairs * limit + limit = omega arith in
        let count : length (pair ∷ pairs) * limit ≡ (length pairs + 1) * limit = ap (λ n. n * limit) (let e : length (pair ∷ pairs) ≡ length pairs + 1 = omega arith in e) in
        omega arith

-- so the texts of a call with fewer than 2 ^ 32 of them can be counted
pub text_bytes-fits : (limit used : ℕ) (pairs : List (Bytes × Bytes)) → too_large limit pairs ≡ None → limit ≤ 262144 → length pairs < 2 ^ 32 → used ≤ 268435456
    → used + text_bytes pairs < 2 ^ 64
text_bytes-fits limit used pairs h small few less =
    let all = text_bytes-le limit pairs h in
    let most : length pairs * limit ≤ 4294967296 * 262144 = mul-le-mul (let l : length pairs ≤ 4294967296 = omega arith in l) small in
    omega arith

none_first : {X : Type 0} (a b : Option X) → option_or a b ≡ None → (a ≡ None) × (b ≡ None)
none_first None b h = (refl, h)
none_first (Some x) b h = cc

none_inside : {X Y : Type 0} (f : X → Y) (o : Option X) → option_map f o ≡ None → o ≡ None
none_inside f None h = refl
none_inside f (Some x) h = cc

not_above : (limit n : ℕ) → above limit n ≡ None → n ≤ limit
not_above limit n h = by (nat_lt limit n) refl h
  where
    by : (b : Bool) → nat_lt limit n ≡ b → (if b then Some n else None) ≡ None → n ≤ limit
    by true more e = cc
    by false less e = grind (arith, nat_tests)

count_left : (n limit : ℕ) (why : PostRefused) → (if n == limit then Some why else None) ≡ None → n ≢ limit
count_left n limit why h = by (n == limit) refl h
  where
    by : (b : Bool) → (n == limit) ≡ b → (if b then Some why else None) ≡ None → n ≢ limit
    by true same e = cc
    by false other e = eqb-false n limit other

-- what holds where a call is not refused
pub record IsFree (limits : Limits) (journal : List Event) (call : Call) : Type 0 where
  pub unclosed : is_closed journal ≡ false
  pub small : too_large limits.file (reloaded_by call) ≡ None
  pub count : accepted journal ≢ limits.calls
  pub text : (usage_of (reloads journal ++ reloaded_by call)).text ≤ limits.text
  pub names : (usage_of (reloads journal ++ reloaded_by call)).names ≤ limits.names
  pub map : (usage_of (reloads journal ++ reloaded_by call)).map ≤ limits.map

pub is_free : (limits : Limits) (journal : List Event) (call : Call) → refusal limits journal call ≡ None → IsFree limits journal call
is_free limits journal call free =
    let usage : Usage = usage_of (reloads journal ++ reloaded_by call) in
    let full = overfull limits usage in
    let count : Option PostRefused = if accepted journal == limits.calls then Some (CallsFull (accepted journal)) else None in
    let size : Option PostRefused = option_map TooLarge (too_large limits.file (reloaded_by call)) in
    let first = none_first (option_map Closed (close_index journal)) (option_or size (option_or count full)) free in
    let second = none_first size (option_or count full) first.1 in
    let third = none_first count full second.1 in
    let names : Option PostRefused = option_map NamesFull (above limits.names usage.names) in
    let map : Option PostRefused = option_map MapFull (above limits.map usage.map) in
    let fourth = none_first (option_map TextFull (above limits.text usage.text)) (option_or names map) third.1 in
    let fifth = none_first names map fourth.1 in
    record {
      unclosed = close_index-unclosed journal (none_inside Closed (close_index journal) first.0);
      small = none_inside TooLarge (too_large limits.file (reloaded_by call)) second.0;
      count = count_left (accepted journal) limits.calls (CallsFull (accepted journal)) third.0;
      text = not_above limits.text usage.text (none_inside TextFull (above limits.text usage.text) fourth.0);
      names = not_above limits.names usage.names (none_inside NamesFull (above limits.names usage.names) fifth.0);
      map = not_above limits.map usage.map (none_inside MapFull (above limits.map usage.map) fifth.1);
    }

-- where no text is too long, the call has the sizes of files
pub has_file_sizes : (limit : ℕ) → limit ≤ 262144 → (call : Call) → too_large limit (reloaded_by call) ≡ None → HasFileSizes call
has_file_sizes limit most (Reload pairs) h = each pairs h
  where
    each : (pairs : List (Bytes × Bytes)) → too_large limit pairs ≡ None → All (λ pair. length pair.1 ≤ 262144) pairs
    each [] h = All-nil (λ (pair : Bytes × Bytes). length pair.1 ≤ 262144)
    each (pair ∷ pairs) h = by (nat_lt limit (length pair.1)) refl h (each pairs)
      where
        by : (b : Bool) → nat_lt limit (length pair.1) ≡ b → (if b then Some (length pair.1) else too_large limit pairs) ≡ None
            → (too_large limit pairs ≡ None → All (λ e. length e.1 ≤ 262144) pairs) → All (λ e. length e.1 ≤ 262144) (pair ∷ pairs)
        by true long e rest = cc
        by false short e rest =
            let here : length pair.1 ≤ limit = grind (arith, nat_tests) in
            All-cons (λ (e : Bytes × Bytes). length e.1 ≤ 262144) pair pairs (omega arith) (rest e)
has_file_sizes limit most (Remove names) h = tt
has_file_sizes limit most (TypeAt file offset) h = tt
has_file_sizes limit most (MembersAt file offset) h = tt
has_file_sizes limit most (ScopeAt file offset) h = tt
has_file_sizes limit most (LinkAt file offset) h = tt
has_file_sizes limit most (Structure file) h = tt
has_file_sizes limit most (LoadedTyped file) h = tt
