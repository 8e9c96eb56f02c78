-- Sources that are read one after another.
use Rattle.std.proofs.Common.{◌≡◌, inl, inr, ℕ, zero, suc, ◌+◌, ◌<◌, ◌≤◌, Bool, true, false, cond, ◌||◌, ◌==◌, nat_lt, List, [], ◌∷◌, ◌++◌, length, take, drop, get_or, drop-cons, add-one, append_assoc, append-nil, Option, Some, None, is_some, unwrap_or, Ok, Err, refl, sym, ap, ◌∙◌, subst, arith}
use Rattle.std.specs.Str.{bytes_eq}
use Rattle.std.proofs.lemmas.List.{take-append-drop}
use Rattle.std.proofs.lemmas.List.Concat.{flat_map-append}
use Rattle.script_text.proofs.TextLemmas.{take_one_more}
use Rattle.ask_history.specs.declared.script.Line.{Line}
use Rattle.std.proofs.lemmas.Bool.Decides.{nat_tests}
use Rattle.std.specs.Str.Lossy.{utf8_valid_len}
use Rattle.pc_terms.specs.Bytes.{Bytes, max_source_bytes}
use Rattle.ask_history.specs.Sources.{Sources, text_of, is_loaded}
use Rattle.script_text.specs.Texts.{text_at}
use Rattle.session_input.specs.Counts.{HaveTexts}
use Rattle.work_queue.proofs.Usages.{bytes_eq_refl}
use Rattle.std.proofs.lemmas.List.Folds.{list_any-append}
use Rattle.session_input.specs.declared.refusal.Refusal.TheVariants as refusal
use Rattle.session_input.specs.Reads.{Reading, Gives, Refuses, then_reads, ComesTo}
use Rattle.session_input.specs.Sources.{text_reading, pairs_of, pairs_in, sources_reading}
use Rattle.session_input.specs.Leads.{Leads, Ends, LeadsOn, EndsAt}
use Rattle.session_input.specs.declared.limits.Limit.TheVariants.{FileBytes}
use Rattle.session_input.specs.declared.refusal.NoInput.{NoInput}
use Rattle.session_input.specs.declared.refusal.NoInput.TheVariants.{NoMemory}
use Rattle.indexmap.specs.IndexMap.{IndexMap, get, insert_entry}
use Rattle.indexmap.proofs.CallerLemmas.{insert_entry-new}
use Rattle.std.specs.Map.{lookup}
use Rattle.session_input.proofs.ReadLemmas.{comes_to-then_ok, comes_to-then_err, comes_to-no_memory}

-- ---- parts of a reading, one after another

pub leads-none : {S X : Type 0} (reading : S → List X → Reading S) (content : Bytes → Option Bytes) (old : S) → Leads reading content old old []
leads-none reading content old = record { leads = λ rest result comes. comes }

pub leads-more : {S X : Type 0} {reading : S → List X → Reading S} {content : Bytes → Option Bytes} {old mid new : S} {xs ys : List X}
    → Leads reading content old mid xs → Leads reading content mid new ys → Leads reading content old new (xs ++ ys)
leads-more {ys = ys} first second = record { leads = λ rest result comes. rw append_assoc (first.leads (ys ++ rest) result (second.leads rest result comes)) }

pub ends-more : {S X : Type 0} {reading : S → List X → Reading S} {content : Bytes → Option Bytes} {old mid : S} {xs ys : List X} {none : NoInput}
    → Leads reading content old mid xs → Ends reading content mid ys none → Ends reading content old (xs ++ ys) none
ends-more {ys = ys} {none = none} first second = record { ends = λ rest. rw append_assoc (first.leads (ys ++ rest) (Err none) (second.ends rest)) }

pub ends-before : {S X : Type 0} {reading : S → List X → Reading S} {content : Bytes → Option Bytes} {old : S} {xs : List X} (ys : List X) {none : NoInput}
    → Ends reading content old xs none → Ends reading content old (xs ++ ys) none
ends-before ys ends = record { ends = λ rest. rw append_assoc (ends.ends (ys ++ rest)) }

-- memory may run out at any part
pub ends-nothing : {S X : Type 0} (reading : S → List X → Reading S) (content : Bytes → Option Bytes) (old : S) (xs : List X) → Ends reading content old xs NoMemory
ends-nothing reading content old xs = record { ends = λ rest. comes_to-no_memory content (reading old (xs ++ rest)) }

-- the whole of a reading that was gone through part by part, where nothing left gives what was read
pub led : {S X : Type 0} {reading : S → List X → Reading S} {content : Bytes → Option Bytes} {old new : S} {xs all : List X} → ComesTo content (reading new []) (Ok new) → xs ≡ all
    → Leads reading content old new xs → ComesTo content (reading old all) (Ok new)
led {reading = reading} {content = content} {old = old} {new = new} {xs = xs} gives same leads =
    subst (λ ys. ComesTo content (reading old ys) (Ok new)) (append-nil xs ∙ same) (leads.leads [] (Ok new) gives)

pub ended : {S X : Type 0} {reading : S → List X → Reading S} {content : Bytes → Option Bytes} {old : S} {xs all : List X} {none : NoInput} → xs ≡ all
    → Ends reading content old xs none → ComesTo {A = S} content (reading old all) (Err none)
ended {S = S} {reading = reading} {content = content} {old = old} {xs = xs} {none = none} same ends =
    subst (λ ys. ComesTo {A = S} content (reading old ys) (Err none)) (append-nil xs ∙ same) (ends.ends [])

-- ---- one source

pub leads-known : (content : Bytes → Option Bytes) (sources : Sources) (pair : Bytes × Bytes) → is_loaded sources pair.1 ≡ true → LeadsOn content sources sources (pair ∷ [])
leads-known content sources pair known = record { leads = λ rest result comes. rw known comes }

pub leads-read : (content : Bytes → Option Bytes) (sources : Sources) (pair : Bytes × Bytes) (text : Bytes) → is_loaded sources pair.1 ≡ false
    → ComesTo content (text_reading FileBytes pair.1) (Ok text) → LeadsOn content sources (sources ++ (pair.1, text) ∷ []) (pair ∷ [])
leads-read content sources pair text new own = record {
  leads = λ rest result comes. rw new (comes_to-then_ok content (λ t. sources_reading (sources ++ (pair.1, t) ∷ []) rest) (text_reading FileBytes pair.1) text result own comes);
}

pub ends-read : (content : Bytes → Option Bytes) (sources : Sources) (pair : Bytes × Bytes) (none : NoInput) → is_loaded sources pair.1 ≡ false
    → ComesTo {A = Bytes} content (text_reading FileBytes pair.1) (Err none) → EndsAt content sources (pair ∷ []) none
ends-read content sources pair none new own = record {
  ends = λ rest. rw new (comes_to-then_err content (λ t. sources_reading (sources ++ (pair.1, t) ∷ []) rest) (text_reading FileBytes pair.1) none own);
}

pub ends-no_memory : (content : Bytes → Option Bytes) (sources : Sources) (pairs : List (Bytes × Bytes)) → EndsAt content sources pairs NoMemory
ends-no_memory content sources pairs = record { ends = λ rest. comes_to-no_memory content (sources_reading sources (pairs ++ rest)) }

-- ---- the map of sources

-- whether a path was read is whether the map has it
pub loaded-lookup : {S : Type 0} (sources : IndexMap Bytes Bytes S) (path : Bytes) → is_loaded sources.entries path ≡ is_some (get bytes_eq sources path)
loaded-lookup sources path = by sources.entries where
  by : (entries : Sources) → is_loaded entries path ≡ is_some (lookup (bytes_eq path) entries)
  by [] = refl
  by (entry ∷ entries) = here (bytes_eq path entry.0) (by entries) where
    here : (b : Bool) → is_loaded entries path ≡ is_some (lookup (bytes_eq path) entries) → (b || is_loaded entries path) ≡ is_some (cond b (Some entry.1) (lookup (bytes_eq path) entries))
    here true rest = refl
    here false rest = rest

none_of : {A : Type 0} (found : Option A) → is_some found ≡ false → found ≡ None
none_of None h = refl
none_of (Some a) h = cc

-- a new path goes last
pub entries-new : {S : Type 0} (sources : IndexMap Bytes Bytes S) (path text : Bytes) → is_loaded sources.entries path ≡ false
    → insert_entry bytes_eq sources.entries path text ≡ sources.entries ++ (path, text) ∷ []
entries-new sources path text new = insert_entry-new bytes_eq sources path text (none_of (get bytes_eq sources path) (sym (loaded-lookup sources path) ∙ new))

-- ---- the pairs of lines

-- all elements: those before one, that one, and those after it
pub split_at_item : {A : Type 0} (xs : List A) (i : ℕ) (x : A) → i < length xs → x ≡ get_or xs i x → (take i xs ++ x ∷ []) ++ drop (i + 1) xs ≡ xs
split_at_item xs i x within here = append_assoc (take i xs) (x ∷ []) (drop (i + 1) xs) ∙ rw (add-one, ← (drop_item xs i x within here)) (take-append-drop i xs) where
  drop_item : {A : Type 0} (xs : List A) (i : ℕ) (x : A) → i < length xs → x ≡ get_or xs i x → drop i xs ≡ x ∷ drop (suc i) xs
  drop_item xs i x within here = rw (drop-cons xs i x within, ← here) refl

pub pairs_in-more : (lines : List Line) (i : ℕ) (line : Line) → i < length lines → line ≡ get_or lines i line
    → pairs_in (take (i + 1) lines) ≡ pairs_in (take i lines) ++ pairs_of line.order
pairs_in-more lines i line within here =
    ap pairs_in (take_one_more lines i line within here) ∙ flat_map-append (λ l. pairs_of l.order) (take i lines) (line ∷ [])
    ∙ ap (λ ps. pairs_in (take i lines) ++ ps) (append-nil (pairs_of line.order))

pub pairs_in-split : (lines : List Line) (i : ℕ) (line : Line) → i < length lines → line ≡ get_or lines i line
    → (pairs_in (take i lines) ++ pairs_of line.order) ++ pairs_in (drop (i + 1) lines) ≡ pairs_in lines
pairs_in-split lines i line within here =
    ap (λ ps. ps ++ pairs_in (drop (i + 1) lines)) (sym (pairs_in-more lines i line within here))
    ∙ sym (flat_map-append (λ l. pairs_of l.order) (take (i + 1) lines) (drop (i + 1) lines)) ∙ ap pairs_in (take-append-drop (i + 1) lines)

-- ---- what was read

abbrev AllSmall : Sources → Type 0
AllSmall [] = Unit {0}
AllSmall (source ∷ sources) = (length source.1 ≤ max_source_bytes) × AllSmall sources

abbrev AllLoaded : Sources → List (Bytes × Bytes) → Type 0
AllLoaded sources [] = Unit {0}
AllLoaded sources (pair ∷ pairs) = (is_loaded sources pair.1 ≡ true) × AllLoaded sources pairs

small-push : (sources : Sources) (path text : Bytes) → AllSmall sources → length text ≤ max_source_bytes → AllSmall (sources ++ (path, text) ∷ [])
small-push [] path text all small = (small, tt)
small-push (source ∷ sources) path text all small = (all.0, small-push sources path text all.1 small)

small_at : (sources : Sources) (path : Bytes) → AllSmall sources → is_loaded sources path ≡ true → length (text_at sources path) ≤ max_source_bytes
small_at [] path all there = cc
small_at (source ∷ sources) path all there = by (bytes_eq path source.0) there (small_at sources path all.1) where
  by : (b : Bool) → (b || is_loaded sources path) ≡ true → (is_loaded sources path ≡ true → length (text_at sources path) ≤ max_source_bytes)
      → length (unwrap_or (cond b (Some source.1) (text_of sources path)) path) ≤ max_source_bytes
  by true e rest = all.0
  by false e rest = rest e

loaded-push : (sources : Sources) (path text other : Bytes) → is_loaded sources other ≡ true → is_loaded (sources ++ (path, text) ∷ []) other ≡ true
loaded-push sources path text other there =
    list_any-append (λ file. bytes_eq other file.0) sources ((path, text) ∷ []) ∙ ap (λ b. b || is_loaded ((path, text) ∷ []) other) there

loaded-new : (sources : Sources) (path text : Bytes) → is_loaded (sources ++ (path, text) ∷ []) path ≡ true
loaded-new sources path text =
    list_any-append (λ file. bytes_eq path file.0) sources ((path, text) ∷ []) ∙ by (is_loaded sources path) (bytes_eq path path) (bytes_eq_refl path) where
      by : (b c : Bool) → c ≡ true → (b || (c || false)) ≡ true
      by true c e = refl
      by false c e = ap (λ d. d || false) e

-- after sources were read, those before are still there, those of the pairs are, and all are small
record WereRead (before after : Sources) (pairs : List (Bytes × Bytes)) : Type 0 where
  kept : (path : Bytes) → is_loaded before path ≡ true → is_loaded after path ≡ true
  loaded : AllLoaded after pairs
  small : AllSmall after

read-known : (before after : Sources) (pair : Bytes × Bytes) (pairs : List (Bytes × Bytes)) → is_loaded before pair.1 ≡ true → WereRead before after pairs → WereRead before after (pair ∷ pairs)
read-known before after pair pairs known rest = record { kept = rest.kept; loaded = (rest.kept pair.1 known, rest.loaded); small = rest.small }

read-new : (before after : Sources) (pair : Bytes × Bytes) (text : Bytes) (pairs : List (Bytes × Bytes)) → WereRead (before ++ (pair.1, text) ∷ []) after pairs → WereRead before after (pair ∷ pairs)
read-new before after pair text pairs rest = record {
  kept = λ path there. rest.kept path (loaded-push before pair.1 text path there);
  loaded = (rest.kept pair.1 (loaded-new before pair.1 text), rest.loaded);
  small = rest.small;
}

-- what is known of the pairs that are left
abbrev Rest : (Bytes → Option Bytes) → List (Bytes × Bytes) → Sources → Type 0
Rest content pairs after = (more : Sources) → AllSmall more → ComesTo content (sources_reading more pairs) (Ok after) → WereRead more after pairs

were_read : (content : Bytes → Option Bytes) (pairs : List (Bytes × Bytes)) (before after : Sources) → AllSmall before
    → ComesTo content (sources_reading before pairs) (Ok after) → WereRead before after pairs
were_read content [] before after small (inl same) =
    let e : after ≡ before = cc in record { kept = λ path there. subst (λ (s : Sources). is_loaded s path ≡ true) (sym e) there; loaded = tt; small = subst AllSmall (sym e) small }
were_read content [] before after small (inr wrong) = cc
were_read content (pair ∷ pairs) before after small comes =
    by (λ more is. were_read content pairs more after is) (is_loaded before pair.1) refl comes where
      from_bytes : Rest content pairs after → (bytes : Bytes) (long whole : Bool) → nat_lt max_source_bytes (length bytes) ≡ long
          → ComesTo content (then_reads (λ text. sources_reading (before ++ (pair.1, text) ∷ []) pairs) (cond long (Refuses (refusal.Limit FileBytes (max_source_bytes + 1))) (cond whole (Gives bytes) (Refuses (refusal.NotUtf8 pair.1 (utf8_valid_len bytes)))))) (Ok after)
          → WereRead before after (pair ∷ pairs)
      from_bytes rest bytes true whole short (inl wrong) = cc
      from_bytes rest bytes true whole short (inr wrong) = cc
      from_bytes rest bytes false true short come =
          let within : length bytes ≤ max_source_bytes = grind (arith, nat_tests) in
          read-new before after pair bytes pairs (rest (before ++ (pair.1, bytes) ∷ []) (small-push before pair.1 bytes small within) come)
      from_bytes rest bytes false false short (inl wrong) = cc
      from_bytes rest bytes false false short (inr wrong) = cc

      from_read : Rest content pairs after → ComesTo content (then_reads (λ text. sources_reading (before ++ (pair.1, text) ∷ []) pairs) (text_reading FileBytes pair.1)) (Ok after) → WereRead before after (pair ∷ pairs)
      from_read rest (inl (inl wrong)) = cc
      from_read rest (inl (inr wrong)) = cc
      from_read rest (inr (bytes, begins, come)) =
          from_bytes rest bytes (nat_lt max_source_bytes (length bytes)) (utf8_valid_len bytes == length bytes) refl come

      by : Rest content pairs after → (b : Bool) → is_loaded before pair.1 ≡ b
          → ComesTo content (cond b (sources_reading before pairs) (then_reads (λ text. sources_reading (before ++ (pair.1, text) ∷ []) pairs) (text_reading FileBytes pair.1))) (Ok after) → WereRead before after (pair ∷ pairs)
      by rest true known come = read-known before after pair pairs known (rest before small come)
      by rest false new come = from_read rest come

texts_of : (sources : Sources) (pairs : List (Bytes × Bytes)) → AllSmall sources → AllLoaded sources pairs → HaveTexts sources pairs
texts_of sources [] small loaded = λ k d within. absurd (omega arith)
texts_of sources (pair ∷ pairs) small loaded = λ k d within. by d k within (texts_of sources pairs small loaded.1) where
  by : (d : Bytes × Bytes) (k : ℕ) → k < length (pair ∷ pairs) → HaveTexts sources pairs → length (text_at sources (get_or (pair ∷ pairs) k d).1) ≤ max_source_bytes
  by d zero within rest = small_at sources pair.1 small loaded.0
  by d (suc k) within rest = rest k d (omega arith)

-- each path that was to be read has a text, and none is longer than a file may be
pub have_texts : (content : Bytes → Option Bytes) (pairs : List (Bytes × Bytes)) (sources : Sources) → ComesTo content (sources_reading [] pairs) (Ok sources) → HaveTexts sources pairs
have_texts content pairs sources comes = let read = were_read content pairs [] sources tt comes in texts_of sources pairs read.small read.loaded
