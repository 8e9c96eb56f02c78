-- No more files are loaded than names were reloaded.
use Rattle.std.proofs.Common.{◌≡◌, ℕ, ◌≤◌, Bool, true, false, not, ◌||◌, if◌then◌else◌, List, [], ◌∷◌, ◌++◌, length, map, filter, fold, Option, Some, None, ◌==◌, is_some, is_none, IsTrue, refl, sym, ap, ◌∙◌, subst, arith}
use Rattle.std.specs.List.{list_any, IsDistinct}
use Rattle.std.specs.Map.{keys_of}
use Rattle.std.specs.Str.{bytes_eq}
use Rattle.std.specs.Cmp.Lexicographic.{nat_list_eq_equiv}
use Rattle.std.proofs.lemmas.List.{length-map}
use Rattle.std.proofs.lemmas.Map.Keys.{IsDistinct-push}
use Rattle.std.proofs.lemmas.Map.Made.{IsDistinct-keys_filter, is_some-lookup}
use Rattle.std.proofs.lemmas.Map.Steps.{length-le_from_keys}
use Rattle.ask_history.specs.Sources.{Bytes, Sources, is_mutation, put_file, reloaded, mutated}
use Rattle.ask_history.specs.Journal.{call_of, first_of_two, forestalled, mutation_only, taking_effect, changed, sources_step, after}
use Rattle.ask_history.specs.Legal.{is_legal, may_follow}
use Rattle.ask_history.specs.declared.calls.Call.{Call}
use Rattle.ask_history.specs.declared.calls.Call.TheVariants.{Reload, Remove, TypeAt, MembersAt, ScopeAt, LinkAt, Structure, LoadedTyped}
use Rattle.ask_history.specs.declared.events.Mark.{Mark}
use Rattle.ask_history.specs.declared.events.Event.{Event}
use Rattle.ask_history.specs.declared.events.Event.TheVariants.{Accept, Cancel, Close, Settle, Checked}
use Rattle.ask_history.proofs.Walks.{along-push}
use Rattle.ask_history.proofs.Pushes.{legal-induction}
use Rattle.work_queue.specs.declared.usage.Usage.{Usage}
use Rattle.work_queue.specs.declared.queue.Queue.TheInside.{Inside}
use Rattle.work_queue.specs.QueueFacts.{IsQueue}
use Rattle.work_queue.specs.Reloads.{reloaded_by, reloaded_in, reloads, longest, with_name, names_of}
use Rattle.work_queue.proofs.Usages.{longest-append, is_some-longer, list_any-fold, list_any-names_of, bytes_eq_comm}
use Rattle.work_queue.proofs.Queues.{reloads-push}

-- ---- the names of the loaded files

keys_of-put_file : (files : Sources) (pair : Bytes × Bytes) → keys_of (put_file files pair) ≡ with_name (keys_of files) pair
keys_of-put_file [] pair = refl
keys_of-put_file (file ∷ files) pair =
    by (bytes_eq pair.0 file.0) refl (keys_of-put_file files pair)
  where
    later : (b : Bool) → file.0 ∷ (if b then keys_of files else keys_of files ++ pair.0 ∷ []) ≡ (if b then file.0 ∷ keys_of files else (file.0 ∷ keys_of files) ++ pair.0 ∷ [])
    later true = refl
    later false = refl

    by : (b : Bool) → bytes_eq pair.0 file.0 ≡ b → keys_of (put_file files pair) ≡ with_name (keys_of files) pair
        → keys_of (if b then (file.0, pair.1) ∷ files else file ∷ put_file files pair) ≡ with_name (file.0 ∷ keys_of files) pair
    by true same rest = ap (λ b. if (b || list_any (bytes_eq pair.0) (keys_of files)) then file.0 ∷ keys_of files else (file.0 ∷ keys_of files) ++ pair.0 ∷ [])
        (sym same)
    by false other rest = ap (λ (names : List Bytes). file.0 ∷ names) rest
        ∙ later (list_any (bytes_eq pair.0) (keys_of files))
        ∙ ap (λ b. if (b || list_any (bytes_eq pair.0) (keys_of files)) then file.0 ∷ keys_of files else (file.0 ∷ keys_of files) ++ pair.0 ∷ [])
        (sym other)

keys_of-reloaded : (files : Sources) (pairs : List (Bytes × Bytes)) → keys_of (reloaded files pairs) ≡ fold with_name (keys_of files) pairs
keys_of-reloaded files [] = refl
keys_of-reloaded files (pair ∷ pairs) = keys_of-reloaded (put_file files pair) pairs ∙ ap (λ names. fold with_name names pairs) (keys_of-put_file files pair)

distinct-with_name : (names : List Bytes) (pair : Bytes × Bytes) → IsDistinct bytes_eq names → IsDistinct bytes_eq (with_name names pair)
distinct-with_name names pair distinct = by (list_any (bytes_eq pair.0) names) refl
  where
    by : (b : Bool) → list_any (bytes_eq pair.0) names ≡ b → IsDistinct bytes_eq (if b then names else names ++ pair.0 ∷ [])
    by true there = distinct
    by false absent = IsDistinct-push nat_list_eq_equiv names pair.0 distinct absent

distinct-fold : (names : List Bytes) (pairs : List (Bytes × Bytes)) → IsDistinct bytes_eq names → IsDistinct bytes_eq (fold with_name names pairs)
distinct-fold names [] distinct = distinct
distinct-fold names (pair ∷ pairs) distinct = distinct-fold (with_name names pair) pairs (distinct-with_name names pair distinct)

distinct-mutated : (files : Sources) (call : Call) → IsDistinct bytes_eq (keys_of files) → IsDistinct bytes_eq (keys_of (mutated files call))
distinct-mutated files (Reload pairs) distinct = subst (IsDistinct bytes_eq) (sym (keys_of-reloaded files pairs)) (distinct-fold (keys_of files) pairs distinct)
distinct-mutated files (Remove names) distinct = IsDistinct-keys_filter bytes_eq (λ file. not (list_any (bytes_eq file.0) names)) files distinct
distinct-mutated files (TypeAt file offset) distinct = distinct
distinct-mutated files (MembersAt file offset) distinct = distinct
distinct-mutated files (ScopeAt file offset) distinct = distinct
distinct-mutated files (LinkAt file offset) distinct = distinct
distinct-mutated files (Structure file) distinct = distinct
distinct-mutated files (LoadedTyped file) distinct = distinct

list_any-keys_filter : (test : Bytes → Bool) (keep : Bytes × Bytes → Bool) (files : Sources) → list_any test (keys_of (filter keep files)) ≡ true → list_any test (keys_of files) ≡ true
list_any-keys_filter test keep [] h = h
list_any-keys_filter test keep (file ∷ files) h = by (keep file) h (list_any-keys_filter test keep files)
  where
    right : (b c : Bool) → c ≡ true → (b || c) ≡ true
    right true c h = refl
    right false c h = h

    two : (b c d : Bool) → (c ≡ true → d ≡ true) → (b || c) ≡ true → (b || d) ≡ true
    two true c d f h = refl
    two false c d f h = f h

    by : (b : Bool) → list_any test (keys_of (if b then file ∷ filter keep files else filter keep files)) ≡ true
        → (list_any test (keys_of (filter keep files)) ≡ true → list_any test (keys_of files) ≡ true) → list_any test (keys_of (file ∷ files)) ≡ true
    by true e rest = two (test file.0) _ _ rest e
    by false e rest = right (test file.0) _ (rest e)

some_or : (b : Bool) → b ≡ true → (c : Bool) → (b || c) ≡ true
some_or b h c = ap (λ x. x || c) h

-- what is loaded after a mutation was loaded before, or is one of its names
named-mutated : (files : Sources) (call : Call) (name : Bytes) → list_any (bytes_eq name) (keys_of (mutated files call)) ≡ true
    → (list_any (bytes_eq name) (keys_of files) || is_some (longest (reloaded_by call) name)) ≡ true
named-mutated files (Reload pairs) name h =
    sym (ap (list_any (bytes_eq name)) (keys_of-reloaded files pairs) ∙ list_any-fold name (keys_of files) pairs) ∙ h
named-mutated files (Remove names) name h = some_or _ (list_any-keys_filter (bytes_eq name) (λ file. not (list_any (bytes_eq file.0) names)) files h) false
named-mutated files (TypeAt file offset) name h = some_or _ h false
named-mutated files (MembersAt file offset) name h = some_or _ h false
named-mutated files (ScopeAt file offset) name h = some_or _ h false
named-mutated files (LinkAt file offset) name h = some_or _ h false
named-mutated files (Structure file) name h = some_or _ h false
named-mutated files (LoadedTyped file) name h = some_or _ h false

-- ---- along a journal

either : (b c : Bool) (P : Type 0) → (b || c) ≡ true → (b ≡ true → P) → (c ≡ true → P) → P
either true c P h f g = f refl
either false c P h f g = g h

append-named : (front rest : List (Bytes × Bytes)) (name : Bytes) → (is_some (longest front name) || is_some (longest rest name)) ≡ true → is_some (longest (front ++ rest) name) ≡ true
append-named front rest name h = ap is_some (longest-append front rest name) ∙ is_some-longer (longest front name) (longest rest name) ∙ h

or_right : (b c : Bool) → c ≡ true → (b || c) ≡ true
or_right true c h = refl
or_right false c h = h

-- the names of an accepted call are reloaded
named-call : (journal : List Event) (t : ℕ) (call : Call) (name : Bytes) → call_of journal t ≡ Some call → is_some (longest (reloaded_by call) name) ≡ true
    → is_some (longest (reloads journal) name) ≡ true
named-call [] t call name there h = cc
named-call (Accept ticket client tag own ∷ journal) t call name there h =
    append-named (reloaded_by own) (reloads journal) name (by (ticket == t) there (λ e. named-call journal t call name e h))
  where
    by : (b : Bool) → first_of_two (if b then Some own else None) (call_of journal t) ≡ Some call
        → (call_of journal t ≡ Some call → is_some (longest (reloads journal) name) ≡ true)
        → (is_some (longest (reloaded_by own) name) || is_some (longest (reloads journal) name)) ≡ true
    by true e rest = let same : call ≡ own = cc in some_or _ (ap (λ c. is_some (longest (reloaded_by c) name)) (sym same) ∙ h) (is_some (longest (reloads journal) name))
    by false e rest = or_right (is_some (longest (reloaded_by own) name)) _ (rest e)
named-call (Cancel ticket ∷ journal) t call name there h = named-call journal t call name there h
named-call (Close ∷ journal) t call name there h = named-call journal t call name there h
named-call (Settle ticket m ∷ journal) t call name there h = named-call journal t call name there h
named-call (Checked file ∷ journal) t call name there h = named-call journal t call name there h

-- The loaded files have names of their own, which were reloaded.
record HasNames (journal : List Event) (files : Sources) : Type 0 where
  distinct : IsDistinct bytes_eq (keys_of files)
  named : (name : Bytes) → list_any (bytes_eq name) (keys_of files) ≡ true → is_some (longest (reloads journal) name) ≡ true

has_names-mutated : (journal : List Event) (files : Sources) (t : ℕ) (call : Call) → HasNames journal files → call_of journal t ≡ Some call → HasNames journal (mutated files call)
has_names-mutated journal files t call has there = record {
  distinct = distinct-mutated files call has.distinct;
  named = λ name h. either _ _ _ (named-mutated files call name h) (has.named name) (named-call journal t call name there);
}

has_names-more : (journal : List Event) (event : Event) (files : Sources) → HasNames journal files → HasNames (journal ++ event ∷ []) files
has_names-more journal event files has = record {
  distinct = has.distinct;
  named = λ name h. ap (λ es. is_some (longest es name)) (reloads-push journal event)
      ∙ append-named (reloads journal) (reloaded_in event) name (some_or _ (has.named name h) (is_some (longest (reloaded_in event) name)));
}

has_names-changed : (journal : List Event) (files : Sources) (t : ℕ) (o : Option Call) → HasNames journal files → ((call : Call) → o ≡ Some call → call_of journal t ≡ Some call) → HasNames journal (changed files o)
has_names-changed journal files t None has there = has
has_names-changed journal files t (Some call) has there = has_names-mutated journal files t call has (there call refl)

-- a mutation that takes effect is the call of its ticket
effect_call : (journal : List Event) (t : ℕ) (m : Mark) (call : Call) → taking_effect journal t m ≡ Some call → call_of journal t ≡ Some call
effect_call journal t m call h = by (is_none (forestalled journal t m)) (call_of journal t) h
  where
    chosen : (b : Bool) (own : Call) → (if b then Some own else None) ≡ Some call → Some own ≡ Some call
    chosen true own e = e
    chosen false own e = cc

    by : (b : Bool) (o : Option Call) → (if b then mutation_only o else None) ≡ Some call → o ≡ Some call
    by true None e = cc
    by true (Some own) e = chosen (is_mutation own) own e
    by false o e = cc

has_names-step : (journal : List Event) (event : Event) (files : Sources) → HasNames journal files → HasNames journal (sources_step journal files event)
has_names-step journal (Accept ticket client tag call) files has = has
has_names-step journal (Cancel ticket) files has = has
has_names-step journal Close files has = has
has_names-step journal (Settle ticket m) files has = has_names-changed journal files ticket (taking_effect journal ticket m) has (effect_call journal ticket m)
has_names-step journal (Checked file) files has = has

has_names-after : (journal : List Event) → IsTrue (is_legal journal) → HasNames journal (after journal)
unfolding IsDistinct
has_names-after journal legal = legal-induction (λ js. HasNames js (after js)) more none journal legal
  where
    none : HasNames [] []
    none = record { distinct = tt; named = λ name h. cc }

    more : (js : List Event) (event : Event) → IsTrue (is_legal js) → IsTrue (may_follow js event) → HasNames js (after js) → HasNames (js ++ event ∷ []) (after (js ++ event ∷ []))
    more js event legal may has =
        subst (HasNames (js ++ event ∷ [])) (sym (along-push sources_step [] js event))
        (has_names-more js event (sources_step js (after js) event) (has_names-step js event (after js) has))

-- with an accepted call, no more files are loaded than names were reloaded
pub length-mutated : (journal : List Event) → IsTrue (is_legal journal) → (t : ℕ) (call : Call) → call_of journal t ≡ Some call
    → length (mutated (after journal) call) ≤ length (names_of (reloads journal))
length-mutated journal legal t call there =
    let files = mutated (after journal) call in
    let names = names_of (reloads journal) in
    let has = has_names-mutated journal (after journal) t call (has_names-after journal legal) there in
    let pairs : List (Bytes × ℕ) = map (λ name. (name, 0)) names in
    let keys = length-map files (λ (file : Bytes × Bytes). file.0) in
    let count = length-map names (λ (name : Bytes). (let p : Bytes × ℕ = (name, 0) in p)) in
    let most = length-le_from_keys nat_list_eq_equiv (keys_of files) pairs has.distinct
    (λ name h. is_some-lookup (bytes_eq name) pairs ∙ ap (list_any (bytes_eq name)) (same_keys names) ∙ list_any-names_of name (reloads journal) ∙ has.named name h) in
    omega arith
  where
    same_keys : (names : List Bytes) → keys_of (map (λ name. (let p : Bytes × ℕ = (name, 0) in p)) names) ≡ names
    same_keys [] = refl
    same_keys (name ∷ names) = ap (λ (ns : List Bytes). name ∷ ns) (same_keys names)

-- so no more files are loaded than a queue's limit of names lets in
pub few_files : (old : Inside) → IsQueue old → (t : ℕ) (call : Call) → call_of old.log t ≡ Some call → length (mutated (after old.log) call) ≤ 1024
few_files old kept t call there =
    let most = length-mutated old.log kept.legal t call there in
    let names : old.tally.usage.names ≡ length (names_of (reloads old.log)) = ap (λ (u : Usage). u.names) kept.tally.usage in
    let limit = kept.names in
    let within = kept.within.names in
    omega arith
