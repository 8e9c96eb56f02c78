-- Checks in the background.
use Rattle.std.proofs.Common.{◌≡◌, ℕ, ◌+◌, Bool, true, false, true≢false, not, ◌&&◌, ◌||◌, if◌then◌else◌, IsTrue, List, [], ◌∷◌, ◌++◌, map, filter, Some, refl, sym, ap, ◌∙◌, subst, arith, append-nil}
use Rattle.std.specs.List.{list_any, AllByRecursion}
use Rattle.std.specs.Str.{bytes_eq}
use Rattle.std.proofs.Math.Bool.{or-false}
use Rattle.std.proofs.lemmas.Bool.{and_from}
use Rattle.std.proofs.lemmas.List.Folds.{list_any-append}
use Rattle.std.proofs.lemmas.Slice.Eq.{bytes_eq-Decides}
use Rattle.pc_terms.specs.declared.problems.Problem.{Problem}
use Rattle.ask_history.specs.Sources.{Bytes, Sources, is_loaded}
use Rattle.ask_history.specs.Engine.{EngineState, IsCheckOf}
use Rattle.ask_history.specs.Journal.{accepted, after, call_of, checked, is_closed, is_settled, settles}
use Rattle.ask_history.specs.Legal.{is_legal, may_follow}
use Rattle.ask_history.specs.declared.answers.Answer.{Answer}
use Rattle.ask_history.specs.declared.calls.Call.{Call}
use Rattle.ask_history.specs.declared.events.Event.{Event}
use Rattle.ask_history.specs.declared.events.Event.TheVariants.{Checked}
use Rattle.ask_history.proofs.Pushes.{accepted-push, call_of-push, list_any-push, two-none}
use Rattle.ask_history.proofs.Walks.{along-push}
use Rattle.ask_history.specs.Journal.{sources_step}
use Rattle.journal_laws.proofs.Settling.{next_kept}
use Rattle.journal_laws.proofs.Tickets.{may_last}
use Rattle.journal_laws.proofs.Others.{files_checked, closed-further}
use Rattle.engine_driver.specs.declared.board.CheckNoted.{CheckNoted}
use Rattle.engine_driver.specs.declared.board.CheckNoted.TheVariants.{Noted, ShutDown, NoMemory}
use Rattle.engine_driver.specs.History.{Entry, journal_of}
use Rattle.engine_driver.specs.Board.{checking, noting, Checks}
use Rattle.engine_driver.specs.Serving.{has_file, IsAsked, Serves, Drives}
use Rattle.engine_driver.specs.Runs.{Adds}
use Rattle.engine_driver.proofs.Later.{journal_of-append, all_so, drives_later, later_sources}
use Rattle.engine_driver.proofs.Additions.{adds_later, adds_one, adds_behind}

-- ---- which file is due

-- the first that passes stands in the list, and passes
record IsFirst (test : Bytes → Bool) (names : List Bytes) (name : Bytes) : Type 0 where
  there : list_any (bytes_eq name) names ≡ true
  passes : test name ≡ true

first_passes : (test : Bytes → Bool) (names : List Bytes) (name : Bytes) (rest : List Bytes) → filter test names ≡ name ∷ rest → IsFirst test names name
first_passes test [] name rest h = cc
first_passes test (n ∷ names) name rest h = by (test n) refl h (λ k. first_passes test names name rest k)
  where
    same_bytes : (b : Bytes) → bytes_eq b b ≡ true
    same_bytes b = (bytes_eq-Decides b b).1 refl

    or_true : (b : Bool) → (b || true) ≡ true
    or_true true = refl
    or_true false = refl

    by : (b : Bool) → test n ≡ b → (if b then n ∷ filter test names else filter test names) ≡ name ∷ rest → (filter test names ≡ name ∷ rest → IsFirst test names name)
        → IsFirst test (n ∷ names) name
    by true e k later =
        let same : n ≡ name = cc in
        subst (IsFirst test (n ∷ names)) same (record { there = ap (λ b. b || list_any (bytes_eq n) names) (same_bytes n); passes = e })
    by false e k later = let f = later k in record { there = ap (λ b. bytes_eq name n || b) f.there ∙ or_true (bytes_eq name n); passes = f.passes }

any_map : (test : Bytes → Bool) (files : Sources) → list_any test (map (λ (file : Bytes × Bytes). file.0) files) ≡ list_any (λ (file : Bytes × Bytes). test file.0) files
any_map test [] = refl
any_map test (file ∷ files) = ap (λ b. test file.0 || b) (any_map test files)

not_true : (b : Bool) → not b ≡ true → b ≡ false
not_true true h = sym h
not_true false h = refl

-- the file whose check the engine tells may be checked
pub check_due : (journal : List Event) (state : EngineState) (n : ℕ) (opened : List ℕ) (file : Bytes) → Drives journal state n opened → is_closed journal ≡ false
    → IsCheckOf state file → IsTrue (may_follow journal (Checked file))
check_due journal state n opened file drives unshut due =
    let first = first_passes (λ name. not (list_any (bytes_eq name) (state.checked ++ state.skipped))) (map (λ (file : Bytes × Bytes). file.0) state.sources) file due.1 due.2 in
    let loaded : is_loaded (after journal) file ≡ true = ap (λ files. is_loaded files file) (sym drives.sources) ∙ sym (any_map (bytes_eq file) state.sources) ∙ first.there in
    let fresh : has_file (state.checked ++ state.skipped) file ≡ false = not_true _ first.passes in
    and_from (is_loaded (after journal) file && not (has_file (checked journal) file)) (not (is_closed journal))
    (and_from (is_loaded (after journal) file) (not (has_file (checked journal) file)) loaded (ap not (by (has_file (checked journal) file) refl fresh)))
    (ap not unshut)
  where
    by : (b : Bool) → has_file (checked journal) file ≡ b → has_file (state.checked ++ state.skipped) file ≡ false → has_file (checked journal) file ≡ false
    by true e k = absurd (true≢false (sym ((drives.serves unshut).files file e) ∙ k))
    by false e k = e

-- ---- what a check leaves

-- more files are checked or skipped
pub checked_more : (journal : List Event) (state state' : EngineState) (n : ℕ) (opened : List ℕ) → state'.sources ≡ state.sources → state'.staged ≡ state.staged → state'.asks ≡ state.asks
    → ((name : Bytes) → has_file (state.checked ++ state.skipped) name ≡ true → has_file (state'.checked ++ state'.skipped) name ≡ true)
    → Drives journal state n opened → Drives journal state' n opened
checked_more journal state state' n opened sources staged asks more drives = record {
  legal = drives.legal;
  sources = sources ∙ drives.sources;
  staged = staged ∙ drives.staged;
  serves = λ k.
      let serves = drives.serves k in
      record {
        within = serves.within;
        first = serves.first;
        opens = serves.opens ∙ ap (map (λ (ask : ℕ × Call). ask.0)) (sym asks);
        asked = subst (AllByRecursion (IsAsked journal n)) (sym asks) serves.asked;
        files = λ name h. more name (serves.files name h);
      };
}

or_true : (b : Bool) → (b || true) ≡ true
or_true true = refl
or_true false = refl

has_append : (front back : List Bytes) (name : Bytes) → has_file (front ++ back) name ≡ (has_file front name || has_file back name)
has_append front back name = list_any-append (bytes_eq name) front back

or_widened : (a a' b b' : Bool) → (a ≡ true → a' ≡ true) → (b ≡ true → b' ≡ true) → (a || b) ≡ true → (a' || b') ≡ true
or_widened true a' b b' f g h = ap (λ c. c || b') (f refl)
or_widened false a' b b' f g h = ap (λ c. a' || c) (g h) ∙ or_true a'

widened : (a b c d : List Bytes) → ((name : Bytes) → has_file a name ≡ true → has_file c name ≡ true) → ((name : Bytes) → has_file b name ≡ true → has_file d name ≡ true)
    → (name : Bytes) → has_file (a ++ b) name ≡ true → has_file (c ++ d) name ≡ true
widened a b c d f g name h =
    has_append c d name ∙ or_widened (has_file a name) (has_file c name) (has_file b name) (has_file d name) (f name) (g name) (sym (has_append a b name) ∙ h)

pub behind_more : (files : List Bytes) (last name : Bytes) → has_file files name ≡ true → has_file (files ++ last ∷ []) name ≡ true
behind_more files last name h = has_append files (last ∷ []) name ∙ ap (λ b. b || has_file (last ∷ []) name) h

-- the engine checked a file, or skipped one
pub drives_checked : (journal : List Event) (state : EngineState) (n : ℕ) (opened : List ℕ) (file : Bytes) → Drives journal state n opened
    → Drives journal (record state { checked = state.checked ++ file ∷ [] }) n opened
drives_checked journal state n opened file drives =
    checked_more journal state (record state { checked = state.checked ++ file ∷ [] }) n opened refl refl refl
    (widened state.checked state.skipped (state.checked ++ file ∷ []) state.skipped (λ name h. behind_more state.checked file name h) (λ name h. h)) drives

pub drives_skipped : (journal : List Event) (state : EngineState) (n : ℕ) (opened : List ℕ) (file : Bytes) → Drives journal state n opened
    → Drives journal (record state { skipped = state.skipped ++ file ∷ [] }) n opened
drives_skipped journal state n opened file drives =
    checked_more journal state (record state { skipped = state.skipped ++ file ∷ [] }) n opened refl refl refl
    (widened state.checked state.skipped state.checked (state.skipped ++ file ∷ []) (λ name h. h) (λ name h. behind_more state.skipped file name h)) drives

pub has_checked : (state : EngineState) (file : Bytes) → has_file ((state.checked ++ file ∷ []) ++ state.skipped) file ≡ true
has_checked state file =
    has_append (state.checked ++ file ∷ []) state.skipped file
    ∙ ap (λ b. b || has_file state.skipped file) (has_append state.checked (file ∷ []) file ∙ ap (λ b. has_file state.checked file || (b || false)) ((bytes_eq-Decides file file).1 refl) ∙ or_true (has_file state.checked file))

-- the engine checked a file, and the driver noted it, or not
pub checked_noted : (journal journal' : List Event) (state state' : EngineState) (n : ℕ) (opened : List ℕ) (file : Bytes)
    → ((s : EngineState) (k : ℕ) (o : List ℕ) → Drives journal s k o → has_file (s.checked ++ s.skipped) file ≡ true → Drives journal' s k o)
    → state' ≡ record state { checked = state.checked ++ file ∷ [] } → Drives journal state n opened → Drives journal' state' n opened
checked_noted journal journal' state state' n opened file noted is drives =
    subst (λ (s : EngineState). Drives journal' s n opened) (sym is)
    (noted (record state { checked = state.checked ++ file ∷ [] }) n opened (drives_checked journal state n opened file drives) (has_checked state file))

-- ---- the event of a check

module _ (journal : List Event) (file : Bytes) (may : IsTrue (may_follow journal (Checked file))) where
  same_count : accepted (journal ++ Checked file ∷ []) ≡ accepted journal
  same_count = accepted-push journal (Checked file) ∙ (let e : accepted journal + 0 ≡ accepted journal = omega arith in e)

  asked_stays : (n : ℕ) (ask : ℕ × Call) → IsAsked journal n ask → IsAsked (journal ++ Checked file ∷ []) n ask
  asked_stays n ask asked = record {
    fed = asked.fed;
    unsettled = list_any-push (settles ask.0) journal (Checked file) ∙ or-false (is_settled journal ask.0) ∙ asked.unsettled;
    called = call_of-push journal (Checked file) ask.0 ∙ two-none (call_of journal ask.0) ∙ asked.called;
    asks = asked.asks;
  }

  serves_checked : (state : EngineState) (n : ℕ) (opened : List ℕ) → has_file (state.checked ++ state.skipped) file ≡ true → Serves journal state n opened
      → Serves (journal ++ Checked file ∷ []) state n opened
  serves_checked state n opened has serves = record {
    within = let w = serves.within in let e = same_count in omega arith;
    first = next_kept journal (Checked file) n may serves.within serves.first;
    opens = serves.opens;
    asked = all_so (IsAsked journal n) (IsAsked (journal ++ Checked file ∷ []) n) state.asks (asked_stays n) serves.asked;
    files = λ name h. by name (has_file (checked journal) name) refl (sym (ap (λ files. has_file files name) (files_checked journal file) ∙ has_append (checked journal) (file ∷ []) name) ∙ h);
  }
    where
      by : (name : Bytes) (b : Bool) → has_file (checked journal) name ≡ b → (has_file (checked journal) name || (bytes_eq name file || false)) ≡ true
          → has_file (state.checked ++ state.skipped) name ≡ true
      by name true e h = serves.files name e
      by name false e h =
          let own : bytes_eq name file ≡ true = sym (or-false (bytes_eq name file)) ∙ sym (ap (λ b. b || (bytes_eq name file || false)) e) ∙ h in
          let same : name ≡ file = (bytes_eq-Decides name file).0 own in
          subst (λ f. has_file (state.checked ++ state.skipped) f ≡ true) (sym same) has

pub drives_noted : (old new : List Entry) (state : EngineState) (n : ℕ) (opened : List ℕ) (file : Bytes) (problems : List Problem) (what : CheckNoted)
    → Checks old new file problems what → has_file (state.checked ++ state.skipped) file ≡ true → Drives (journal_of old) state n opened → Drives (journal_of new) state n opened
drives_noted old new state n opened file problems what checks has drives = by what checks.written
  where
    before : List Entry
    before = checks.before

    now : Drives (journal_of before) state n opened
    now = drives_later old before state n opened checks.later drives

    by : (result : CheckNoted) → new ≡ before ++ noting file problems result → Drives (journal_of new) state n opened
    by Noted e =
        let same : journal_of new ≡ journal_of before ++ Checked file ∷ [] = ap journal_of e ∙ journal_of-append before (checking file problems ∷ []) in
        let legal = subst (λ js. IsTrue (is_legal js)) same checks.legal in
        let may = (may_last (journal_of before) (Checked file) legal).1 in
        record {
          legal = checks.legal;
          sources = now.sources ∙ sym (ap after same ∙ along-push sources_step [] (journal_of before) (Checked file));
          staged = now.staged;
          serves = λ k. subst (λ js. Serves js state n opened) (sym same)
              (serves_checked (journal_of before) file may state n opened has (now.serves (open_before (journal_of before) (sym (ap is_closed same) ∙ k))));
        }
      where
        open_before : (js : List Event) → is_closed (js ++ Checked file ∷ []) ≡ false → is_closed js ≡ false
        open_before js k = closed-further js (Checked file ∷ []) k
    by ShutDown e = subst (λ es. Drives (journal_of es) state n opened) (sym (e ∙ append-nil before)) now
    by NoMemory e = subst (λ es. Drives (journal_of es) state n opened) (sym (e ∙ append-nil before)) now

-- ---- what is written of it

module _ (answer_of : Sources → Call → Answer) (problems_of : Sources → Bytes → List Problem) where
  pub adds_noted : (old new : List Entry) (file : Bytes) (problems : List Problem) → problems ≡ problems_of (after (journal_of old)) file → Checks old new file problems Noted
      → Adds answer_of problems_of old new ((file, problems) ∷ [])
  adds_noted old new file problems right checks =
      let before : List Entry = checks.before in
      let entry : Entry = checking file problems in
      let same : problems ≡ problems_of (after (journal_of before)) file = right ∙ ap (λ files. problems_of files file) (sym (later_sources old before checks.later)) in
      subst (λ es. Adds answer_of problems_of old es ((file, problems) ∷ [])) (sym checks.written)
      (adds_behind answer_of problems_of old before (before ++ entry ∷ []) ((file, problems) ∷ []) checks.later
      (adds_one answer_of problems_of before entry (λ mine. ap Some same)))

  pub adds_unnoted : (old new : List Entry) (file : Bytes) (problems : List Problem) (what : CheckNoted) → noting file problems what ≡ [] → Checks old new file problems what
      → Adds answer_of problems_of old new []
  adds_unnoted old new file problems what none checks =
      subst (λ es. Adds answer_of problems_of old es []) (sym (checks.written ∙ ap (λ es. checks.before ++ es) none ∙ append-nil checks.before))
      (adds_later answer_of problems_of old checks.before checks.later)
