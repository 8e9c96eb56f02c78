-- What a settling by the driver leaves.
use Rattle.std.proofs.Common.{◌≡◌, ℕ, ◌+◌, ◌<◌, ◌≤◌, Bool, true, false, true≢false, not, ◌||◌, ◌==◌, if◌then◌else◌, is_none, is_some, IsTrue, List, [], ◌∷◌, ◌++◌, filter, Option, Some, None, refl, sym, ap, ◌∙◌, subst, arith, append-nil}
use Rattle.std.specs.List.{list_any, AllByRecursion}
use Rattle.std.proofs.lemmas.Bool.{and_parts}
use Rattle.std.proofs.lemmas.Bool.Decides.{nat_tests}
use Rattle.ask_history.specs.Sources.{Bytes, Sources, is_mutation, mutated}
use Rattle.ask_history.specs.Engine.{EngineState, is_staged, settled_state, mutation_settled, ask_settled, in_force}
use Rattle.ask_history.specs.Journal.{accepted, after, call_of, changed, checked, checked_step, forestalled, is_closed, is_open, is_settled, mutation_only, taking_effect}
use Rattle.ask_history.specs.Legal.{is_legal, is_next, may_follow}
use Rattle.ask_history.specs.declared.answers.Answer.{Answer}
use Rattle.ask_history.specs.declared.calls.Call.{Call}
use Rattle.ask_history.specs.declared.engine.Effect.{Effect}
use Rattle.ask_history.specs.declared.engine.Effect.TheVariants.{Dropped}
use Rattle.ask_history.specs.declared.events.Event.{Event}
use Rattle.ask_history.specs.declared.events.Event.TheVariants.{Settle}
use Rattle.ask_history.specs.declared.events.Mark.{Mark}
use Rattle.ask_history.specs.declared.events.Mark.TheVariants as mark
use Rattle.ask_history.proofs.Accepted.{accepted_below}
use Rattle.ask_history.proofs.Pushes.{accepted-push, call_of-push, two-none}
use Rattle.ask_history.proofs.Walks.{along-push}
use Rattle.pc_terms.specs.declared.problems.Problem.{Problem}
use Rattle.journal_laws.proofs.Settling.{next_kept, next_settled}
use Rattle.journal_laws.proofs.Tickets.{may_last}
use Rattle.journal_laws.proofs.Others.{none_behind_close, sources_settled, settled_one}
use Rattle.engine_driver.specs.History.{Entry, journal_of}
use Rattle.engine_driver.specs.Board.{mark_of, effect_of, settled_as, Settles}
use Rattle.engine_driver.specs.Serving.{has_file, AreChecked, IsAsked, Serves, Drives, IsFound, IsStaging}
use Rattle.engine_driver.specs.Runs.{Adds}
use Rattle.engine_driver.proofs.Later.{journal_of-append, all_so, drives_later}
use Rattle.engine_driver.proofs.Additions.{adds_later, adds_one, adds_behind}
use Rattle.engine_driver.proofs.Asks.{HasAsk, open_in, find_ask, tickets_left, all_left, tickets_of}
use Rattle.engine_driver.proofs.Replies.{no_memory, call_later}

apart_false : (a b : ℕ) → a < b → (b == a) ≡ false
apart_false a b h = grind (arith, nat_tests)

flip_eq : (a b : ℕ) → (a == b) ≡ (b == a)
flip_eq a b = grind (arith, nat_tests)

-- ---- what is written

-- what the driver writes is right
pub adds_settled : (answer_of : Sources → Call → Answer) (problems_of : Sources → Bytes → List Problem) (old new : List Entry) (t : ℕ) (found : Option Answer) (effect : Effect)
    → IsFound answer_of old t found → Settles old new t found effect → Adds answer_of problems_of old new []
adds_settled answer_of problems_of old new t found effect right settles = by (is_closed (journal_of settles.before)) settles.written
  where
    entry : Entry
    entry = settled_as (journal_of settles.before) t found

    by : (b : Bool) → new ≡ settles.before ++ (if b then [] else entry ∷ []) → Adds answer_of problems_of old new []
    by true e = subst (λ es. Adds answer_of problems_of old es []) (sym (e ∙ append-nil settles.before)) (adds_later answer_of problems_of old settles.before settles.later)
    by false e =
        subst (λ es. Adds answer_of problems_of old es []) (sym e)
        (adds_behind answer_of problems_of old settles.before (settles.before ++ entry ∷ []) [] settles.later
        (adds_one answer_of problems_of settles.before entry (λ mine. ap Some (right settles.before settles.later))))

-- What stands after a settling: nothing is written behind the shutdown, and else the settling.
pub record Stands (before new : List Entry) (t : ℕ) (found : Option Answer) : Type 0 where
  pub shut : is_closed (journal_of before) ≡ true → journal_of new ≡ journal_of before
  pub open_ : is_closed (journal_of before) ≡ false → journal_of new ≡ journal_of before ++ Settle t (mark_of found) ∷ []

pub stands : (old new : List Entry) (t : ℕ) (found : Option Answer) (effect : Effect) (s : Settles old new t found effect) → Stands s.before new t found
stands old new t found effect settles = record { shut = shut; open_ = unshut }
  where
    at : (b : Bool) → is_closed (journal_of settles.before) ≡ b → journal_of new ≡ journal_of (settles.before ++ (if b then [] else settled_as (journal_of settles.before) t found ∷ []))
    at b e = ap journal_of settles.written ∙ ap (λ c. journal_of (settles.before ++ (if c then [] else settled_as (journal_of settles.before) t found ∷ []))) e

    shut : is_closed (journal_of settles.before) ≡ true → journal_of new ≡ journal_of settles.before
    shut e = at true e ∙ ap journal_of (append-nil settles.before)

    unshut : is_closed (journal_of settles.before) ≡ false → journal_of new ≡ journal_of settles.before ++ Settle t (mark_of found) ∷ []
    unshut e = at false e ∙ journal_of-append settles.before (settled_as (journal_of settles.before) t found ∷ [])

-- ---- one settling before the shutdown

module _ (journal : List Event) (t : ℕ) (m : Mark) (legal : IsTrue (is_legal (journal ++ Settle t m ∷ []))) where
  may : IsTrue (may_follow journal (Settle t m))
  may = (may_last journal (Settle t m) legal).1

  pub was_legal : IsTrue (is_legal journal)
  was_legal = (may_last journal (Settle t m) legal).0

  same_count : accepted (journal ++ Settle t m ∷ []) ≡ accepted journal
  same_count = accepted-push journal (Settle t m) ∙ (let e : accepted journal + 0 ≡ accepted journal = omega arith in e)

  pub settled_within : t < accepted journal
  settled_within =
      accepted_below journal was_legal t
      (and_parts (is_some (call_of journal t)) (not (is_settled journal t)) (and_parts (is_open journal t) (is_next journal t) may).0).0

  next_behind : (n : ℕ) → n ≤ accepted journal → IsTrue (is_next journal n) → IsTrue (is_next (journal ++ Settle t m ∷ []) n)
  next_behind n within h = next_kept journal (Settle t m) n may within h

  settled_here : IsTrue (is_settled (journal ++ Settle t m ∷ []) t)
  settled_here = settled_one journal t t m ∙ ap (λ b. is_settled journal t || b) own ∙ or_true (is_settled journal t)
    where
      own : (t == t) ≡ true
      own = grind (arith, nat_tests)

      or_true : (b : Bool) → (b || true) ≡ true
      or_true true = refl
      or_true false = refl

  -- an ask of another ticket stays
  asked_other : (n n' : ℕ) → n ≤ n' → (ask : ℕ × Call) → (t == ask.0) ≡ false → IsAsked journal n ask → IsAsked (journal ++ Settle t m ∷ []) n' ask
  asked_other n n' less ask other asked = record {
    fed = let f = asked.fed in omega arith;
    unsettled = settled_one journal t ask.0 m ∙ (λ j. asked.unsettled j || other j);
    called = call_of-push journal (Settle t m) ask.0 ∙ two-none (call_of journal ask.0) ∙ asked.called;
    asks = asked.asks;
  }

  sources_none : taking_effect journal t m ≡ None → after (journal ++ Settle t m ∷ []) ≡ after journal
  sources_none none = sources_settled journal t m ∙ ap (changed (after journal)) none

  files_none : taking_effect journal t m ≡ None → checked (journal ++ Settle t m ∷ []) ≡ checked journal
  files_none none = along-push checked_step [] journal (Settle t m) ∙ ap (λ o. if is_some o then [] else checked journal) none

  sources_some : (call : Call) → taking_effect journal t m ≡ Some call → after (journal ++ Settle t m ∷ []) ≡ mutated (after journal) call
  sources_some call some = sources_settled journal t m ∙ ap (changed (after journal)) some

  files_some : (call : Call) → taking_effect journal t m ≡ Some call → checked (journal ++ Settle t m ∷ []) ≡ []
  files_some call some = along-push checked_step [] journal (Settle t m) ∙ ap (λ o. if is_some o then [] else checked journal) some

  -- an ask's settling
  pub serves_ask : (state : EngineState) (n : ℕ) (opened : List ℕ) → taking_effect journal t m ≡ None → Serves journal state n opened
      → Serves (journal ++ Settle t m ∷ []) (ask_settled state t) n (filter (λ o. not (o == t)) opened)
  serves_ask state n opened none serves = record {
    within = let w = serves.within in let e = same_count in omega arith;
    first = next_behind n serves.within serves.first;
    opens = ap (filter (λ o. not (o == t))) serves.opens ∙ sym (tickets_left state.asks t);
    asked = all_left (IsAsked journal n) (IsAsked (journal ++ Settle t m ∷ []) n) state.asks t
        (λ ask other asked. asked_other n n (omega arith) ask (flip_eq t ask.0 ∙ other) asked) serves.asked;
    files = λ file h. serves.files file (subst (λ files. has_file files file ≡ true) (files_none none) h);
  }

  -- the settling of the next ticket
  pub serves_next : (state state' : EngineState) (opened : List ℕ) → Serves journal state t opened → state'.asks ≡ state.asks → AreChecked (journal ++ Settle t m ∷ []) state'
      → Serves (journal ++ Settle t m ∷ []) state' (t + 1) opened
  serves_next state state' opened serves same files = record {
    within = let w = settled_within in let e = same_count in omega arith;
    first = next_settled (journal ++ Settle t m ∷ []) t (next_behind t serves.within serves.first) settled_here;
    opens = serves.opens ∙ ap tickets_of (sym same);
    asked = subst (AllByRecursion (IsAsked (journal ++ Settle t m ∷ []) (t + 1))) (sym same)
        (all_so (IsAsked journal t) (IsAsked (journal ++ Settle t m ∷ []) (t + 1)) state.asks
        (λ ask asked. asked_other t (t + 1) (omega arith) ask (let fed = asked.fed in apart_false ask.0 t fed) asked) serves.asked);
    files = files;
  }

-- ---- an open ask

-- an ask takes no effect
pub ask_effect : (journal : List Event) (t : ℕ) (m : Mark) (call : Call) → call_of journal t ≡ Some call → is_mutation call ≡ false → taking_effect journal t m ≡ None
ask_effect journal t m call is ask =
    ap (λ o. if is_none (forestalled journal t m) then mutation_only o else None) is
    ∙ ap (λ b. if is_none (forestalled journal t m) then (if b then Some call else None) else None) ask
    ∙ either (is_none (forestalled journal t m)) None
  where
    either : (b : Bool) (o : Option Call) → (if b then o else o) ≡ o
    either true o = refl
    either false o = refl

-- nothing staged: what is settled is an ask
settled_ask : (state : EngineState) (t : ℕ) (effect : Effect) → state.staged ≡ None → settled_state state t effect ≡ ask_settled state t
settled_ask state t effect none = ap (λ o. if is_staged o t then mutation_settled state effect state.staged else ask_settled state t) none

pub drives_ask : (old new : List Entry) (state : EngineState) (n t : ℕ) (opened : List ℕ) (found : Option Answer) (effect : Effect)
    → Drives (journal_of old) state n opened → is_closed (journal_of old) ≡ false → list_any (λ o. o == t) opened ≡ true → Settles old new t found effect
    → Drives (journal_of new) (settled_state state t Dropped) n (filter (λ o. not (o == t)) opened)
drives_ask old new state n t opened found effect drives unshut there settles =
    subst (λ s. Drives (journal_of new) s n (filter (λ o. not (o == t)) opened)) (sym (settled_ask state t Dropped drives.staged)) (by (is_closed (journal_of settles.before)) refl)
  where
    before : List Entry
    before = settles.before

    now : Drives (journal_of before) state n opened
    now = drives_later old before state n opened settles.later drives

    at : Stands before new t found
    at = stands old new t found effect settles

    first : Serves (journal_of old) state n opened
    first = drives.serves unshut

    ask : HasAsk (IsAsked (journal_of old) n) t
    ask = find_ask (IsAsked (journal_of old) n) state.asks t (sym (open_in state.asks t) ∙ sym (ap (list_any (λ o. o == t)) first.opens) ∙ there) first.asked

    none : taking_effect (journal_of before) t (mark_of found) ≡ None
    none = ask_effect (journal_of before) t (mark_of found) ask.call (call_later old before t ask.call settles.later ask.holds.called) ask.holds.asks

    by : (b : Bool) → is_closed (journal_of before) ≡ b → Drives (journal_of new) (ask_settled state t) n (filter (λ o. not (o == t)) opened)
    by true e =
        let same = at.shut e in
        record {
          legal = settles.legal;
          sources = now.sources ∙ ap after (sym same);
          staged = now.staged;
          serves = λ k. absurd (true≢false (sym (ap is_closed same ∙ e) ∙ k));
        }
    by false e =
        let same = at.open_ e in
        let legal = subst (λ js. IsTrue (is_legal js)) same settles.legal in
        record {
          legal = settles.legal;
          sources = now.sources ∙ sym (ap after same ∙ sources_none (journal_of before) t (mark_of found) legal none);
          staged = now.staged;
          serves = λ k. subst (λ js. Serves js (ask_settled state t) n (filter (λ o. not (o == t)) opened)) (sym same)
              (serves_ask (journal_of before) t (mark_of found) legal state n opened none (now.serves e));
        }

-- as the engine and the driver keep it
pub drives_asked : (old new : List Entry) (state state' : EngineState) (n n' t : ℕ) (opened opened' : List ℕ) (found : Option Answer) (effect : Effect)
    → Drives (journal_of old) state n opened → is_closed (journal_of old) ≡ false → list_any (λ o. o == t) opened ≡ true → Settles old new t found effect
    → state' ≡ settled_state state t Dropped → n' ≡ n → opened' ≡ filter (λ o. not (o == t)) opened → Drives (journal_of new) state' n' opened'
drives_asked old new state state' n n' t opened opened' found effect drives unshut there settles is count rows =
    subst (λ (s : EngineState). Drives (journal_of new) s n' opened') (sym is)
    (subst (λ (k : ℕ). Drives (journal_of new) (settled_state state t Dropped) k opened') (sym count)
    (subst (Drives (journal_of new) (settled_state state t Dropped) n) (sym rows) (drives_ask old new state n t opened found effect drives unshut there settles)))

-- ---- the next ticket

-- without memory nothing takes effect
pub none_effect : (journal : List Event) (t : ℕ) → taking_effect journal t mark.NoMemory ≡ None
none_effect journal t = ap (λ b. if b then mutation_only (call_of journal t) else None) (no_memory journal t)

pub drives_unfed : (old new : List Entry) (state : EngineState) (n : ℕ) (opened : List ℕ) (effect : Effect)
    → Drives (journal_of old) state n opened → Settles old new n None effect → Drives (journal_of new) state (n + 1) opened
drives_unfed old new state n opened effect drives settles = by (is_closed (journal_of settles.before)) refl
  where
    before : List Entry
    before = settles.before

    now : Drives (journal_of before) state n opened
    now = drives_later old before state n opened settles.later drives

    at : Stands before new n None
    at = stands old new n None effect settles

    none : taking_effect (journal_of before) n mark.NoMemory ≡ None
    none = none_effect (journal_of before) n

    by : (b : Bool) → is_closed (journal_of before) ≡ b → Drives (journal_of new) state (n + 1) opened
    by true e =
        let same = at.shut e in
        record {
          legal = settles.legal;
          sources = now.sources ∙ ap after (sym same);
          staged = now.staged;
          serves = λ k. absurd (true≢false (sym (ap is_closed same ∙ e) ∙ k));
        }
    by false e =
        let same = at.open_ e in
        let legal = subst (λ js. IsTrue (is_legal js)) same settles.legal in
        let serves = now.serves e in
        record {
          legal = settles.legal;
          sources = now.sources ∙ sym (ap after same ∙ sources_none (journal_of before) n mark.NoMemory legal none);
          staged = now.staged;
          serves = λ k. subst (λ js. Serves js state (n + 1) opened) (sym same)
              (serves_next (journal_of before) n mark.NoMemory legal state state opened serves refl
              (λ file h. serves.files file (subst (λ files. has_file files file ≡ true) (files_none (journal_of before) n mark.NoMemory legal none) h)));
        }

-- ---- a staged mutation

-- a mutation takes effect where it is not forestalled
mutation_effect : (journal : List Event) (t : ℕ) (m : Mark) (call : Call) → call_of journal t ≡ Some call → is_mutation call ≡ true
    → taking_effect journal t m ≡ (if is_none (forestalled journal t m) then Some call else None)
mutation_effect journal t m call is mutates =
    ap (λ o. if is_none (forestalled journal t m) then mutation_only o else None) is
    ∙ ap (λ b. if is_none (forestalled journal t m) then (if b then Some call else None) else None) mutates

own_ticket : (n : ℕ) → (n == n) ≡ true
own_ticket n = grind (arith, nat_tests)

settled_mutation : (state : EngineState) (n : ℕ) (call : Call) (effect : Effect) → state.staged ≡ Some (n, call) → settled_state state n effect ≡ mutation_settled state effect (Some (n, call))
settled_mutation state n call effect is =
    (λ j. if is_staged (is j) n then mutation_settled state effect (is j) else ask_settled state n)
    ∙ ap (λ b. if b then mutation_settled state effect (Some (n, call)) else ask_settled state n) (own_ticket n)

pub drives_staged : (old new : List Entry) (state : EngineState) (n : ℕ) (opened : List ℕ) (value : Answer) (effect : Effect)
    → IsStaging (journal_of old) state n opened → Settles old new n (Some value) effect → Drives (journal_of new) (settled_state state n effect) (n + 1) opened
drives_staged old new state n opened value effect staging settles =
    subst (λ s. Drives (journal_of new) s (n + 1) opened) (sym (settled_mutation state n staging.call effect staging.staged)) (by (is_closed (journal_of settles.before)) refl)
  where
    before : List Entry
    before = settles.before

    unstaged : EngineState
    unstaged = record state { staged = None }

    now : Drives (journal_of before) unstaged n opened
    now = drives_later old before unstaged n opened settles.later staging.drives

    at : Stands before new n (Some value)
    at = stands old new n (Some value) effect settles

    mutation : ℕ × Call
    mutation = (n, staging.call)

    takes : taking_effect (journal_of before) n mark.Done ≡ (if is_none (forestalled (journal_of before) n mark.Done) then Some staging.call else None)
    takes = mutation_effect (journal_of before) n mark.Done staging.call (call_later old before n staging.call settles.later staging.called) staging.mutates

    dropped : taking_effect (journal_of before) n mark.Done ≡ None → Drives (journal_of new) unstaged (n + 1) opened → Drives (journal_of new) (mutation_settled state effect (Some mutation)) (n + 1) opened
    dropped none d = subst (λ e. Drives (journal_of new) (mutation_settled state e (Some mutation)) (n + 1) opened) (sym (settles.becomes ∙ ap effect_of none)) d

    behind : is_closed (journal_of before) ≡ false → (b : Bool) → is_none (forestalled (journal_of before) n mark.Done) ≡ b → Drives (journal_of new) (mutation_settled state effect (Some mutation)) (n + 1) opened
    behind e true k =
        let same = at.open_ e in
        let legal = subst (λ js. IsTrue (is_legal js)) same settles.legal in
        let some : taking_effect (journal_of before) n mark.Done ≡ Some staging.call = takes ∙ ap (λ b. if b then Some staging.call else None) k in
        subst (λ f. Drives (journal_of new) (mutation_settled state f (Some mutation)) (n + 1) opened) (sym (settles.becomes ∙ ap effect_of some))
        (record {
          legal = settles.legal;
          sources = ap (λ files. mutated files staging.call) now.sources ∙ sym (ap after same ∙ sources_some (journal_of before) n mark.Done legal staging.call some);
          staged = refl;
          serves = λ u. subst (λ js. Serves js (in_force state staging.call) (n + 1) opened) (sym same)
              (serves_next (journal_of before) n mark.Done legal unstaged (in_force state staging.call) opened (now.serves e) refl
              (λ file h. absurd (true≢false (sym h ∙ ap (λ files. has_file files file) (files_some (journal_of before) n mark.Done legal staging.call some)))));
        })
    behind e false k =
        let same = at.open_ e in
        let legal = subst (λ js. IsTrue (is_legal js)) same settles.legal in
        let none : taking_effect (journal_of before) n mark.Done ≡ None = takes ∙ ap (λ b. if b then Some staging.call else None) k in
        let serves = now.serves e in
        dropped none
        (record {
          legal = settles.legal;
          sources = now.sources ∙ sym (ap after same ∙ sources_none (journal_of before) n mark.Done legal none);
          staged = refl;
          serves = λ u. subst (λ js. Serves js unstaged (n + 1) opened) (sym same)
              (serves_next (journal_of before) n mark.Done legal unstaged unstaged opened serves refl
              (λ file h. serves.files file (subst (λ files. has_file files file ≡ true) (files_none (journal_of before) n mark.Done legal none) h)));
        })

    by : (b : Bool) → is_closed (journal_of before) ≡ b → Drives (journal_of new) (mutation_settled state effect (Some mutation)) (n + 1) opened
    by true e =
        let same = at.shut e in
        dropped (none_behind_close (journal_of before) n mark.Done e)
        (record {
          legal = settles.legal;
          sources = now.sources ∙ ap after (sym same);
          staged = refl;
          serves = λ k. absurd (true≢false (sym (ap is_closed same ∙ e) ∙ k));
        })
    by false e = behind e (is_none (forestalled (journal_of before) n mark.Done)) refl
