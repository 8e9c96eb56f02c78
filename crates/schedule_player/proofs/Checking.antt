-- Turns of checks, and checks that are noted.
use Rattle.std.proofs.Common.{◌≡◌, ℕ, ◌<◌, Bool, true, false, not, ◌||◌, ◌&&◌, if◌then◌else◌, List, [], ◌∷◌, ◌++◌, length, map, All, Option, Some, None, is_some, IsTrue, refl, sym, ap, ◌∙◌, subst}
use Rattle.std.specs.List.{list_any}
use Rattle.std.specs.Str.{bytes_eq}
use Rattle.std.proofs.Math.Bool.{or-false}
use Rattle.std.proofs.lemmas.Bool.{and_from, and_right, not-false}
use Rattle.std.proofs.lemmas.List.{append-nil}
use Rattle.pc_terms.specs.declared.problems.Problem.{Problem}
use Rattle.ask_history.specs.Sources.{Bytes, Sources, is_loaded, unchecked, some_of}
use Rattle.ask_history.specs.Journal.{call_of, is_close, is_closed, is_settled, is_open, all_settled, after, checked, findings}
use Rattle.ask_history.specs.Checks.{due, check_begins, check_done, first_checked}
use Rattle.ask_history.specs.Legal.{may_follow}
use Rattle.ask_history.specs.Engine.{EngineState, TurnGives, IsCheckOf, files_due, is_idle}
use Rattle.ask_history.specs.declared.calls.Call.{Call}
use Rattle.ask_history.specs.declared.answers.Answer.{Answer}
use Rattle.ask_history.specs.declared.engine.Turn.{Turn}
use Rattle.ask_history.specs.declared.engine.Turn.TheVariants as turn
use Rattle.ask_history.specs.declared.events.Event.{Event}
use Rattle.ask_history.specs.declared.events.Event.TheVariants.{Checked}
use Rattle.ask_history.proofs.Pushes.{list_any-push}
use Rattle.ask_history.proofs.Underway.{Holds, is_among}
use Rattle.ask_history.proofs.Plays.{Keeps, keeps-check_done, first_passes, loaded_names, settled_tickets}
use Rattle.schedule_player.specs.Around.{asks_of, fed_of}
use Rattle.schedule_player.specs.Steps.{Says, IsSameButFound}
use Rattle.schedule_player.specs.SessionState.{SessionState}
use Rattle.schedule_player.specs.InStep.{IsAsked, IsNoted, IsServed, InStep, IsAhead, ChecksInStep}
use Rattle.schedule_player.specs.declared.session.Pending.{Pending}
use Rattle.schedule_player.specs.declared.checks.Step.TheVariants as step
use Rattle.schedule_player.proofs.Tops.{fed_none}
use Rattle.schedule_player.proofs.Served.{asked_stays}
use Rattle.schedule_player.proofs.Pushing.{after-push, checked-push, findings-push}
use Rattle.schedule_player.proofs.Noted.{noted_check}

pub no_map : {A B : Type 0} (f : A → B) (xs : List A) → map f xs ≡ [] → xs ≡ []
no_map f [] h = refl
no_map f (x ∷ xs) h = cc

pub if_none : (b : Bool) (ts : List ℕ) → ts ≡ [] → (if b then [] else ts) ≡ []
if_none true ts h = refl
if_none false ts h = h

pub none_some : {A : Type 0} (xs : List A) → some_of xs ≡ false → xs ≡ []
none_some [] h = refl
none_some (x ∷ xs) h = cc

-- where no ask is around, every call is settled
pub settled_alone : (journal : List Event) → Holds [] journal → all_settled journal ≡ true
settled_alone journal holds = settled_tickets (is_settled journal) journal called
  where
    called : (t : ℕ) → is_some (call_of journal t) ≡ true → is_settled journal t ≡ true
    called t there =
        not-false (is_settled journal t)
        (ap (λ b. b && not (is_settled journal t)) (sym there) ∙ holds.opens t ∙ and_right (not (is_closed journal)) false refl)

module _ (answer_of : Sources → Call → Answer) (problems_of : Sources → Bytes → List Problem) (session : SessionState) (state : EngineState)
    (in_step : InStep answer_of problems_of session state) (checks : ChecksInStep problems_of session state) (alone : asks_of session.outers ≡ []) where
  pub no_asks : state.asks ≡ []
  no_asks = no_map (λ ask. ask.0) state.asks (in_step.served.fed ∙ if_none session.closed (fed_of session.outers) (fed_none session.outers alone))

  pub held_alone : Holds [] session.journal
  held_alone = subst (λ ts. Holds ts session.journal) alone in_step.holds

  pub begins_is : check_begins session.journal ≡ (not (is_closed session.journal) && some_of (due session.journal))
  begins_is = ap (λ b. not (is_closed session.journal) && b && some_of (due session.journal)) (settled_alone session.journal held_alone) ∙ by (is_closed session.journal)
    where
      by : (b : Bool) → ((not b && true) && some_of (due session.journal)) ≡ (not b && some_of (due session.journal))
      by true = refl
      by false = refl

  pub begins_yes : session.closed ≡ false → some_of (due session.journal) ≡ true → check_begins session.journal ≡ true
  begins_yes live some = begins_is ∙ (λ j. not ((sym in_step.closed ∙ live) j) && some j)

  -- ---- turns, where the engine has told of no check that is not noted

  module _ (none : session.found ≡ None) where
    noted_checks : state.checked ≡ checked session.journal
    noted_checks = subst (λ f. IsAhead problems_of session.journal f state.checked) none checks.ahead

    pub due_is : files_due state ≡ due session.journal
    due_is = (λ j. unchecked (noted_checks j ++ checks.skipped j) (in_step.served.sources j)) ∙ ap (λ ns. unchecked ns (after session.journal)) (append-nil (checked session.journal))

    pub goes_on : is_idle state ≡ false → some_of (due session.journal) ≡ true
    goes_on h = ap some_of (sym due_is) ∙ not-false (some_of (files_due state)) (ap (λ asks. not (some_of asks || some_of (files_due state))) (sym no_asks) ∙ h)

    pub nothing_due : is_idle state ≡ true → due session.journal ≡ []
    nothing_due h = sym due_is ∙ none_some (files_due state) (by (some_of (files_due state)) (ap (λ asks. not (some_of asks || some_of (files_due state))) (sym no_asks) ∙ h))
      where
        by : (b : Bool) → not b ≡ true → b ≡ false
        by true k = sym k
        by false k = refl

    pub found_due : (file : Bytes) → IsCheckOf state file → (rest : List Bytes) × (due session.journal ≡ file ∷ rest)
    found_due file is = (is.1, sym due_is ∙ is.2)

  -- an engine that differs in what it checked or skipped
  pub other_served : (new : EngineState) (found : Option Pending) → new.asks ≡ state.asks → new.staged ≡ state.staged → new.sources ≡ state.sources
      → InStep answer_of problems_of (record session { found = found }) new
  other_served new found asks staged sources = record {
    holds = in_step.holds;
    stacked = in_step.stacked;
    closed = in_step.closed;
    noted = let n = in_step.noted in record { numbered = n.numbered; counted = n.counted; answers = n.answers; problems = n.problems };
    served = let s = in_step.served in record {
      fed = ap (map (λ a. a.0)) asks ∙ s.fed;
      asked = subst (All (IsAsked session.journal)) (sym asks) s.asked;
      staged = staged ∙ s.staged;
      sources = sources ∙ s.sources;
    };
  }

  -- ---- a check that is noted

  module _ (live : session.closed ≡ false) (f : Pending) (is : session.found ≡ Some f) where
    ahead : IsAhead problems_of session.journal (Some f) state.checked
    ahead = subst (λ o. IsAhead problems_of session.journal o state.checked) is checks.ahead

    shut : is_closed session.journal ≡ false
    shut = sym in_step.closed ∙ live

    pub some_due : some_of (due session.journal) ≡ true
    some_due = ap some_of ahead.3

    pub may_note : IsTrue (may_follow session.journal (Checked f.file))
    may_note =
        let passes = first_passes (λ n. not (list_any (bytes_eq n) (checked session.journal))) (map (λ file. file.0) (after session.journal)) f.file ahead.2 ahead.3 in
        and_from (is_loaded (after session.journal) f.file && not (list_any (bytes_eq f.file) (checked session.journal))) (not (is_closed session.journal))
        (and_from (is_loaded (after session.journal) f.file) _ (sym (loaded_names (after session.journal) f.file) ∙ passes.1) passes.0) (ap not shut)

    pub done_is : check_done session.journal ≡ session.journal ++ Checked f.file ∷ []
    done_is = ap (λ b. if b then session.journal else first_checked (due session.journal) session.journal) shut ∙ ap (λ ns. first_checked ns session.journal) ahead.3

    same_after : after (session.journal ++ Checked f.file ∷ []) ≡ after session.journal
    same_after = after-push session.journal (Checked f.file)

    pub noted_in_step : InStep answer_of problems_of (record session { journal = session.journal ++ Checked f.file ∷ []; problems = session.problems ++ f.problems ∷ []; found = None }) state
    unfolding Keeps
    noted_in_step = record {
      holds = subst (Holds (asks_of session.outers)) done_is (keeps-check_done (asks_of session.outers) session.journal in_step.holds);
      stacked = in_step.stacked;
      closed = in_step.closed ∙ sym (list_any-push is_close session.journal (Checked f.file) ∙ or-false (is_closed session.journal));
      noted = let n = noted_check answer_of problems_of session in_step.noted f.file f.problems ahead.1 in
          record { numbered = n.numbered; counted = n.counted; answers = n.answers; problems = n.problems };
      served = let s = in_step.served in record {
        fed = s.fed;
        asked = asked_stays session.journal (Checked f.file) state.asks s.asked;
        staged = s.staged;
        sources = s.sources ∙ sym same_after;
      };
    }

    pub noted_checks_in_step : ChecksInStep problems_of (record session { journal = session.journal ++ Checked f.file ∷ []; problems = session.problems ++ f.problems ∷ []; found = None }) state
    noted_checks_in_step = record { skipped = checks.skipped; ahead = ahead.0 ∙ sym (checked-push session.journal (Checked f.file)) }

    pub noted_findings : findings problems_of (session.journal ++ Checked f.file ∷ []) ≡ findings problems_of session.journal ++ (f.file, f.problems) ∷ []
    noted_findings = findings-push problems_of session.journal (Checked f.file) ∙ (λ j. findings problems_of session.journal ++ (f.file, sym ahead.1 j) ∷ [])

-- ---- loops of turns

pub same_found : {old now new : SessionState} → IsSameButFound old now → IsSameButFound now new → IsSameButFound old new
same_found {old} {now} {new} a b = record { same = b.same ∙ ap {A = SessionState} (λ s. record s { found = new.found }) a.same }

pub record Turning (answer_of : Sources → Call → Answer) (problems_of : Sources → Bytes → List Problem) (old : SessionState) (now : SessionState) (state : EngineState) : Type 0 where
  pub in_step : InStep answer_of problems_of now state
  pub checks : ChecksInStep problems_of now state
  pub same : IsSameButFound old now

pub same_journal : {old new : SessionState} → IsSameButFound old new → new.journal ≡ old.journal
same_journal {old} {new} s = ap {A = SessionState} (λ x. x.journal) s.same

pub same_closed : {old new : SessionState} → IsSameButFound old new → new.closed ≡ old.closed
same_closed {old} {new} s = ap {A = SessionState} (λ x. x.closed) s.same

pub same_outers : {old new : SessionState} → IsSameButFound old new → new.outers ≡ old.outers
same_outers {old} {new} s = ap {A = SessionState} (λ x. x.outers) s.same

pub same_tickets : {old new : SessionState} → IsSameButFound old new → new.tickets ≡ old.tickets
same_tickets {old} {new} s = ap {A = SessionState} (λ x. x.tickets) s.same
