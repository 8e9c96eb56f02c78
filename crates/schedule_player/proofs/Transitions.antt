-- How the innermost line of checks comes to the check of the next line.
use Rattle.std.proofs.Common.{◌≡◌, ℕ, ◌<◌, ◌≤◌, ◌+◌, ◌==◌, Bool, true, false, List, [], ◌∷◌, refl, sym, ap, ◌∙◌, subst}
use Rattle.pc_terms.specs.declared.problems.Problem.{Problem}
use Rattle.ask_history.specs.Sources.{Bytes, Sources}
use Rattle.ask_history.specs.Engine.{EngineState}
use Rattle.ask_history.specs.Checks.{check_begins, check_done}
use Rattle.ask_history.specs.Journal.{all_settled}
use Rattle.ask_history.proofs.Underway.{Holds}
use Rattle.ask_history.specs.declared.calls.Call.{Call}
use Rattle.ask_history.specs.declared.answers.Answer.{Answer}
use Rattle.schedule_player.specs.Around.{HasMarks, ending, top_work, with_work, asks_of}
use Rattle.schedule_player.specs.Steps.{Reaches, IsSameButFound, IsSameButChecks, IsSameButTurns, IsSameLine, HasCome, IsOfChecks}
use Rattle.schedule_player.specs.SessionState.{SessionState}
use Rattle.schedule_player.specs.InStep.{InStep}
use Rattle.schedule_player.specs.declared.outers.Work.{Work}
use Rattle.schedule_player.specs.declared.outers.Work.TheVariants.{Ask, Checks, Check, Beside, Passed}
use Rattle.schedule_player.specs.declared.outers.Outer.{Outer}
use Rattle.ask_history.specs.Schedule.{Part}
use Rattle.ask_history.specs.declared.events.Event.{Event}
use Rattle.schedule_player.proofs.Same.{in_step_at}
use Rattle.schedule_player.proofs.Checking.{settled_alone, same_journal, same_outers, same_tickets}
use Rattle.schedule_player.proofs.CheckRuns.{FirstPart, done_marks, checks_over, checks_here, checks_next, check_left}
use Rattle.schedule_player.proofs.Arrivals.{IsCalm, reach_step, reach_then, reach_still, some_outers, alone_of, calm_in_step, top_with, of_checks, of_check}

pub still_found : (check : ℕ) (old new : SessionState) → IsSameButFound old new → Reaches check old new
still_found check old new same = reach_still check old new (same_outers same) (same_journal same) (same_tickets same)

module _ (check : ℕ) (old new : SessionState) (work : Work) (e : new ≡ record old { outers = with_work work old.outers }) (is : IsOfChecks (top_work old.outers)) where
  -- the journal stays
  pub rework_reaches : ((without : List ℕ) (parts : _) → FirstPart check parts → ending without (top_work old.outers) parts old.journal ≡ ending without work parts old.journal) → Reaches check old new
  rework_reaches same =
      let journal : new.journal ≡ old.journal = ap {A = SessionState} (λ s. s.journal) e in
      reach_step check old new work (ap {A = SessionState} (λ s. s.outers) e) (ap {A = SessionState} (λ s. s.tickets) e)
      (λ without h. subst (HasMarks without) journal h) (λ without parts first h. same without parts first ∙ ap (ending without work parts) (sym journal)) (some_outers old.outers is)

-- a check is done
module _ (check : ℕ) (old now new : SessionState) (work : Work) (checks : IsSameButChecks old now) (done : now.journal ≡ check_done old.journal)
    (e : new ≡ record now { outers = with_work work now.outers }) (is : IsOfChecks (top_work old.outers)) where
  pub done_reaches : ((without : List ℕ) (parts : _) → FirstPart check parts → ending without (top_work old.outers) parts old.journal ≡ ending without work parts (check_done old.journal)) → Reaches check old new
  done_reaches same =
      let journal : new.journal ≡ check_done old.journal = ap {A = SessionState} (λ s. s.journal) e ∙ done in
      reach_step check old new work (ap {A = SessionState} (λ s. s.outers) e ∙ ap (with_work work) checks.outers) (ap {A = SessionState} (λ s. s.tickets) e ∙ checks.tickets)
      (λ without h. done_marks old.journal without (subst (HasMarks without) journal h)) (λ without parts first h. same without parts first ∙ ap (ending without work parts) (sym journal)) (some_outers old.outers is)

module _ (check next : ℕ) (old now new : SessionState) (line : top_work old.outers ≡ Checks next) (same : IsSameButFound old now) where
  now_line : top_work now.outers ≡ Checks next
  now_line = ap top_work (same_outers same) ∙ line

  pub now_is : IsOfChecks (top_work now.outers)
  now_is = of_checks now.outers next now_line

  pub here : (new ≡ record now { outers = with_work (Check check 0) now.outers }) → check ≤ next → check_begins old.journal ≡ true → Reaches check old new
  here e below begins = reach_then check old now new (still_found check old now same)
      (rework_reaches check now new (Check check 0) e now_is
      (λ without parts first. ap (λ w. ending without w parts now.journal) now_line ∙ checks_here without check parts first now.journal next below (ap check_begins (same_journal same) ∙ begins)))

  pub none : (new ≡ record now { outers = with_work Beside now.outers }) → check_begins old.journal ≡ false → Reaches check old new
  none e begins = reach_then check old now new (still_found check old now same)
      (rework_reaches check now new Beside e now_is
      (λ without parts first. ap (λ w. ending without w parts now.journal) now_line ∙ checks_over without check parts first now.journal next (ap check_begins (same_journal same) ∙ begins)))

  pub another : (checked : SessionState) → IsSameButChecks now checked → checked.journal ≡ check_done now.journal → (new ≡ record checked { outers = with_work (Checks (next + 1)) checked.outers }) → next < check
      → check_begins old.journal ≡ true → Reaches check old new
  another checked checks done e below begins = reach_then check old now new (still_found check old now same)
      (done_reaches check now checked new (Checks (next + 1)) checks done e now_is
      (λ without parts first. ap (λ w. ending without w parts now.journal) now_line ∙ checks_next without check parts first now.journal next below (ap check_begins (same_journal same) ∙ begins)))

  pub no_memory : IsSameButChecks now new → new.journal ≡ now.journal → Reaches check old new
  no_memory checks journal = reach_then check old now new (still_found check old now same) (reach_still check now new checks.outers journal checks.tickets)

-- the check that has begun is left
pub left : (check number turns : ℕ) (old now new : SessionState) → top_work old.outers ≡ Check number turns → (number == check) ≡ false → IsSameButChecks old now → now.journal ≡ check_done old.journal
    → new ≡ record now { outers = with_work (Checks (number + 1)) now.outers } → Reaches check old new
left check number turns old now new line other checks done e =
    done_reaches check old now new (Checks (number + 1)) checks done e (of_check old.outers number turns line)
    (λ without parts first. ap (λ w. ending without w parts old.journal) line ∙ check_left without check parts first old.journal number turns other)

-- a session in step, where the innermost line is of checks and becomes another that is no ask
pub calm : {answer_of : Sources → Call → Answer} {problems_of : Sources → Bytes → List Problem} (session new : SessionState) {state : EngineState} (work : Work)
    → InStep answer_of problems_of session state → IsOfChecks (top_work session.outers) → IsCalm work → new ≡ record session { outers = with_work work session.outers } → InStep answer_of problems_of new state
calm {answer_of} {problems_of} session new {state} work step is quiet e = in_step_at e refl (calm_in_step answer_of problems_of session state work step is quiet)

pub new_line : (session new : SessionState) (work : Work) → IsOfChecks (top_work session.outers) → new ≡ record session { outers = with_work work session.outers } → top_work new.outers ≡ work
new_line session new work is e = ap {A = SessionState} (λ s. top_work s.outers) e ∙ top_with work session.outers (some_outers session.outers is)

pub alone_in : {answer_of : Sources → Call → Answer} {problems_of : Sources → Bytes → List Problem} (session : SessionState) {state : EngineState} → InStep answer_of problems_of session state → IsOfChecks (top_work session.outers) → asks_of session.outers ≡ []
alone_in session step is = alone_of session.outers is step.stacked

-- a turn more or less of the innermost line changes nothing for the lines
same_line_ending : (without : List ℕ) (old new : Work) (parts : List Part) (journal : List Event) → IsSameLine old new → ending without old parts journal ≡ ending without new parts journal
same_line_ending without (Ask ticket is_fed turns) new parts journal same = sym (ap (λ w. ending without w parts journal) same.1)
same_line_ending without (Check number turns) new parts journal same = sym (ap (λ w. ending without w parts journal) same.1)
same_line_ending without (Checks next) new parts journal same = sym (ap (λ w. ending without w parts journal) same)
same_line_ending without Beside new parts journal same = sym (ap (λ w. ending without w parts journal) same)
same_line_ending without Passed new parts journal same = sym (ap (λ w. ending without w parts journal) same)

pub turns_reach : (check : ℕ) (old new : SessionState) → IsSameButTurns old new → Reaches check old new
turns_reach check old new same = by old.outers refl
  where
    by : (fs : List Outer) → old.outers ≡ fs → Reaches check old new
    by [] e = reach_still check old new (same.outers ∙ ap (with_work same.work) e ∙ sym e) same.journal same.tickets
    by (outer ∷ fs) e = reach_step check old new same.work same.outers same.tickets (λ without h. subst (HasMarks without) same.journal h)
        (λ without parts first h. same_line_ending without (top_work old.outers) same.work parts old.journal same.line ∙ ap (ending without same.work parts) (sym same.journal))
        (λ none. cons_not (sym e ∙ none))
      where
        cons_not : outer ∷ fs ≡ [] → ⊥
        cons_not h = cc

same_line_come : (old new : Work) (check : ℕ) → IsSameLine old new → HasCome old check → HasCome new check
same_line_come (Ask ticket is_fed turns) new check same come = subst (λ w. HasCome w check) (sym same.1) come
same_line_come (Check number turns) new check same come = subst (λ w. HasCome w check) (sym same.1) come
same_line_come (Checks next) new check same come = subst (λ w. HasCome w check) (sym same) come
same_line_come Beside new check same come = subst (λ w. HasCome w check) (sym same) come
same_line_come Passed new check same come = subst (λ w. HasCome w check) (sym same) come

pub turns_come : (check : ℕ) (old new : SessionState) → IsSameButTurns old new → HasCome (top_work old.outers) check → HasCome (top_work new.outers) check
turns_come check old new same come = by old.outers refl
  where
    by : (fs : List Outer) → old.outers ≡ fs → HasCome (top_work new.outers) check
    by [] e = subst (λ ws. HasCome (top_work ws) check) (e ∙ sym (same.outers ∙ ap (with_work same.work) e)) come
    by (outer ∷ fs) e = subst (λ w. HasCome w check) (sym (ap top_work (same.outers ∙ ap (with_work same.work) e))) (same_line_come (top_work old.outers) same.work check same.line come)

pub settled_in : {answer_of : Sources → Call → Answer} {problems_of : Sources → Bytes → List Problem} (session : SessionState) {state : EngineState} → InStep answer_of problems_of session state → IsOfChecks (top_work session.outers) → all_settled session.journal ≡ true
settled_in session step is = settled_alone session.journal (subst (λ ts. Holds ts session.journal) (alone_of session.outers is step.stacked) step.holds)
