-- The innermost line comes to where the next one is played.
use Rattle.std.proofs.Common.{◌≡◌, ℕ, ◌<◌, ◌+◌, Bool, true, false, ◌||◌, if◌then◌else◌, nat_lt, ◌==◌, List, [], ◌∷◌, length, refl, sym, ap, ◌∙◌, subst, arith}
use Rattle.std.proofs.lemmas.Bool.Decides.{nat_tests}
use Rattle.pc_terms.specs.declared.problems.Problem.{Problem}
use Rattle.ask_history.specs.Sources.{Bytes, Sources}
use Rattle.ask_history.specs.Engine.{EngineState}
use Rattle.ask_history.specs.declared.calls.Call.{Call}
use Rattle.ask_history.specs.declared.answers.Answer.{Answer}
use Rattle.schedule_player.specs.InStep.{InStep}
use Rattle.schedule_player.proofs.Reworks.{Replaces, rework_in_step}
use Rattle.ask_history.specs.Nested.{Nested, End, Then, deeper, others}
use Rattle.ask_history.specs.Schedule.{Part, parts_of, journal_of}
use Rattle.ask_history.specs.declared.script.Line.{Line}
use Rattle.ask_history.specs.Schedule.{play_line}
use Rattle.schedule_player.specs.Around.{HasMarks, LeadsTo, resume, ending, top_work, with_work, is_ask, asks_of, ask_onto, around, StandsOn, AreStacked}
use Rattle.schedule_player.specs.Steps.{IsUnder, Waits, Reaches, IsOfChecks, IsSameLine}
use Rattle.schedule_player.specs.SessionState.{SessionState}
use Rattle.schedule_player.specs.declared.outers.Work.{Work}
use Rattle.schedule_player.specs.declared.outers.Work.TheVariants.{Ask, Checks, Check, Beside, Passed}
use Rattle.schedule_player.specs.declared.outers.Outer.{Outer}
use Rattle.schedule_player.proofs.CheckRuns.{FirstPart, before_first}

less_true : (m n : ℕ) → m < n → nat_lt m n ≡ true
less_true m n h = grind (arith, nat_tests)

under_with : (work : Work) (outers : List Outer) (level : ℕ) → IsUnder outers level → IsUnder (with_work work outers) level
under_with work [] level h = h
under_with work (outer ∷ outers) level h = h

-- one way to say what is left of a line before others
pub resume_under : (without : List ℕ) (outer : Outer) (outers : List Outer) (number : ℕ) (line : Line) (inner rest : Nested) (journal : _) → outer.level < line.level
    → resume without (outer ∷ outers) (Then number line inner rest) journal
    ≡ resume without outers (others outer.level rest) (ending without outer.work (parts_of without (Then number line inner (deeper outer.level rest))) journal)
resume_under without outer outers number line inner rest journal h =
    λ j. resume without outers (if less_true outer.level line.level h j then others outer.level rest else Then number line inner rest)
    (ending without outer.work (parts_of without (if less_true outer.level line.level h j then Then number line inner (deeper outer.level rest) else End)) journal)

module _ (check : ℕ) (old new : SessionState) (work : Work) (outers : new.outers ≡ with_work work old.outers) (tickets : new.tickets ≡ old.tickets)
    (marks : (without : List ℕ) → HasMarks without new.journal → HasMarks without old.journal)
    (same : (without : List ℕ) (parts : List Part) → FirstPart check parts → HasMarks without new.journal → ending without (top_work old.outers) parts old.journal ≡ ending without work parts new.journal) where
  waits_by : (fs : List Outer) → old.outers ≡ fs → (fs ≡ [] → ⊥) → (level : ℕ) → IsUnder fs level → Waits level check old new
  waits_by [] e some level under = absurd (some refl)
  waits_by (outer ∷ fs) e some level under = record {
    leads = λ lines number line inner rest at of_check leads. record {
      leads = λ without h.
          let below : outer.level < line.level = subst (λ n. outer.level < n) (sym at) under in
          let parts : List Part = parts_of without (Then number line inner (deeper outer.level rest)) in
          let first : FirstPart check parts = subst (λ c. FirstPart c (parts_of without (Then number line inner (deeper outer.level rest)))) of_check (before_first line.check (play_line without number line.order (parts_of without inner)) (parts_of without (deeper outer.level rest))) in
          let now : new.outers ≡ with_work work (outer ∷ fs) = outers ∙ ap (with_work work) e in
          ap (λ ws. resume without ws (Then number line inner rest) new.journal) now
          ∙ resume_under without (record outer { under_ask = outer.under_ask || is_ask work; work = work }) fs number line inner rest new.journal below
          ∙ ap (resume without fs (others outer.level rest)) (sym (same without parts first h) ∙ ap (λ ws. ending without (top_work ws) parts old.journal) e)
          ∙ sym (resume_under without outer fs number line inner rest old.journal below)
          ∙ ap (λ ws. resume without ws (Then number line inner rest) old.journal) (sym e)
          ∙ leads.leads without (marks without h);
    };
  }

  pub reach_step : (old.outers ≡ [] → ⊥) → Reaches check old new
  reach_step some = record {
    under = λ level h. subst (λ ws. IsUnder ws level) (sym outers) (under_with work old.outers level h);
    waits = λ level under. waits_by old.outers refl some level under;
    tickets = tickets;
  }

pub reach_then : (check : ℕ) (old now new : SessionState) → Reaches check old now → Reaches check now new → Reaches check old new
reach_then check old now new a b = record {
  under = λ level h. b.under level (a.under level h);
  waits = λ level h. record { leads = λ lines number line inner rest at of_check k. (b.waits level (a.under level h)).leads lines number line inner rest at of_check ((a.waits level h).leads lines number line inner rest at of_check k) };
  tickets = b.tickets ∙ a.tickets;
}

-- what is seen by the lines is the same
pub reach_still : (check : ℕ) (old new : SessionState) → new.outers ≡ old.outers → new.journal ≡ old.journal → new.tickets ≡ old.tickets → Reaches check old new
reach_still check old new outers journal tickets = record {
  under = λ level h. subst (λ ws. IsUnder ws level) (sym outers) h;
  waits = λ level h. record {
    leads = λ lines number line inner rest at of_check k.
        subst (λ js. LeadsTo lines new.outers (Then number line inner rest) js) (sym journal) (subst (λ ws. LeadsTo lines ws (Then number line inner rest) old.journal) (sym outers) k);
  };
  tickets = tickets;
}

pub some_outers : (outers : List Outer) → IsOfChecks (top_work outers) → outers ≡ [] → ⊥
some_outers [] is h = is
some_outers (outer ∷ outers) is h = cc

-- checks stand under no ask
pub alone_of : (outers : List Outer) → IsOfChecks (top_work outers) → AreStacked outers → asks_of outers ≡ []
alone_of [] is stacked = refl
alone_of (outer ∷ outers) is stacked = by outer.work is stacked.0
  where
    by : (w : Work) → IsOfChecks w → StandsOn w (asks_of outers) → ask_onto w (asks_of outers) ≡ []
    by (Checks next) k stands = stands
    by (Check number turns) k stands = stands
    by (Ask ticket is_fed turns) k stands = absurd k
    by Beside k stands = absurd k
    by Passed k stands = absurd k

pub stands_of : (outers : List Outer) → IsOfChecks (top_work outers) → AreStacked outers → asks_of (around outers) ≡ []
stands_of [] is stacked = refl
stands_of (outer ∷ outers) is stacked = by outer.work is stacked.0
  where
    by : (w : Work) → IsOfChecks w → StandsOn w (asks_of outers) → asks_of outers ≡ []
    by (Checks next) k stands = stands
    by (Check number turns) k stands = stands
    by (Ask ticket is_fed turns) k stands = absurd k
    by Beside k stands = absurd k
    by Passed k stands = absurd k

-- ---- the innermost line of checks changes

abbrev pub IsCalm : Work → Type 0
IsCalm (Ask ticket is_fed turns) = ⊥
IsCalm _ = Unit {0}

replaces_calm : (old new : Work) (asks : List ℕ) → IsOfChecks old → IsCalm new → asks ≡ [] → Replaces old new asks
replaces_calm (Ask ticket is_fed turns) new asks is calm none = absurd is
replaces_calm Beside new asks is calm none = absurd is
replaces_calm Passed new asks is calm none = absurd is
replaces_calm (Checks next) (Ask t f n) asks is calm none = absurd calm
replaces_calm (Checks next) (Checks n) asks is calm none = record { onto = refl; fed = λ ts. refl; stands = none; is = refl }
replaces_calm (Checks next) (Check n t) asks is calm none = record { onto = refl; fed = λ ts. refl; stands = none; is = refl }
replaces_calm (Checks next) Beside asks is calm none = record { onto = refl; fed = λ ts. refl; stands = tt; is = refl }
replaces_calm (Checks next) Passed asks is calm none = record { onto = refl; fed = λ ts. refl; stands = tt; is = refl }
replaces_calm (Check number turns) (Ask t f n) asks is calm none = absurd calm
replaces_calm (Check number turns) (Checks n) asks is calm none = record { onto = refl; fed = λ ts. refl; stands = none; is = refl }
replaces_calm (Check number turns) (Check n t) asks is calm none = record { onto = refl; fed = λ ts. refl; stands = none; is = refl }
replaces_calm (Check number turns) Beside asks is calm none = record { onto = refl; fed = λ ts. refl; stands = tt; is = refl }
replaces_calm (Check number turns) Passed asks is calm none = record { onto = refl; fed = λ ts. refl; stands = tt; is = refl }

pub calm_in_step : (answer_of : Sources → Call → Answer) (problems_of : Sources → Bytes → List Problem) (session : SessionState) (state : EngineState) (work : Work)
    → InStep answer_of problems_of session state → IsOfChecks (top_work session.outers) → IsCalm work → InStep answer_of problems_of (record session { outers = with_work work session.outers }) state
calm_in_step answer_of problems_of session state work step is calm =
    rework_in_step answer_of problems_of session state work step (replaces_calm (top_work session.outers) work (asks_of (around session.outers)) is calm (stands_of session.outers is step.stacked))

pub top_with : (work : Work) (outers : List Outer) → (outers ≡ [] → ⊥) → top_work (with_work work outers) ≡ work
top_with work [] some = absurd (some refl)
top_with work (outer ∷ outers) some = refl

pub of_checks : (outers : List Outer) (next : ℕ) → top_work outers ≡ Checks next → IsOfChecks (top_work outers)
of_checks outers next e = subst IsOfChecks (sym e) tt

pub of_check : (outers : List Outer) (number turns : ℕ) → top_work outers ≡ Check number turns → IsOfChecks (top_work outers)
of_check outers number turns e = subst IsOfChecks (sym e) tt
