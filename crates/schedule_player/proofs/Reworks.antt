-- Something else becomes of the lines under the innermost one.
use Rattle.std.proofs.Common.{◌≡◌, ℕ, Bool, true, false, ◌||◌, if◌then◌else◌, List, [], ◌∷◌, refl, sym, ap, ◌∙◌, subst}
use Rattle.pc_terms.specs.declared.problems.Problem.{Problem}
use Rattle.ask_history.specs.Sources.{Bytes, Sources}
use Rattle.ask_history.specs.Engine.{EngineState}
use Rattle.ask_history.specs.declared.calls.Call.{Call}
use Rattle.ask_history.specs.declared.answers.Answer.{Answer}
use Rattle.ask_history.proofs.Underway.{Holds}
use Rattle.schedule_player.specs.Around.{asks_of, ask_onto, fed_of, fed_after, around, top_work, top_under_ask, is_ask, with_work, StandsOn, AreStacked}
use Rattle.schedule_player.specs.Steps.{IsSameLine}
use Rattle.schedule_player.specs.SessionState.{SessionState}
use Rattle.schedule_player.specs.InStep.{InStep, ChecksInStep}
use Rattle.schedule_player.specs.declared.outers.Work.{Work}
use Rattle.schedule_player.specs.declared.outers.Work.TheVariants.{Ask, Checks, Check, Beside, Passed}
use Rattle.schedule_player.specs.declared.outers.Outer.{Outer}

-- one line is as much an ask as another
pub record Replaces (old new : Work) (asks : List ℕ) : Type 0 where
  pub onto : ask_onto new asks ≡ ask_onto old asks
  pub fed : (tickets : List ℕ) → fed_after new tickets ≡ fed_after old tickets
  pub stands : StandsOn new asks
  pub is : is_ask new ≡ is_ask old

pub same_line : (old new : Work) (asks : List ℕ) → IsSameLine old new → StandsOn old asks → Replaces old new asks
same_line (Ask ticket is_fed turns) new asks same stands = subst (λ w. Replaces (Ask ticket is_fed turns) w asks) (sym same.1)
    (record { onto = refl; fed = λ tickets. refl; stands = stands; is = refl })
same_line (Check number turns) new asks same stands = subst (λ w. Replaces (Check number turns) w asks) (sym same.1)
    (record { onto = refl; fed = λ tickets. refl; stands = stands; is = refl })
same_line (Checks next) new asks same stands = subst (λ w. Replaces (Checks next) w asks) (sym same)
    (record { onto = refl; fed = λ tickets. refl; stands = stands; is = refl })
same_line Beside new asks same stands = subst (λ w. Replaces Beside w asks) (sym same)
    (record { onto = refl; fed = λ tickets. refl; stands = stands; is = refl })
same_line Passed new asks same stands = subst (λ w. Replaces Passed w asks) (sym same)
    (record { onto = refl; fed = λ tickets. refl; stands = stands; is = refl })

top_stands : (outers : List Outer) → AreStacked outers → StandsOn (top_work outers) (asks_of (around outers))
top_stands [] stacked = tt
top_stands (outer ∷ outers) stacked = stacked.0

or_twice : (x a : Bool) → ((x || a) || a) ≡ (x || a)
or_twice true a = refl
or_twice false true = refl
or_twice false false = refl

module _ (outers : List Outer) (new : Work) (replaces : Replaces (top_work outers) new (asks_of (around outers))) where
  pub rework_asks : asks_of (with_work new outers) ≡ asks_of outers
  rework_asks = by outers replaces
    where
      by : (fs : List Outer) → Replaces (top_work fs) new (asks_of (around fs)) → asks_of (with_work new fs) ≡ asks_of fs
      by [] r = refl
      by (outer ∷ fs) r = r.onto

  pub rework_fed : fed_of (with_work new outers) ≡ fed_of outers
  rework_fed = by outers replaces
    where
      by : (fs : List Outer) → Replaces (top_work fs) new (asks_of (around fs)) → fed_of (with_work new fs) ≡ fed_of fs
      by [] r = refl
      by (outer ∷ fs) r = r.fed (fed_of fs)

  pub rework_stacked : AreStacked outers → AreStacked (with_work new outers)
  rework_stacked = by outers replaces
    where
      by : (fs : List Outer) → Replaces (top_work fs) new (asks_of (around fs)) → AreStacked fs → AreStacked (with_work new fs)
      by [] r stacked = stacked
      by (outer ∷ fs) r stacked = (
        r.stands,
        (λ j. stacked.1 j || r.is j) ∙ or_twice (top_under_ask fs) (is_ask outer.work) ∙ ap (λ b. top_under_ask fs || b) (sym r.is),
        stacked.2,
      )

module _ (answer_of : Sources → Call → Answer) (problems_of : Sources → Bytes → List Problem) (session : SessionState) (state : EngineState) (new : Work) where
  abbrev pub reworked : SessionState
  reworked = record session { outers = with_work new session.outers }

  pub rework_in_step : InStep answer_of problems_of session state → Replaces (top_work session.outers) new (asks_of (around session.outers)) → InStep answer_of problems_of reworked state
  rework_in_step step replaces = record {
    holds = subst (λ ts. Holds ts session.journal) (sym (rework_asks session.outers new replaces)) step.holds;
    stacked = rework_stacked session.outers new replaces step.stacked;
    closed = step.closed;
    noted = let n = step.noted in record { numbered = n.numbered; counted = n.counted; answers = n.answers; problems = n.problems };
    served = let s = step.served in record {
      fed = s.fed ∙ ap (λ ts. if session.closed then [] else ts) (sym (rework_fed session.outers new replaces));
      asked = s.asked;
      staged = s.staged;
      sources = s.sources;
    };
  }

  pub turned_in_step : InStep answer_of problems_of session state → IsSameLine (top_work session.outers) new → InStep answer_of problems_of reworked state
  turned_in_step step same = rework_in_step step (same_line (top_work session.outers) new (asks_of (around session.outers)) same (top_stands session.outers step.stacked))

  pub rework_checks : ChecksInStep problems_of session state → ChecksInStep problems_of reworked state
  rework_checks checks = record { skipped = checks.skipped; ahead = checks.ahead }
