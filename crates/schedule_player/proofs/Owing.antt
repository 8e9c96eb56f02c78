-- What playing owes is met.
use Rattle.std.proofs.Common.{◌≡◌, ℕ, zero, suc, slice_index_or, Bool, true, false, List, [], ◌∷◌, ◌++◌, map, Option, None, Result, Ok, Err, is_ok, IsTrue, refl, sym, ap, ◌∙◌, subst, true≢false}
use Rattle.std.specs.Result.{OnOk}
use Rattle.pc_terms.specs.declared.problems.Problem.{Problem}
use Rattle.ask_history.specs.Sources.{Bytes, Sources}
use Rattle.ask_history.specs.Journal.{out_of_memory, findings, all_settled, replies, after}
use Rattle.ask_history.specs.Legal.{is_legal}
use Rattle.ask_history.specs.Engine.{EngineState, fresh_state}
use Rattle.ask_history.specs.Schedule.{journal_of}
use Rattle.ask_history.specs.Nested.{End}
use Rattle.ask_history.specs.declared.calls.Call.{Call}
use Rattle.ask_history.specs.declared.answers.Answer.{Answer}
use Rattle.ask_history.specs.declared.script.Line.{Line}
use Rattle.ask_history.proofs.Underway.{Holds, holds-none}
use Rattle.schedule_player.specs.Owed.{PlayOwes, IsCutShort, IsAtRest}
use Rattle.schedule_player.specs.Around.{asks_of, fed_of, LeadsTo, resume}
use Rattle.schedule_player.specs.Steps.{OnlySettles, IsPlayed, IsUnderway}
use Rattle.schedule_player.specs.SessionState.{SessionState, fresh_session}
use Rattle.schedule_player.specs.InStep.{IsAsked, IsNoted, IsServed, InStep, ChecksInStep}
use Rattle.schedule_player.specs.declared.played.Played.{Played}
use Rattle.schedule_player.proofs.Checking.{settled_alone, no_map, if_none}
use Rattle.schedule_player.proofs.Marks.{own_marks}
use Rattle.schedule_player.proofs.Growing.{grows-resume}
use Rattle.schedule_player.proofs.Replies.{answers_are_replies}
use Rattle.std.proofs.lemmas.List.Elements.{All-nil}

pub on_ok : {V E : Type 0} (r : Result V E) (P : Type 0) → OnOk r P → is_ok r ≡ true → P
on_ok (Ok v) P h e = h
on_ok (Err x) P h e = absurd (true≢false (sym e))

module _ (answer_of : Sources → Call → Answer) (problems_of : Sources → Bytes → List Problem) (lines : List Line) where
  pub owes_nothing : (played : Played) (state : EngineState) → played ≡ record { journal = record { events = [] }; answers = []; problems = []; whole = false } → state ≡ fresh_state → PlayOwes answer_of problems_of lines played state
  owes_nothing played state e f =
      subst (λ p. PlayOwes answer_of problems_of lines p state) (sym e)
      (subst (PlayOwes answer_of problems_of lines (record { journal = record { events = [] }; answers = []; problems = []; whole = false })) (sym f) (record {
        whole = λ h. absurd (true≢false (sym h));
        cut = λ h. record { without = []; front = []; others = journal_of [] lines; settlings = []; of_schedule = refl; ends = refl; only = refl };
        legal = refl;
        all_settled = refl;
        answered = refl;
        found = refl;
        engine = record { sources = refl; asks = refl; staged = refl };
      }))

  pub fresh_in_step : (session : SessionState) (state : EngineState) → session ≡ fresh_session → state ≡ fresh_state → InStep answer_of problems_of session state
  fresh_in_step session state e f =
      subst (λ s. InStep answer_of problems_of s state) (sym e) (subst (InStep answer_of problems_of fresh_session) (sym f) (record {
        holds = holds-none;
        stacked = tt;
        closed = refl;
        noted = record { numbered = numbered; counted = refl; answers = λ t. refl; problems = refl };
        served = record { fed = refl; asked = All-nil (IsAsked []); staged = refl; sources = refl };
      }))
    where
      numbered : (k : ℕ) → slice_index_or {A = Option ℕ} (None ∷ []) k None ≡ None
      numbered zero = refl
      numbered (suc k) = refl

  pub fresh_checks : (session : SessionState) (state : EngineState) → session ≡ fresh_session → state ≡ fresh_state → ChecksInStep problems_of session state
  fresh_checks session state e f =
      subst (λ s. ChecksInStep problems_of s state) (sym e) (subst (ChecksInStep problems_of fresh_session) (sym f) (record { skipped = refl; ahead = refl }))

  pub owes_played : (played : Played) (before now : SessionState) (started state : EngineState) → InStep answer_of problems_of before started → IsUnderway lines before → (played.whole ≡ true → IsPlayed lines before)
      → InStep answer_of problems_of now state → now.outers ≡ [] → OnlySettles before.journal now.journal → (before.outers ≡ [] → now ≡ before)
      → played.journal.events ≡ now.journal → played.answers ≡ now.answers → played.problems ≡ now.problems → PlayOwes answer_of problems_of lines played state
  owes_played played before now started state first underway whole last none settles same events answers problems = record {
    whole = λ h.
        let is = whole h in
        let nothing : now.journal ≡ before.journal = ap {A = SessionState} (λ s. s.journal) (same is.none) in
        let all : before.journal ≡ journal_of (out_of_memory before.journal) lines =
        sym (ap (λ ws. resume (out_of_memory before.journal) ws End before.journal) is.none) ∙ is.leads.leads (out_of_memory before.journal) (own_marks before.journal first.holds.legal) in
        subst (λ js. js ≡ journal_of (out_of_memory js) lines) (sym (events ∙ nothing)) all;
    cut = λ h.
        let without : List ℕ = out_of_memory before.journal in
        let more = grows-resume without before.outers underway.rest before.journal in
        record {
          without = without;
          front = before.journal;
          others = more.more;
          settlings = settles.settlings;
          of_schedule = sym (underway.leads.leads without (own_marks before.journal first.holds.legal)) ∙ more.is;
          ends = events ∙ settles.more;
          only = settles.only;
        };
    legal = subst (λ js. IsTrue (is_legal js)) (sym events) last.holds.legal;
    all_settled = subst (λ js. all_settled js ≡ true) (sym events) settled;
    answered = answers ∙ subst (λ js. now.answers ≡ replies answer_of js) (sym events)
        (answers_are_replies answer_of now.journal now.answers last.holds.legal settled last.noted.counted last.noted.answers);
    found = problems ∙ last.noted.problems ∙ sym (ap (λ js. map (λ finding. finding.1) (findings problems_of js)) events);
    engine = record {
      sources = last.served.sources ∙ sym (ap after events);
      asks = no_map (λ ask. ask.0) state.asks (last.served.fed ∙ if_none now.closed (fed_of now.outers) (ap fed_of none));
      staged = last.served.staged;
    };
  }
    where
      settled : all_settled now.journal ≡ true
      settled = settled_alone now.journal (subst (λ fs. Holds (asks_of fs) now.journal) none last.holds)
