-- A session from its lines to its output.
use Rattle.std.proofs.Common.{◌≡◌, inl, inr, ◌<◌, ◌≤◌, ℕ, zero, suc, Bool, true, false, List, [], ◌∷◌, length, map, get_or, Option, Some, None, refl, sym, ap, ◌∙◌, subst, append-nil, arith}
use Rattle.std.specs.List.{list_all}
use Rattle.std.proofs.lemmas.List.{length-append}
use Rattle.pc_terms.specs.Bytes.{Bytes}
use Rattle.pc_terms.specs.declared.problems.Problem.{Problem}
use Rattle.ask_history.specs.Sources.{Sources}
use Rattle.ask_history.specs.Engine.{EngineState, fresh_state}
use Rattle.ask_history.specs.Journal.{findings}
use Rattle.ask_history.specs.Schedule.{journal_of}
use Rattle.ask_history.specs.declared.calls.Call.{Call}
use Rattle.ask_history.specs.declared.answers.Answer.{Answer}
use Rattle.ask_history.specs.declared.events.Event.{Event}
use Rattle.ask_history.specs.declared.script.Order.{Order}
use Rattle.ask_history.specs.declared.script.Order.TheVariants as order
use Rattle.ask_history.specs.declared.script.Line.{Line}
use Rattle.script_text.proofs.WordLemmas.{left_of_both, right_of_both}
use Rattle.session_input.specs.Sources.{pairs_of, pairs_in, names_files}
use Rattle.schedule_player.specs.Owed.{CanPlay, CanPlayAll, PlayOwes, IsCutShort}
use Rattle.schedule_player.specs.declared.played.Played.{Played}
use Rattle.std.proofs.lemmas.Bool.{false≢true}
use Rattle.session_run.specs.Owed.{IsWhole, IsJournalOf}
use Rattle.session_run.specs.Run.{EndsSession, IsSessionEnding}
use Rattle.session_run.specs.Session.{SessionSeen, SessionOwes}
use Rattle.session_run.specs.Reading.{HasWriteFault}
use Rattle.session_run.specs.Shown.{shown_line}
use Rattle.session_run.proofs.ShownLemmas.{session-shown}
use Rattle.report_hub.specs.Telling.{Finding, ReporterState}
use Rattle.report_hub.specs.Told.{WasToldMost}
use Rattle.report_hub.proofs.Reports.{WasToldMost-none}
use Rattle.ask_history.specs.declared.events.Journal.{Journal}
use Rattle.session_run.specs.Printed.{session_of, transcript, GrewBy, Wrote}
use Rattle.session_run.specs.declared.ending.Ending.{Ending}
use Rattle.session_run.specs.declared.ending.Ending.TheVariants as ending

-- ---- the lines can be played

can_play : (o : Order) (n : ℕ) → (let line : Line = record { level = 0; check = 0; turn = 0; order = o } in names_files line) ≡ true → length (pairs_of o) ≤ n → n ≤ 4194304 → CanPlay o
can_play (order.Call call) n names few small = record { names = names; few = omega arith }
can_play (order.Cancel k) n names few small = tt
can_play order.Close n names few small = tt
can_play (order.Wait k) n names few small = tt
can_play order.Idle n names few small = tt

can_play_at : (lines : List Line) (k : ℕ) (d : Line) → k < length lines → list_all names_files lines ≡ true → length (pairs_in lines) ≤ 4194304 → CanPlay (get_or lines k d).order
can_play_at [] k d within names few = absurd (omega arith)
can_play_at (line ∷ lines) zero d within names few =
    can_play line.order (length (pairs_of line.order)) (left_of_both (names_files line) (list_all names_files lines) names) (omega arith)
    (omega (arith, length-append (pairs_of line.order) (pairs_in lines)))
can_play_at (line ∷ lines) (suc k) d within names few =
    can_play_at lines k d (omega arith) (right_of_both (names_files line) (list_all names_files lines) names)
    (omega (arith, length-append (pairs_of line.order) (pairs_in lines)))

pub can_play_all : (lines : List Line) → list_all names_files lines ≡ true → length (pairs_in lines) ≤ 4194304 → CanPlayAll lines
can_play_all lines names few = λ k d within. can_play_at lines k d within names few

-- ---- nothing was played

pub owes_nothing : (answer_of : Sources → Call → Answer) (problems_of : Sources → Bytes → List Problem) (lines : List Line) (state : EngineState) → state ≡ fresh_state
    → PlayOwes answer_of problems_of lines (record { journal = record { events = [] }; answers = []; problems = []; whole = false }) state
owes_nothing answer_of problems_of lines state fresh = record {
  whole = λ is. absurd (false≢true is);
  cut = λ is. record { without = []; front = []; others = journal_of [] lines; settlings = []; of_schedule = refl; ends = refl; only = refl };
  legal = refl;
  all_settled = refl;
  answered = refl;
  found = refl;
  engine = record { sources = ap (λ s. s.sources) fresh; asks = ap (λ s. s.asks) fresh; staged = ap (λ s. s.staged) fresh };
}

-- ---- a session that was played and written

session_ends : (whole : Bool) (ended : Ending) → EndsSession whole ended → IsSessionEnding ended
session_ends whole ending.Done ends = refl
session_ends whole ending.WriteFault ends = refl
session_ends whole ending.NoMemory ends = tt
session_ends whole ending.Usage ends = absurd ends
session_ends whole ending.SpawnFault ends = absurd ends
session_ends whole (ending.Refused why) ends = absurd ends

session_ran : (lines : List Line) (whole : Bool) (ended : Ending) (journal : List Event) → EndsSession whole ended → (whole ≡ true → IsWhole lines journal) → (whole ≡ false → IsCutShort lines journal)
    → IsJournalOf (Some lines) ended journal
session_ran lines whole ending.Done journal ends all cut = all ends
session_ran lines whole ending.WriteFault journal ends all cut = all ends
session_ran lines true ending.NoMemory journal ends all cut = inl (all refl)
session_ran lines false ending.NoMemory journal ends all cut = inr (cut refl)
session_ran lines whole ending.Usage journal ends all cut = absurd ends
session_ran lines whole ending.SpawnFault journal ends all cut = absurd ends
session_ran lines whole (ending.Refused why) journal ends all cut = absurd ends

-- nothing more is a prefix
pub grew_by_nothing : (more : Bytes) (before : Option Bytes) → GrewBy more before before
grew_by_nothing more None = refl
grew_by_nothing more (Some bytes) = (0, ap Some (sym (append-nil bytes)))

pub session_owed : (answer_of : Sources → Call → Answer) (problems_of : Sources → Bytes → List Problem) (lines shown : List Line) (played : Played) (seen : SessionSeen) (ended : Ending) (journal : Journal)
    → shown ≡ map shown_line lines → PlayOwes answer_of problems_of lines played seen.engine' → journal ≡ played.journal → EndsSession played.whole ended
    → Wrote (session_of shown played.journal.events played.answers played.problems) ended seen.out seen.out' → HasWriteFault ended seen.put_faults seen.put_faults'
    → WasToldMost (findings problems_of played.journal.events) seen.reporter seen.reporter' → SessionOwes answer_of problems_of lines seen ended journal.events
session_owed answer_of problems_of lines shown played seen ended journal same owes kept ends wrote counts told =
    let printed = ap (λ ls. session_of ls played.journal.events played.answers played.problems) same
    ∙ session-shown lines played.journal.events played.answers played.problems
    ∙ (λ i. session_of lines played.journal.events (owes.answered i) (owes.found i)) in
    let whole : SessionOwes answer_of problems_of lines seen ended played.journal.events = record {
      ends = session_ends played.whole ended ends;
      ran = session_ran lines played.whole ended played.journal.events ends owes.whole owes.cut;
      legal = owes.legal;
      settled = owes.all_settled;
      output = subst (λ (text : Bytes). Wrote text ended seen.out seen.out') printed wrote;
      writing = counts;
      reported = told;
      engine = owes.engine;
    } in
    subst (λ (j : Journal). SessionOwes answer_of problems_of lines seen ended j.events) (sym kept) whole

pub session_nothing : (answer_of : Sources → Call → Answer) (problems_of : Sources → Bytes → List Problem) (lines : List Line) (out : Option Bytes) (put_faults : ℕ) (state : EngineState) (reporter : ReporterState)
    → state ≡ fresh_state
    → SessionOwes answer_of problems_of lines (record { put_faults = put_faults; put_faults' = put_faults; out = out; out' = out; engine' = state; reporter = reporter; reporter' = reporter }) ending.NoMemory []
session_nothing answer_of problems_of lines out put_faults state reporter fresh = record {
  ends = tt;
  ran = inr (record { without = []; front = []; others = journal_of [] lines; settlings = []; of_schedule = refl; ends = refl; only = refl });
  legal = refl;
  settled = refl;
  output = grew_by_nothing (transcript answer_of problems_of lines []) out;
  writing = refl;
  reported = WasToldMost-none reporter;
  engine = record { sources = ap (λ s. s.sources) fresh; asks = ap (λ s. s.asks) fresh; staged = ap (λ s. s.staged) fresh };
}

-- of nothing that was found a reporter is told nothing
pub nothing_told : (found : List Finding) (state : ReporterState) → found ≡ [] → WasToldMost found state state
nothing_told found state none = subst (λ (f : List Finding). WasToldMost f state state) (sym none) (WasToldMost-none state)
