-- What a core does, as a session sees it.
use Rattle.std.proofs.Common.{◌≡◌, ℕ, ◌==◌, Bool, true, false, cond, not, ◌||◌, List, [], ◌∷◌, ◌++◌, filter, Option, Some, None, sym, ap, ◌∙◌, append-nil}
use Rattle.std.specs.List.{IsDistinct}
use Rattle.std.specs.Str.{bytes_eq}
use Rattle.ask_history.specs.Sources.{Bytes, mutated, some_of}
use Rattle.ask_history.specs.Engine.{EngineState, TurnGives, is_staged, mutation_settled, ask_settled, settled_state, files_due}
use Rattle.ask_history.specs.declared.calls.Call.{Call}
use Rattle.ask_history.specs.declared.engine.Effect.{Effect}
use Rattle.ask_history.specs.declared.engine.Effect.TheVariants.{Applies}
use Rattle.ask_history.specs.declared.engine.Turn.{Turn}
use Rattle.ask_history.specs.declared.engine.Turn.TheVariants as turn
use Rattle.compiler_loop.specs.declared.checks.Outcome.{Outcome}
use Rattle.compiler_loop.specs.declared.checks.Outcome.TheVariants.{Checked, Skipped}
use Rattle.compiler_loop.specs.declared.loaded.LoadedFiles.{LoadedFiles}
use Rattle.compiler_loop.specs.Loaded.{files_with, is_checked, is_skipped}
use Rattle.compiler_loop.specs.LoadedView.{files_of, names_of, due_of, outcomes_of, checked_of, skipped_of}
use Rattle.compiler_loop.specs.ThinAnswer.{thin_answer}
use Rattle.compiler_loop.specs.ThinProblems.{thin_problems}
use Rattle.compiler_loop.specs.Turns.{ChecksFirst, Takes}
use Rattle.compiler_loop.proofs.CheckLemmas.{files_due_ahead, files_with_more}

-- ---- settling

pub settled_ask : (old : EngineState) (ticket : ℕ) (effect : Effect) (asks : List (ℕ × Call)) → is_staged old.staged ticket ≡ false
    → asks ≡ filter (λ ask. not (ask.0 == ticket)) old.asks → record old { asks = asks } ≡ settled_state old ticket effect
settled_ask old ticket effect asks none is =
    ap (λ (left : List (ℕ × Call)). record old { asks = left }) is
    ∙ sym (ap (λ b. cond b (mutation_settled old effect old.staged) (ask_settled old ticket)) none)

pub settled_applies : (old new : EngineState) (ticket : ℕ) (effect : Effect) (mutation : ℕ × Call) → is_staged old.staged ticket ≡ true → old.staged ≡ Some mutation
    → effect ≡ Applies → new.sources ≡ mutated old.sources mutation.1 → new.asks ≡ old.asks → new.staged ≡ None → new.checked ≡ [] → new.skipped ≡ []
    → new ≡ settled_state old ticket effect
settled_applies old new ticket effect mutation staged is applies sources asks none checked skipped =
    (λ i. record { sources = sources i; asks = asks i; staged = none i; checked = checked i; skipped = skipped i })
    ∙ sym (ap (λ (m : Option (ℕ × Call)). mutation_settled old Applies m) is)
    ∙ sym (ap (λ (e : Effect). mutation_settled old e old.staged) applies)
    ∙ sym (ap (λ b. cond b (mutation_settled old effect old.staged) (ask_settled old ticket)) staged)

-- ---- checking

abbrev state_with : LoadedFiles → List (ℕ × Call) → Option (ℕ × Call) → EngineState
state_with loaded asks staged = record { sources = files_of loaded; asks = asks; staged = staged; checked = checked_of loaded; skipped = skipped_of loaded }

due_seen : (loaded : LoadedFiles) (asks : List (ℕ × Call)) (staged : Option (ℕ × Call)) → IsDistinct bytes_eq (names_of loaded)
    → files_due (state_with loaded asks staged) ≡ due_of loaded
due_seen loaded asks staged distinct = files_due_ahead (due_of loaded) (outcomes_of loaded) loaded.files.entries distinct loaded.ahead

-- the files with one outcome, after one more
taken_with : (is_kind : Outcome → Bool) (old new : LoadedFiles) (file : Bytes) (outcome : Outcome) → Takes old file outcome new
    → files_with is_kind (outcomes_of new) (names_of new) ≡ files_with is_kind (outcomes_of old) (names_of old) ++ cond (is_kind outcome) (file ∷ []) []
taken_with is_kind old new file outcome takes =
    (λ i. files_with is_kind (takes.outcomes i) (takes.names i))
    ∙ files_with_more is_kind (outcomes_of old) outcome (names_of old) (due_of new) file (sym old.ahead.rest ∙ takes.due)

pub checks_give : (old new : LoadedFiles) (asks : List (ℕ × Call)) (staged : Option (ℕ × Call)) (result : Turn) → asks ≡ [] → IsDistinct bytes_eq (names_of old)
    → ChecksFirst old result new → files_of new ≡ files_of old → TurnGives thin_answer thin_problems (state_with old asks staged) result (state_with new asks staged)
checks_give old new asks staged (turn.Checked file problems) none distinct checks files = (
  (none, due_of new, due_seen old asks staged distinct ∙ checks.0.due),
  checks.1,
  λ i. record {
    sources = files i;
    asks = asks;
    staged = staged;
    checked = taken_with is_checked old new file Checked checks.0 i;
    skipped = (taken_with is_skipped old new file Checked checks.0 ∙ append-nil (skipped_of old)) i;
  },
)
checks_give old new asks staged (turn.CheckNoMemory file) none distinct checks files = (
  (none, due_of new, due_seen old asks staged distinct ∙ checks.due),
  λ i. record {
    sources = files i;
    asks = asks;
    staged = staged;
    checked = (taken_with is_checked old new file Skipped checks ∙ append-nil (checked_of old)) i;
    skipped = taken_with is_skipped old new file Skipped checks i;
  },
)
checks_give old new asks staged turn.Idle none distinct checks files = (
  λ i. not (some_of (none i) || some_of ((due_seen old asks staged distinct ∙ checks.0) i)),
  λ i. record {
    sources = files i;
    asks = asks;
    staged = staged;
    checked = files_with is_checked (checks.1 i) (checks.2 i);
    skipped = files_with is_skipped (checks.1 i) (checks.2 i);
  },
)
checks_give old new asks staged turn.Safe none distinct checks files = absurd checks
checks_give old new asks staged (turn.Ready ticket found) none distinct checks files = absurd checks
checks_give old new asks staged (turn.NoMemory ticket) none distinct checks files = absurd checks
