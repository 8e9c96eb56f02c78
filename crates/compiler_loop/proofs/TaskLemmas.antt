-- The tasks of the open asks.
use Rattle.std.proofs.Common.{◌≡◌, ◌≢◌, ℕ, ◌<◌, ◌==◌, ◌&&◌, ◌||◌, Bool, true, false, cond, not, List, [], ◌∷◌, ◌++◌, length, filter, Some, None, is_some, refl, sym, ap, ◌∙◌, arith}
use Rattle.std.specs.Option.{option_map}
use Rattle.std.proofs.Math.Bool.{or-false}
use Rattle.std.proofs.lemmas.Bool.{eq-eqb, true≢false}
use Rattle.safe_points.specs.declared.ticketed.Ticketed.{Ticketed}
use Rattle.safe_points.specs.Stack.{ticket_of, has_ticket, has_stale, is_on, top_of, refreshed, removed, all_stale, with_top_task}
use Rattle.ask_history.specs.Engine.{IsOnTop, is_open_in}
use Rattle.compiler_loop.specs.CoreParts.{asks_of}
use Rattle.compiler_loop.specs.declared.tasks.Task.{Task}

pub asks_of_push : (tasks : List (Ticketed Task)) (ticketed : Ticketed Task) → asks_of (tasks ++ ticketed ∷ []) ≡ asks_of tasks ++ (ticketed.ticket, ticketed.task.call) ∷ []
asks_of_push [] ticketed = refl
asks_of_push (below ∷ tasks) ticketed = ap (λ asks. (below.ticket, below.task.call) ∷ asks) (asks_of_push tasks ticketed)

pub is_open_in-asks : (tasks : List (Ticketed Task)) (ticket : ℕ) → is_open_in (asks_of tasks) ticket ≡ is_on tasks ticket
is_open_in-asks [] ticket = refl
is_open_in-asks (ticketed ∷ tasks) ticket = ap (λ b. (ticketed.ticket == ticket) || b) (is_open_in-asks tasks ticket)

pub asks_of_removed : (tasks : List (Ticketed Task)) (ticket : ℕ) → asks_of (removed tasks ticket) ≡ filter (λ ask. not (ask.0 == ticket)) (asks_of tasks)
asks_of_removed [] ticket = refl
asks_of_removed (ticketed ∷ tasks) ticket =
    elim (ticketed.ticket == ticket) as (λ b. asks_of (cond (not b) (ticketed ∷ removed tasks ticket) (removed tasks ticket)) ≡ cond (not b) ((ticketed.ticket, ticketed.task.call) ∷ filter (λ ask. not (ask.0 == ticket)) (asks_of tasks)) (filter (λ ask. not (ask.0 == ticket)) (asks_of tasks)))
    [ true ↦ asks_of_removed tasks ticket | false ↦ ap (λ asks. (ticketed.ticket, ticketed.task.call) ∷ asks) (asks_of_removed tasks ticket) ]

pub asks_of_stale : (tasks : List (Ticketed Task)) → asks_of (all_stale tasks) ≡ asks_of tasks
asks_of_stale [] = refl
asks_of_stale (ticketed ∷ tasks) = ap (λ asks. (ticketed.ticket, ticketed.task.call) ∷ asks) (asks_of_stale tasks)

-- ---- the top

none≢some : {A : Type 0} {x : A} → None ≡ Some x → ⊥
none≢some e = true≢false (sym (ap is_some e))

pub some_top : (tasks : List (Ticketed Task)) (ticket : ℕ) → option_map ticket_of (top_of tasks) ≡ Some ticket → tasks ≢ []
some_top tasks ticket top none = none≢some (sym (ap (λ s. option_map ticket_of (top_of s)) none) ∙ top)

pub no_top : (tasks : List (Ticketed Task)) → option_map ticket_of (top_of tasks) ≡ None → asks_of tasks ≡ []
no_top [] none = refl
no_top (only ∷ []) none = absurd (none≢some (sym none))
no_top (below ∷ next ∷ above) none = absurd (not_none next above none) where
  not_none : (next : Ticketed Task) (above : List (Ticketed Task)) → option_map ticket_of (top_of (next ∷ above)) ≡ None → ⊥
  not_none only [] none = none≢some (sym none)
  not_none below (next ∷ above) none = not_none next above none

pub asks_of_refreshed : (tasks : List (Ticketed Task)) → asks_of (refreshed tasks) ≡ asks_of tasks
asks_of_refreshed [] = refl
asks_of_refreshed (only ∷ []) = refl
asks_of_refreshed (below ∷ next ∷ above) = ap (λ asks. (below.ticket, below.task.call) ∷ asks) (asks_of_refreshed (next ∷ above))

top_of_changed : (first : Ticketed Task) (next : Ticketed Task) (above : List (Ticketed Task)) → top_of (first ∷ refreshed (next ∷ above)) ≡ top_of (refreshed (next ∷ above))
top_of_changed first next [] = refl
top_of_changed first next (third ∷ above) = refl

pub top_of_refreshed : (tasks : List (Ticketed Task)) → option_map ticket_of (top_of (refreshed tasks)) ≡ option_map ticket_of (top_of tasks)
top_of_refreshed [] = refl
top_of_refreshed (only ∷ []) = refl
top_of_refreshed (below ∷ next ∷ above) = ap (option_map ticket_of) (top_of_changed below next above) ∙ top_of_refreshed (next ∷ above)

-- ---- the mark of the top

pub fresh_refreshed : (tasks : List (Ticketed Task)) (ticket : ℕ) → option_map ticket_of (top_of tasks) ≡ Some ticket
    → option_map (λ ticketed. ticketed.stale) (top_of (refreshed tasks)) ≡ Some false
fresh_refreshed [] ticket top = absurd (none≢some top)
fresh_refreshed (only ∷ []) ticket top = refl
fresh_refreshed (below ∷ next ∷ above) ticket top =
    ap (option_map (λ ticketed. ticketed.stale)) (top_of_changed below next above) ∙ fresh_refreshed (next ∷ above) ticket top

marked_only : (ticketed : Ticketed Task) (ticket : ℕ) → ticketed.ticket ≡ ticket → ((has_ticket ticket ticketed && ticketed.stale) || false) ≡ false → ticketed.stale ≡ false
marked_only ticketed ticket same none =
    sym (or-false ticketed.stale) ∙ sym (ap (λ b. (b && ticketed.stale) || false) (eq-eqb ticketed.ticket ticket same)) ∙ none

right_none : (a b : Bool) → (a || b) ≡ false → b ≡ false
right_none false b none = none
right_none true b none = absurd (true≢false none)

pub fresh_unmarked : (tasks : List (Ticketed Task)) (ticket : ℕ) → option_map ticket_of (top_of tasks) ≡ Some ticket → has_stale tasks ticket ≡ false
    → option_map (λ ticketed. ticketed.stale) (top_of tasks) ≡ Some false
fresh_unmarked [] ticket top none = absurd (none≢some top)
fresh_unmarked (only ∷ []) ticket top none = let same : only.ticket ≡ ticket = cc in ap Some (marked_only only ticket same none)
fresh_unmarked (below ∷ next ∷ above) ticket top none = fresh_unmarked (next ∷ above) ticket top (right_none (has_ticket ticket below && below.stale) _ none)

-- the task on top put back as it was
pub asks_of_same : (tasks : List (Ticketed Task)) (task : Task) → option_map (λ ticketed. ticketed.task) (top_of tasks) ≡ Some task → asks_of (with_top_task tasks task) ≡ asks_of tasks
asks_of_same [] task top = refl
asks_of_same (only ∷ []) task top = let same : only.task ≡ task = cc in ap (λ (t : Task). (only.ticket, t.call) ∷ []) (sym same)
asks_of_same (below ∷ next ∷ above) task top = ap (λ asks. (below.ticket, below.task.call) ∷ asks) (asks_of_same (next ∷ above) task top)

pub on_top : (tasks : List (Ticketed Task)) (ticket : ℕ) (task : Task) → option_map ticket_of (top_of tasks) ≡ Some ticket
    → option_map (λ ticketed. ticketed.task) (top_of tasks) ≡ Some task → IsOnTop (asks_of tasks) (ticket, task.call)
on_top [] ticket task top is = absurd (none≢some top)
on_top (only ∷ []) ticket task top is =
    let same_ticket : only.ticket ≡ ticket = cc in
    let same_task : only.task ≡ task = cc in
    ([], λ i. (same_ticket i, (same_task i).call) ∷ [])
on_top (below ∷ next ∷ above) ticket task top is =
    let rest = on_top (next ∷ above) ticket task top is in
    ((below.ticket, below.task.call) ∷ rest.0, ap (λ asks. (below.ticket, below.task.call) ∷ asks) rest.1)

-- taking off the task on top leaves fewer
pub fewer_removed : (tasks : List (Ticketed Task)) (ticket : ℕ) → option_map ticket_of (top_of tasks) ≡ Some ticket → length (removed tasks ticket) < length tasks
fewer_removed [] ticket top = absurd (none≢some top)
fewer_removed (only ∷ []) ticket top =
    let same : only.ticket ≡ ticket = cc in rw (eq-eqb only.ticket ticket same) (omega arith)
fewer_removed (below ∷ next ∷ above) ticket top = by (below.ticket == ticket) (fewer_removed (next ∷ above) ticket top) where
  by : (b : Bool) → length (removed (next ∷ above) ticket) < length (next ∷ above)
      → length (cond (not b) (below ∷ removed (next ∷ above) ticket) (removed (next ∷ above) ticket)) < length (below ∷ next ∷ above)
  by true fewer = omega arith
  by false fewer = omega arith
