-- The marks that a history of calls leaves.
use Rattle.std.proofs.Common.{◌≡◌, ℕ, Bool, true, false, not, ◌&&◌, ◌||◌, ◌⊎◌, ◌==◌, List, [], ◌∷◌, ◌++◌, filter, refl, sym, ap, ◌∙◌, inl, inr}
use Rattle.std.specs.List.{list_any}
use Rattle.std.proofs.lemmas.Bool.Decides.{eqb_tells}
use Rattle.std.proofs.lemmas.List.Folds.{list_any-append}
use Rattle.std.proofs.Math.Bool.{or-false, and-false, and-true}
use Rattle.safe_points.specs.declared.ticketed.Ticketed.{Ticketed}
use Rattle.safe_points.specs.Stack.{AreDistinct, tickets, has_ticket, is_on, has_stale, removed, all_stale, top_changed, unmarked, with_task, refreshed}
use Rattle.safe_points.specs.History.{Change, Push, Work, Remove, StaleAll, RefreshTop, after, AreAllowed, is_top, must_restart}
use Rattle.safe_points.proofs.Tickets.{AreDistinct-push, AreDistinct-all_stale, AreDistinct-removed, has_stale-absent, absent_under}

either : (b : Bool) → (b ≡ true) ⊎ (b ≡ false)
either true = inl refl
either false = inr refl

module _ {T : Type 0} where
  -- ---- one call

  list_any-push : (p : Ticketed T → Bool) (stack : List (Ticketed T)) (ticketed : Ticketed T) → p ticketed ≡ false → list_any p (stack ++ ticketed ∷ []) ≡ list_any p stack
  list_any-push p stack ticketed h = list_any-append p stack (ticketed ∷ []) ∙ rw h (or-false (list_any p stack))

  -- what a change of the top leaves
  list_any-top_changed : (p : Ticketed T → Bool) (change : Ticketed T → Ticketed T) → ((ticketed : Ticketed T) → p (change ticketed) ≡ p ticketed) → (stack : List (Ticketed T)) → list_any p (top_changed change stack) ≡ list_any p stack
  list_any-top_changed p change same [] = refl
  list_any-top_changed p change same (only ∷ []) = rw (same only) refl
  list_any-top_changed p change same (below ∷ next ∷ above) = ap (λ b. p below || b) (list_any-top_changed p change same (next ∷ above))

  tickets-top_changed : (change : Ticketed T → Ticketed T) → ((ticketed : Ticketed T) → (change ticketed).ticket ≡ ticketed.ticket) → (stack : List (Ticketed T)) → tickets (top_changed change stack) ≡ tickets stack
  tickets-top_changed change same [] = refl
  tickets-top_changed change same (only ∷ []) = ap (λ t. t ∷ []) (same only)
  tickets-top_changed change same (below ∷ next ∷ above) = ap (λ ts. below.ticket ∷ ts) (tickets-top_changed change same (next ∷ above))

  -- elements that are filtered out do not count where none of them passes
  list_any-filter : (p q : Ticketed T → Bool) → ((ticketed : Ticketed T) → q ticketed ≡ false → p ticketed ≡ false) → (stack : List (Ticketed T)) → list_any p (filter q stack) ≡ list_any p stack
  list_any-filter p q out [] = refl
  list_any-filter p q out (ticketed ∷ stack) = elim (either (q ticketed)) [
    | inl stays ↦ rw stays (ap (λ b. p ticketed || b) (list_any-filter p q out stack))
    | inr goes ↦ rw (goes, out ticketed goes) (list_any-filter p q out stack)
  ]

  -- a task of another ticket
  passes : (ticketed : Ticketed T) (other ticket : ℕ) → (other == ticket) ≡ false → not (has_ticket other ticketed) ≡ false → has_ticket ticket ticketed ≡ false
  passes ticketed other ticket apart goes = elim (eqb_tells ticketed.ticket other) [
    | inl same ↦ rw same.1 apart
    | inr differs ↦ absurd (let h = differs.0 in let k : not (has_ticket other ticketed) ≡ true = ap not h in cc)
  ]

  is_on-removed_same : (stack : List (Ticketed T)) (ticket : ℕ) → is_on (removed stack ticket) ticket ≡ false
  is_on-removed_same [] ticket = refl
  is_on-removed_same (ticketed ∷ stack) ticket = elim (either (has_ticket ticket ticketed)) [
    | inl same ↦ rw same (is_on-removed_same stack ticket)
    | inr differs ↦ rw (differs, differs) (is_on-removed_same stack ticket)
  ]

  has_stale-all_stale : (stack : List (Ticketed T)) (ticket : ℕ) → has_stale (all_stale stack) ticket ≡ is_on stack ticket
  has_stale-all_stale [] ticket = refl
  has_stale-all_stale (ticketed ∷ stack) ticket = rw (and-true (has_ticket ticket ticketed), has_stale-all_stale stack ticket) refl

  is_on-all_stale : (stack : List (Ticketed T)) (ticket : ℕ) → is_on (all_stale stack) ticket ≡ is_on stack ticket
  is_on-all_stale [] ticket = refl
  is_on-all_stale (ticketed ∷ stack) ticket = ap (λ b. has_ticket ticket ticketed || b) (is_on-all_stale stack ticket)

  is_on-top : (stack : List (Ticketed T)) (ticket : ℕ) → is_top stack ticket ≡ true → is_on stack ticket ≡ true
  is_on-top [] ticket top = top
  is_on-top (only ∷ []) ticket top = rw top refl
  is_on-top (below ∷ next ∷ above) ticket top = elim (either (has_ticket ticket below)) [
    | inl same ↦ rw same refl
    | inr differs ↦ rw differs (is_on-top (next ∷ above) ticket top)
  ]

  has_stale-refreshed_top : (stack : List (Ticketed T)) (ticket : ℕ) → AreDistinct (tickets stack) → is_top stack ticket ≡ true → has_stale (refreshed stack) ticket ≡ false
  has_stale-refreshed_top [] ticket distinct top = refl
  has_stale-refreshed_top (only ∷ []) ticket distinct top = rw (and-false (has_ticket ticket only)) refl
  has_stale-refreshed_top (below ∷ next ∷ above) ticket distinct top =
      rw (absent_under below (next ∷ above) ticket distinct (is_on-top (next ∷ above) ticket top)) (has_stale-refreshed_top (next ∷ above) ticket distinct.1 top)

  has_stale-refreshed_below : (stack : List (Ticketed T)) (ticket : ℕ) → is_top stack ticket ≡ false → has_stale (refreshed stack) ticket ≡ has_stale stack ticket
  has_stale-refreshed_below [] ticket below_top = refl
  has_stale-refreshed_below (only ∷ []) ticket below_top = rw below_top refl
  has_stale-refreshed_below (below ∷ next ∷ above) ticket below_top =
      ap (λ b. (has_ticket ticket below && below.stale) || b) (has_stale-refreshed_below (next ∷ above) ticket below_top)

  -- ---- many calls

  AreDistinct-after : (calls : List (Change T)) → AreAllowed calls → AreDistinct (tickets (after calls))
  AreDistinct-after [] allowed = tt
  AreDistinct-after (Push ticket task ∷ earlier) allowed =
      AreDistinct-push (after earlier) record { ticket = ticket; task = task; stale = false } (AreDistinct-after earlier allowed.1) allowed.0
  AreDistinct-after (Work task ∷ earlier) allowed = rw (tickets-top_changed (with_task task) (λ ticketed. refl) (after earlier)) (AreDistinct-after earlier allowed)
  AreDistinct-after (Remove ticket ∷ earlier) allowed = AreDistinct-removed (after earlier) ticket (AreDistinct-after earlier allowed)
  AreDistinct-after (StaleAll ∷ earlier) allowed = AreDistinct-all_stale (after earlier) (AreDistinct-after earlier allowed)
  AreDistinct-after (RefreshTop ∷ earlier) allowed = rw (tickets-top_changed unmarked (λ ticketed. refl) (after earlier)) (AreDistinct-after earlier allowed)

  pub has_stale-after : (calls : List (Change T)) (ticket : ℕ) → AreAllowed calls → is_on (after calls) ticket ≡ true → has_stale (after calls) ticket ≡ must_restart calls ticket
  has_stale-after [] ticket allowed on = refl
  has_stale-after (Push pushed task ∷ earlier) ticket allowed on =
      let ticketed : Ticketed T = record { ticket = pushed; task = task; stale = false } in
      list_any-push (λ e. has_ticket ticket e && e.stale) (after earlier) ticketed (and-false (has_ticket ticket ticketed)) ∙ elim (eqb_tells pushed ticket) [
        | inl same ↦ rw same.0 (has_stale-absent (after earlier) ticket (rw (← same.1) allowed.0))
        | inr differs ↦ rw differs.0 (has_stale-after earlier ticket allowed.1 (sym (list_any-push (has_ticket ticket) (after earlier) ticketed differs.0) ∙ on))
      ]
  has_stale-after (Work task ∷ earlier) ticket allowed on =
      list_any-top_changed (λ e. has_ticket ticket e && e.stale) (with_task task) (λ ticketed. refl) (after earlier)
      ∙ has_stale-after earlier ticket allowed (sym (list_any-top_changed (has_ticket ticket) (with_task task) (λ ticketed. refl) (after earlier)) ∙ on)
  has_stale-after (Remove other ∷ earlier) ticket allowed on = elim (eqb_tells other ticket) [
    | inl same ↦ absurd (let off : is_on (removed (after earlier) other) ticket ≡ false = rw (← same.1) (is_on-removed_same (after earlier) other) in cc)
    | inr differs ↦
        list_any-filter (λ e. has_ticket ticket e && e.stale) (λ e. not (has_ticket other e)) (λ e goes. rw (passes e other ticket differs.0 goes) refl) (after earlier)
        ∙ has_stale-after earlier ticket allowed (sym (list_any-filter (has_ticket ticket) (λ e. not (has_ticket other e)) (λ e goes. passes e other ticket differs.0 goes) (after earlier)) ∙ on)
  ]
  has_stale-after (StaleAll ∷ earlier) ticket allowed on =
      has_stale-all_stale (after earlier) ticket ∙ sym (is_on-all_stale (after earlier) ticket) ∙ on
  has_stale-after (RefreshTop ∷ earlier) ticket allowed on = elim (either (is_top (after earlier) ticket)) [
    | inl top ↦ rw top (has_stale-refreshed_top (after earlier) ticket (AreDistinct-after earlier allowed) top)
    | inr below ↦ rw below (has_stale-refreshed_below (after earlier) ticket below
        ∙ has_stale-after earlier ticket allowed (sym (list_any-top_changed (has_ticket ticket) unmarked (λ ticketed. refl) (after earlier)) ∙ on))
  ]
