-- Stacks whose tasks have distinct tickets.
use Rattle.std.proofs.Common.{◌≡◌, ℕ, ◌-◌, ◌<◌, ◌≤◌, Bool, true, false, ◌||◌, ◌==◌, List, [], ◌∷◌, ◌++◌, length, map, take, drop, get_or, set, slice_get, All, ◌≢◌, Some, None, refl, sym, ap, ◌∙◌, arith, suc, zero, inl, inr, append-nil}
use Rattle.std.specs.List.{list_any, remove}
use Rattle.std.specs.Option.{option_map}
use Rattle.std.proofs.lemmas.Bool.{eq-eqb}
use Rattle.std.proofs.lemmas.Bool.Decides.{nat_tests, eqb_tells}
use Rattle.std.proofs.lemmas.List.Folds.{list_any_none}
use Rattle.std.proofs.Math.Bool.{or-true, or-false}
use Rattle.std.proofs.Math.Seq.{map-set_same, take-append_seam}
use Rattle.std.proofs.lemmas.List.{length-map, take_all, drop_all}
use Rattle.safe_points.specs.declared.ticketed.Ticketed.{Ticketed}
use Rattle.safe_points.specs.Stack.{AreDistinct, tickets, ticket_of, has_ticket, is_on, task_of, has_stale, removed, all_stale, marked, top_of, top_changed}

eqb_sym : (a b : ℕ) → (a == b) ≡ false → (b == a) ≡ false
eqb_sym a b h = grind (arith, nat_tests)

pub or_left : (a b : Bool) → (a || b) ≡ false → a ≡ false
or_left false b h = refl
or_left true b h = h

pub or_right : (a b : Bool) → (a || b) ≡ false → b ≡ false
or_right false b h = h
or_right true b h = absurd (cc)

-- ---- numbers

list_any-push : (p : ℕ → Bool) (xs : List ℕ) (x : ℕ) → list_any p xs ≡ false → p x ≡ false → list_any p (xs ++ x ∷ []) ≡ false
list_any-push p [] x h k = rw k refl
list_any-push p (y ∷ xs) x h k = rw (or_left (p y) _ h) (list_any-push p xs x (or_right (p y) _ h) k)

AreDistinct-push_ticket : (above : List ℕ) (ticket : ℕ) → AreDistinct above → list_any (λ other. other == ticket) above ≡ false → AreDistinct (above ++ ticket ∷ [])
AreDistinct-push_ticket [] ticket d h = (refl, tt)
AreDistinct-push_ticket (other ∷ above) ticket d h =
    (list_any-push _ above ticket d.0 (eqb_sym _ _ (or_left (other == ticket) _ h)), AreDistinct-push_ticket above ticket d.1 (or_right (other == ticket) _ h))

list_any-remove : (p : ℕ → Bool) (xs : List ℕ) (i : ℕ) → list_any p xs ≡ false → list_any p (remove xs i) ≡ false
list_any-remove p [] zero h = h
list_any-remove p [] (suc i) h = h
list_any-remove p (x ∷ xs) zero h = or_right (p x) _ h
list_any-remove p (x ∷ xs) (suc i) h = rw (or_left (p x) _ h) (list_any-remove p xs i (or_right (p x) _ h))

AreDistinct-remove_ticket : (xs : List ℕ) (i : ℕ) → AreDistinct xs → AreDistinct (remove xs i)
AreDistinct-remove_ticket [] zero d = d
AreDistinct-remove_ticket [] (suc i) d = d
AreDistinct-remove_ticket (x ∷ xs) zero d = d.1
AreDistinct-remove_ticket (x ∷ xs) (suc i) d = (list_any-remove _ xs i d.0, AreDistinct-remove_ticket xs i d.1)

-- ---- stacks

module _ {T : Type 0} where
  pub list_any-tickets : (stack : List (Ticketed T)) (ticket : ℕ) → list_any (λ other. other == ticket) (tickets stack) ≡ is_on stack ticket
  list_any-tickets [] ticket = refl
  list_any-tickets (ticketed ∷ stack) ticket = ap (λ b. has_ticket ticket ticketed || b) (list_any-tickets stack ticket)

  tickets-push : (stack : List (Ticketed T)) (ticketed : Ticketed T) → tickets (stack ++ ticketed ∷ []) ≡ tickets stack ++ ticketed.ticket ∷ []
  tickets-push [] ticketed = refl
  tickets-push (below ∷ stack) ticketed = ap (λ ts. below.ticket ∷ ts) (tickets-push stack ticketed)

  pub AreDistinct-push : (stack : List (Ticketed T)) (ticketed : Ticketed T) → AreDistinct (tickets stack) → is_on stack ticketed.ticket ≡ false → AreDistinct (tickets (stack ++ ticketed ∷ []))
  AreDistinct-push stack ticketed distinct absent =
      rw (tickets-push stack ticketed) (AreDistinct-push_ticket (tickets stack) ticketed.ticket distinct (list_any-tickets stack ticketed.ticket ∙ absent))

  tickets-all_stale : (stack : List (Ticketed T)) → tickets (all_stale stack) ≡ tickets stack
  tickets-all_stale [] = refl
  tickets-all_stale (ticketed ∷ stack) = ap (λ ts. ticketed.ticket ∷ ts) (tickets-all_stale stack)

  pub AreDistinct-all_stale : (stack : List (Ticketed T)) → AreDistinct (tickets stack) → AreDistinct (tickets (all_stale stack))
  AreDistinct-all_stale stack distinct = rw (tickets-all_stale stack) distinct

  -- tasks that are all marked, written over the stack
  pub all_stale-whole : (stack tasks : List (Ticketed T)) (n i : ℕ) → n ≡ length stack → length stack ≤ i → tasks ≡ map marked (take i stack) ++ drop i stack → take n (tasks ++ drop (length tasks) stack) ≡ all_stale stack
  all_stale-whole stack tasks n i is past marked_is =
      let whole : tasks ≡ all_stale stack = marked_is ∙ rw (take_all i stack past, drop_all i stack past) (append-nil (map marked stack)) in
      let len : n ≡ length tasks = is ∙ sym (length-map stack marked) ∙ ap length (sym whole) in
      ap (λ k. take k (tasks ++ drop (length tasks) stack)) len ∙ take-append_seam tasks (drop (length tasks) stack) ∙ whole

  tickets-remove : (stack : List (Ticketed T)) (i : ℕ) → tickets (remove stack i) ≡ remove (tickets stack) i
  tickets-remove [] zero = refl
  tickets-remove [] (suc i) = refl
  tickets-remove (ticketed ∷ stack) zero = refl
  tickets-remove (ticketed ∷ stack) (suc i) = ap (λ ts. ticketed.ticket ∷ ts) (tickets-remove stack i)

  pub AreDistinct-remove : (stack : List (Ticketed T)) (i : ℕ) → AreDistinct (tickets stack) → AreDistinct (tickets (remove stack i))
  AreDistinct-remove stack i distinct = rw (tickets-remove stack i) (AreDistinct-remove_ticket (tickets stack) i distinct)

  is_on-removed : (stack : List (Ticketed T)) (ticket other : ℕ) → is_on stack other ≡ false → is_on (removed stack ticket) other ≡ false
  is_on-removed [] ticket other absent = refl
  is_on-removed (ticketed ∷ stack) ticket other absent = elim (eqb_tells ticketed.ticket ticket) [
    | inl same ↦ rw same.0 (is_on-removed stack ticket other (or_right (has_ticket other ticketed) _ absent))
    | inr differs ↦ rw (differs.0, or_left (has_ticket other ticketed) _ absent) (is_on-removed stack ticket other (or_right (has_ticket other ticketed) _ absent))
  ]

  pub AreDistinct-removed : (stack : List (Ticketed T)) (ticket : ℕ) → AreDistinct (tickets stack) → AreDistinct (tickets (removed stack ticket))
  AreDistinct-removed [] ticket distinct = tt
  AreDistinct-removed (ticketed ∷ stack) ticket distinct = elim (eqb_tells ticketed.ticket ticket) [
    | inl same ↦ rw same.0 (AreDistinct-removed stack ticket distinct.1)
    | inr differs ↦ rw differs.0 (list_any-tickets (removed stack ticket) ticketed.ticket ∙ is_on-removed stack ticket ticketed.ticket (sym (list_any-tickets stack ticketed.ticket) ∙ distinct.0), AreDistinct-removed stack ticket distinct.1)
  ]

  -- another ticketed with the ticket of the one in its stead
  pub AreDistinct-set : (stack : List (Ticketed T)) (i : ℕ) (ticketed other : Ticketed T) → ticketed.ticket ≡ (get_or stack i other).ticket → AreDistinct (tickets stack) → AreDistinct (tickets (set stack i ticketed))
  AreDistinct-set stack i ticketed other same distinct = rw (map-set_same ticket_of stack i ticketed other same) distinct

  -- ---- where no task has the ticket

  pub removed-absent : (stack : List (Ticketed T)) (ticket : ℕ) → is_on stack ticket ≡ false → removed stack ticket ≡ stack
  removed-absent [] ticket absent = refl
  removed-absent (ticketed ∷ stack) ticket absent =
      rw (or_left (has_ticket ticket ticketed) _ absent) (ap (λ s. ticketed ∷ s) (removed-absent stack ticket (or_right (has_ticket ticket ticketed) _ absent)))

  pub task_of-absent : (stack : List (Ticketed T)) (ticket : ℕ) → is_on stack ticket ≡ false → task_of stack ticket ≡ None
  task_of-absent [] ticket absent = refl
  task_of-absent (ticketed ∷ stack) ticket absent =
      rw (or_left (has_ticket ticket ticketed) _ absent) (task_of-absent stack ticket (or_right (has_ticket ticket ticketed) _ absent))

  pub has_stale-absent : (stack : List (Ticketed T)) (ticket : ℕ) → is_on stack ticket ≡ false → has_stale stack ticket ≡ false
  has_stale-absent [] ticket absent = refl
  has_stale-absent (ticketed ∷ stack) ticket absent =
      rw (or_left (has_ticket ticket ticketed) _ absent) (has_stale-absent stack ticket (or_right (has_ticket ticket ticketed) _ absent))

  none_on : (stack : List (Ticketed T)) (ticket : ℕ) → All (λ ticketed. has_ticket ticket ticketed ≡ false) stack → is_on stack ticket ≡ false
  none_on stack ticket none = list_any_none _ stack none

  pub removed-none : (stack : List (Ticketed T)) (ticket : ℕ) → All (λ ticketed. has_ticket ticket ticketed ≡ false) stack → removed stack ticket ≡ stack
  removed-none stack ticket none = removed-absent stack ticket (none_on stack ticket none)

  pub task_of-none : (stack : List (Ticketed T)) (ticket : ℕ) → All (λ ticketed. has_ticket ticket ticketed ≡ false) stack → task_of stack ticket ≡ None
  task_of-none stack ticket none = task_of-absent stack ticket (none_on stack ticket none)

  pub has_stale-none : (stack : List (Ticketed T)) (ticket : ℕ) → All (λ ticketed. has_ticket ticket ticketed ≡ false) stack → has_stale stack ticket ≡ false
  has_stale-none stack ticket none = has_stale-absent stack ticket (none_on stack ticket none)

  -- ---- where the task at an index has it

  pub within : (stack : List (Ticketed T)) (i ticket : ℕ) → option_map ticket_of (slice_get stack i) ≡ Some ticket → i < length stack
  within [] i ticket at = absurd (cc)
  within (ticketed ∷ stack) zero ticket at = omega arith
  within (ticketed ∷ stack) (suc i) ticket at = let below = within stack i ticket at in omega arith

  is_on-at : (stack : List (Ticketed T)) (i ticket : ℕ) → option_map ticket_of (slice_get stack i) ≡ Some ticket → is_on stack ticket ≡ true
  is_on-at [] i ticket at = absurd (cc)
  is_on-at (ticketed ∷ stack) zero ticket at = let same : ticketed.ticket ≡ ticket = cc in rw (eq-eqb ticketed.ticket ticket same) refl
  is_on-at (ticketed ∷ stack) (suc i) ticket at = rw (is_on-at stack i ticket at) (or-true (has_ticket ticket ticketed))

  -- the tasks above it do not
  absent_above : (ticketed : Ticketed T) (above : List (Ticketed T)) (ticket : ℕ) → AreDistinct (tickets (ticketed ∷ above)) → ticketed.ticket ≡ ticket → is_on above ticket ≡ false
  absent_above ticketed above ticket distinct same =
      rw (← same) (sym (list_any-tickets above ticketed.ticket) ∙ distinct.0)

  -- and one below it does not
  pub absent_under : (ticketed : Ticketed T) (above : List (Ticketed T)) (ticket : ℕ) → AreDistinct (tickets (ticketed ∷ above)) → is_on above ticket ≡ true → has_ticket ticket ticketed ≡ false
  absent_under ticketed above ticket distinct on = elim (eqb_tells ticketed.ticket ticket) [
    | inl same ↦ absurd (let k = absent_above ticketed above ticket distinct same.1 in cc)
    | inr differs ↦ differs.0
  ]

  absent_below : (ticketed : Ticketed T) (above : List (Ticketed T)) (i ticket : ℕ) → AreDistinct (tickets (ticketed ∷ above)) → option_map ticket_of (slice_get above i) ≡ Some ticket → has_ticket ticket ticketed ≡ false
  absent_below ticketed above i ticket distinct at = absent_under ticketed above ticket distinct (is_on-at above i ticket at)

  pub removed-at : (stack : List (Ticketed T)) (i ticket : ℕ) → AreDistinct (tickets stack) → option_map ticket_of (slice_get stack i) ≡ Some ticket → remove stack i ≡ removed stack ticket
  removed-at [] i ticket distinct at = absurd (cc)
  removed-at (ticketed ∷ stack) zero ticket distinct at =
      let same : ticketed.ticket ≡ ticket = cc in
      rw (eq-eqb ticketed.ticket ticket same) (sym (removed-absent stack ticket (absent_above ticketed stack ticket distinct same)))
  removed-at (ticketed ∷ stack) (suc i) ticket distinct at =
      rw (absent_below ticketed stack i ticket distinct at) (ap (λ s. ticketed ∷ s) (removed-at stack i ticket distinct.1 at))

  pub task_of-at : (stack : List (Ticketed T)) (i ticket : ℕ) (other : Ticketed T) → AreDistinct (tickets stack) → option_map ticket_of (slice_get stack i) ≡ Some ticket → task_of stack ticket ≡ Some (get_or stack i other).task
  task_of-at [] i ticket other distinct at = absurd (cc)
  task_of-at (ticketed ∷ stack) zero ticket other distinct at =
      let same : ticketed.ticket ≡ ticket = cc in rw (eq-eqb ticketed.ticket ticket same) refl
  task_of-at (ticketed ∷ stack) (suc i) ticket other distinct at =
      rw (absent_below ticketed stack i ticket distinct at) (task_of-at stack i ticket other distinct.1 at)

  pub has_stale-at : (stack : List (Ticketed T)) (i ticket : ℕ) (other : Ticketed T) → AreDistinct (tickets stack) → option_map ticket_of (slice_get stack i) ≡ Some ticket → has_stale stack ticket ≡ (get_or stack i other).stale
  has_stale-at [] i ticket other distinct at = absurd (cc)
  has_stale-at (ticketed ∷ stack) zero ticket other distinct at =
      let same : ticketed.ticket ≡ ticket = cc in
      rw (eq-eqb ticketed.ticket ticket same, has_stale-absent stack ticket (absent_above ticketed stack ticket distinct same)) (or-false ticketed.stale)
  has_stale-at (ticketed ∷ stack) (suc i) ticket other distinct at =
      rw (absent_below ticketed stack i ticket distinct at) (has_stale-at stack i ticket other distinct.1 at)

-- ---- the top

module _ {T : Type 0} where
  -- the last index of a stack that is not empty
  pub some_last : (stack : List (Ticketed T)) (n : ℕ) → stack ≢ [] → n ≡ length stack → suc (n - 1) ≡ length stack
  some_last [] n some is = absurd (some refl)
  some_last (ticketed ∷ stack) n some is = omega arith

  -- the ticketed at the last index is on top
  pub top_of-last : (stack : List (Ticketed T)) (i : ℕ) (ticketed : Ticketed T) → suc i ≡ length stack → ticketed ≡ get_or stack i ticketed → top_of stack ≡ Some ticketed
  top_of-last [] i ticketed last is = absurd (omega arith)
  top_of-last (only ∷ []) zero ticketed last is = ap Some (sym is)
  top_of-last (only ∷ []) (suc i) ticketed last is = absurd (omega arith)
  top_of-last (below ∷ next ∷ above) zero ticketed last is = absurd (omega arith)
  top_of-last (below ∷ next ∷ above) (suc i) ticketed last is = top_of-last (next ∷ above) i ticketed (omega arith) is

  pub slice_get-last : (stack : List (Ticketed T)) → slice_get stack (length stack - 1) ≡ top_of stack
  slice_get-last [] = refl
  slice_get-last (only ∷ []) = refl
  slice_get-last (below ∷ next ∷ above) =
      let e : length (below ∷ next ∷ above) - 1 ≡ suc (length (next ∷ above) - 1) = omega arith in rw e (slice_get-last (next ∷ above))

  -- a change of the ticketed at the last index
  pub top_changed-last : (change : Ticketed T → Ticketed T) (stack : List (Ticketed T)) (i : ℕ) (ticketed : Ticketed T) → suc i ≡ length stack → ticketed ≡ get_or stack i ticketed → set stack i (change ticketed) ≡ top_changed change stack
  top_changed-last change [] i ticketed last is = absurd (omega arith)
  top_changed-last change (only ∷ []) zero ticketed last is = ap (λ e. change e ∷ []) is
  top_changed-last change (only ∷ []) (suc i) ticketed last is = absurd (omega arith)
  top_changed-last change (below ∷ next ∷ above) zero ticketed last is = absurd (omega arith)
  top_changed-last change (below ∷ next ∷ above) (suc i) ticketed last is = ap (λ s. below ∷ s) (top_changed-last change (next ∷ above) i ticketed (omega arith) is)

  -- a stack of which the top was changed still has a top, as a caller that writes to it and goes on must show
  pub top_changed-some : (change : Ticketed T → Ticketed T) (stack : List (Ticketed T)) → stack ≢ [] → top_changed change stack ≢ []
  top_changed-some change [] some none = some none
  top_changed-some change (only ∷ []) some none = cc
  top_changed-some change (below ∷ next ∷ above) some none = cc
