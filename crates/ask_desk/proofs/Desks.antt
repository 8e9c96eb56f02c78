-- What holds of the desk's state stays true where an event is appended, a ticket is covered, and an answer is handed out.
use Rattle.std.proofs.Common.{◌≡◌, ◌≢◌, ◌⊎◌, inl, inr, ℕ, zero, suc, ◌+◌, ◌-◌, ◌<◌, ◌≤◌, Bool, true, false, ◌||◌, true≢false, IsTrue, if◌then◌else◌, List, [], ◌∷◌, ◌++◌, length, Option, Some, None, is_some, refl, sym, ap, ◌∙◌, subst, arith, length-append, append-nil}
use Rattle.std.specs.Prelude.{slice_get, slice_set, replicate}
use Rattle.std.specs.Option.{option_and_then}
use Rattle.std.proofs.Math.Bool.{or-false}
use Rattle.std.proofs.lemmas.List.{length-set}
use Rattle.std.proofs.lemmas.Bool.{and_from, cases_eq, ne_eqb, eq-eqb, and_parts}
use Rattle.ask_history.specs.Journal.{accepted, is_close, is_closed, is_cancelled, is_settled, settles}
use Rattle.ask_history.specs.declared.answers.Answer.{Answer}
use Rattle.ask_history.specs.declared.events.Event.{Event}
use Rattle.ask_history.specs.declared.events.Event.TheVariants.{Cancel, Settle}
use Rattle.ask_history.specs.declared.events.Mark.{Mark}
use Rattle.ask_history.proofs.Orders.{is_settled-here}
use Rattle.ask_history.proofs.Pushes.{list_any-push, accepted-push}
use Rattle.response_cell.specs.declared.cells.Cell.{Cell}
use Rattle.response_cell.specs.declared.cells.Cell.TheVariants.{Empty, Set, Taken}
use Rattle.response_cell.specs.Cells.{answer_in, after_take, covered, with_cell, taken}
use Rattle.work_queue.specs.Queue.{QueueState, cancelling}
use Rattle.work_queue.specs.declared.limits.Limits.{Limits}
use Rattle.counting_word.specs.declared.view.Entry.{Entry}
use Rattle.counting_word.specs.declared.view.Found.TheVariants.{Answered}
use Rattle.counting_word.specs.History.{journal_of, has}
use Rattle.counting_word.proofs.Counting.{journal_of-append}
use Rattle.ask_desk.specs.Answers.{found_answer, answer_of, may_make, is_rightful}
use Rattle.ask_desk.specs.Locked.{is_blank, IsDesk}

-- ---- one entry more

answer_of-here : (history : List Entry) (t : ℕ) (m : Mark) (author : ℕ) (answer : Answer) → is_settled (journal_of history) t ≡ false
    → answer_of (history ++ record { event = Settle t m; author = author; found = Answered answer } ∷ []) t ≡ Some answer
answer_of-here [] t m author answer h = ap (λ b. if b then Some answer else None) (eq-eqb t t refl)
answer_of-here (first ∷ history) t m author answer h = by (settles t first.event) h (answer_of-here history t m author answer)
  where
    by : (b : Bool) → (b || is_settled (journal_of history) t) ≡ false
        → (is_settled (journal_of history) t ≡ false → answer_of (history ++ record { event = Settle t m; author = author; found = Answered answer } ∷ []) t ≡ Some answer)
        → (if b then found_answer first.found else answer_of (history ++ record { event = Settle t m; author = author; found = Answered answer } ∷ []) t) ≡ Some answer
    by true k later = absurd (true≢false k)
    by false k later = later k

answer_of-other : (history : List Entry) (entry : Entry) (t : ℕ) → settles t entry.event ≡ false → answer_of (history ++ entry ∷ []) t ≡ answer_of history t
answer_of-other [] entry t h = ap (λ b. if b then found_answer entry.found else None) h
answer_of-other (first ∷ history) entry t h =
    ap (λ o. if settles t first.event then found_answer first.found else o) (answer_of-other history entry t h)

rightful-append : (closed : Bool) (history : List Entry) (entry : Entry) → IsTrue (is_rightful closed history)
    → IsTrue (may_make (closed || is_closed (journal_of history)) entry.event entry.author) → IsTrue (is_rightful closed (history ++ entry ∷ []))
rightful-append closed [] entry h may = and_from (may_make closed entry.event entry.author) true (subst (λ b. IsTrue (may_make b entry.event entry.author)) (or-false closed) may) refl
rightful-append closed (first ∷ history) entry h may =
    let parts = and_parts (may_make closed first.event first.author) (is_rightful (closed || is_close first.event) history) h in
    and_from (may_make closed first.event first.author) (is_rightful (closed || is_close first.event) (history ++ entry ∷ [])) parts.0
    (rightful-append (closed || is_close first.event) history entry parts.1
    (subst (λ b. IsTrue (may_make b entry.event entry.author)) (sym (or_assoc closed (is_close first.event) (is_closed (journal_of history)))) may))
  where
    or_assoc : (a b c : Bool) → ((a || b) || c) ≡ (a || (b || c))
    or_assoc true b c = refl
    or_assoc false b c = refl

-- ---- cells

blank_behind : (n t : ℕ) → IsTrue (is_blank (slice_get (replicate n Empty) t))
blank_behind zero t = refl
blank_behind (suc n) zero = refl
blank_behind (suc n) (suc t) = blank_behind n t

covered_blank : (cells : List Cell) (n t : ℕ) → IsTrue (is_blank (slice_get cells t)) → IsTrue (is_blank (slice_get (cells ++ replicate n Empty) t))
covered_blank [] n t h = blank_behind n t
covered_blank (cell ∷ cells) n zero h = h
covered_blank (cell ∷ cells) n (suc t) h = covered_blank cells n t h

none_behind : (n t : ℕ) → option_and_then answer_in (slice_get (replicate n Empty) t) ≡ None
none_behind zero t = refl
none_behind (suc n) zero = refl
none_behind (suc n) (suc t) = none_behind n t

covered_holds : (cells : List Cell) (n t : ℕ) → option_and_then answer_in (slice_get (cells ++ replicate n Empty) t) ≡ option_and_then answer_in (slice_get cells t)
covered_holds [] n t = none_behind n t
covered_holds (cell ∷ cells) n zero = refl
covered_holds (cell ∷ cells) n (suc t) = covered_holds cells n t

pub get_other : {A : Type 0} (xs : List A) (i j : ℕ) (x : A) → j ≢ i → slice_get (slice_set xs i x) j ≡ slice_get xs j
get_other [] i j x n = refl
get_other (y ∷ xs) zero zero x n = absurd (n refl)
get_other (y ∷ xs) zero (suc j) x n = refl
get_other (y ∷ xs) (suc i) zero x n = refl
get_other (y ∷ xs) (suc i) (suc j) x n = get_other xs i j x (λ e. n (ap suc e))

pub get_same : {A : Type 0} (xs : List A) (i : ℕ) (x y : A) → slice_get xs i ≡ Some y → slice_get (slice_set xs i x) i ≡ Some x
get_same [] i x y h = absurd cc
get_same (z ∷ xs) zero x y h = refl
get_same (z ∷ xs) (suc i) x y h = get_same xs i x y h

get_below : {A : Type 0} (xs : List A) (i : ℕ) → i < length xs → is_some (slice_get xs i) ≡ true
get_below [] i h = absurd (let no : ⊥ = omega arith in no)
get_below (x ∷ xs) zero h = refl
get_below (x ∷ xs) (suc i) h = get_below xs i (omega arith)

taken_other : (cells : List Cell) (t k : ℕ) → k ≢ t → slice_get (taken cells t) k ≡ slice_get cells k
taken_other cells t k n = by (slice_get cells t)
  where
    by : (o : Option Cell) → slice_get (with_cell cells t o) k ≡ slice_get cells k
    by None = refl
    by (Some cell) = get_other cells t k (after_take cell) n

taken_holds_none : (cells : List Cell) (t : ℕ) → option_and_then answer_in (slice_get (taken cells t) t) ≡ None
taken_holds_none cells t = by (slice_get cells t) refl
  where
    none_left : (cell : Cell) → answer_in (after_take cell) ≡ None
    none_left Empty = refl
    none_left (Set answer) = refl
    none_left Taken = refl

    by : (o : Option Cell) → slice_get cells t ≡ o → option_and_then answer_in (slice_get (with_cell cells t o) t) ≡ None
    by None e = ap (option_and_then answer_in) e
    by (Some cell) e = ap (option_and_then answer_in) (get_same cells t (after_take cell) cell e) ∙ none_left cell

length-taken : (cells : List Cell) (t : ℕ) → length (taken cells t) ≡ length cells
length-taken cells t = by (slice_get cells t)
  where
    by : (o : Option Cell) → length (with_cell cells t o) ≡ length cells
    by None = refl
    by (Some cell) = length-set cells t (after_take cell)

has-other : (given : List ℕ) (t k : ℕ) → k ≢ t → has (t ∷ given) k ≡ has given k
has-other given t k n = ap (λ b. b || has given k) (ne_eqb t k (λ e. n (sym e)))

has-same : (given : List ℕ) (t : ℕ) → has (t ∷ given) t ≡ true
has-same given t = ap (λ b. b || has given t) (eq-eqb t t refl)

-- ---- the state

module _ (queue : QueueState) (cells : List Cell) (history : List Entry) (given : List ℕ) (limits : Limits) (desk : IsDesk queue cells history given limits) where
  pub desk-append : (next : QueueState) (entry : Entry) → next.journal ≡ queue.journal ++ entry.event ∷ [] → next.limits ≡ queue.limits
      → ((t : ℕ) → settles t entry.event ≡ false) → IsTrue (may_make (is_closed (journal_of history)) entry.event entry.author)
      → accepted (journal_of history ++ entry.event ∷ []) ≤ length cells → IsDesk next cells (history ++ entry ∷ []) given limits
  desk-append next entry journal carried other may room =
      let same : journal_of (history ++ entry ∷ []) ≡ journal_of history ++ entry.event ∷ [] = journal_of-append history (entry ∷ []) in
      let settled : (t : ℕ) → is_settled (journal_of (history ++ entry ∷ [])) t ≡ is_settled (journal_of history) t =
      λ t. ap (λ js. is_settled js t) same ∙ list_any-push (settles t) (journal_of history) entry.event
      ∙ ap (λ b. is_settled (journal_of history) t || b) (other t) ∙ or-false (is_settled (journal_of history) t) in
      record {
        journal = same ∙ ap (λ js. js ++ entry.event ∷ []) desk.journal ∙ sym journal;
        carried = carried ∙ desk.carried;
        rightful = rightful-append false history entry desk.rightful may;
        answered = λ t. ap is_some (answer_of-other history entry t (other t)) ∙ desk.answered t ∙ sym (settled t);
        covered = subst (λ js. accepted js ≤ length cells) (sym same) room;
        blank = λ t h. desk.blank t (sym (settled t) ∙ h);
        held = λ t. desk.held t ∙ ap (λ o. if has given t then None else o) (sym (answer_of-other history entry t (other t)));
      }

  pub desk-cover : (t : ℕ) → IsDesk queue (covered cells t) history given limits
  desk-cover t =
      record {
        journal = desk.journal;
        carried = desk.carried;
        rightful = desk.rightful;
        answered = desk.answered;
        covered = let c = desk.covered in omega (arith, length-append cells (replicate (t + 1 - length cells) Empty));
        blank = λ k h. covered_blank cells (t + 1 - length cells) k (desk.blank k h);
        held = λ k. covered_holds cells (t + 1 - length cells) k ∙ desk.held k;
      }

  pub desk-take : (t : ℕ) → IsTrue (is_settled (journal_of history) t) → IsDesk queue (taken cells t) history (t ∷ given) limits
  desk-take t settled =
      record {
        journal = desk.journal;
        carried = desk.carried;
        rightful = desk.rightful;
        answered = desk.answered;
        covered = let c = desk.covered in omega (arith, length-taken cells t);
        blank = λ k h.
            let apart : k ≢ t = λ e. true≢false (sym settled ∙ ap (is_settled (journal_of history)) (sym e) ∙ h) in
            subst (λ o. IsTrue (is_blank o)) (sym (taken_other cells t k apart)) (desk.blank k h);
        held = λ k. by k (cases_eq k t);
      }
    where
      by : (k : ℕ) → ((k ≡ t) ⊎ (k ≢ t)) → option_and_then answer_in (slice_get (taken cells t) k) ≡ (if has (t ∷ given) k then None else answer_of history k)
      by k (inl e) =
          ap (λ n. option_and_then answer_in (slice_get (taken cells t) n)) e ∙ taken_holds_none cells t
          ∙ ap (λ b. if b then None else answer_of history k) (sym (has-same given t) ∙ ap (has (t ∷ given)) (sym e))
      by k (inr n) =
          ap (option_and_then answer_in) (taken_other cells t k n) ∙ desk.held k ∙ ap (λ b. if b then None else answer_of history k) (sym (has-other given t k n))

  -- the cell of an accepted ticket that is not settled is empty
  pub blank_there : (t : ℕ) → t < accepted (journal_of history) → is_settled (journal_of history) t ≡ false → slice_get cells t ≡ Some Empty
  blank_there t within unsettled =
      by (slice_get cells t) (get_below cells t (let c = desk.covered in omega arith)) (desk.blank t unsettled)
    where
      by : (o : Option Cell) → is_some o ≡ true → IsTrue (is_blank o) → o ≡ Some Empty
      by None some blank = absurd (true≢false (sym some))
      by (Some Empty) some blank = refl
      by (Some (Set answer)) some blank = absurd (true≢false (sym blank))
      by (Some Taken) some blank = absurd (true≢false (sym blank))

  pub desk-settle : (next : QueueState) (t : ℕ) (m : Mark) (author : ℕ) (answer : Answer) → next.journal ≡ queue.journal ++ Settle t m ∷ [] → next.limits ≡ queue.limits
      → has given t ≡ false → is_settled (journal_of history) t ≡ false → t < accepted (journal_of history)
      → IsTrue (may_make (is_closed (journal_of history)) (Settle t m) author)
      → IsDesk next (slice_set cells t (Set answer)) (history ++ record { event = Settle t m; author = author; found = Answered answer } ∷ []) given limits
  desk-settle next t m author answer journal carried fresh unsettled within may =
      record {
        journal = same ∙ ap (λ js. js ++ Settle t m ∷ []) desk.journal ∙ sym journal;
        carried = carried ∙ desk.carried;
        rightful = rightful-append false history entry desk.rightful may;
        answered = λ k. answers k (cases_eq k t);
        covered = let c = desk.covered in omega (arith, length-set cells t (Set answer), ap accepted same, accepted-push (journal_of history) (Settle t m));
        blank = λ k h. blanks k h (cases_eq k t);
        held = λ k. holds k (cases_eq k t);
      }
    where
      entry : Entry
      entry = record { event = Settle t m; author = author; found = Answered answer }

      same : journal_of (history ++ entry ∷ []) ≡ journal_of history ++ Settle t m ∷ []
      same = journal_of-append history (entry ∷ [])

      other : (k : ℕ) → k ≢ t → settles k (Settle t m) ≡ false
      other k n = ne_eqb t k (λ e. n (sym e))

      settled_other : (k : ℕ) → k ≢ t → is_settled (journal_of (history ++ entry ∷ [])) k ≡ is_settled (journal_of history) k
      settled_other k n =
          ap (λ js. is_settled js k) same ∙ list_any-push (settles k) (journal_of history) (Settle t m)
          ∙ ap (λ b. is_settled (journal_of history) k || b) (other k n) ∙ or-false (is_settled (journal_of history) k)

      settled_here : (k : ℕ) → k ≡ t → is_settled (journal_of (history ++ entry ∷ [])) k ≡ true
      settled_here k e = ap (is_settled (journal_of (history ++ entry ∷ []))) e ∙ ap (λ js. is_settled js t) same ∙ is_settled-here (journal_of history) t m

      answer_here : (k : ℕ) → k ≡ t → answer_of (history ++ entry ∷ []) k ≡ Some answer
      answer_here k e = ap (answer_of (history ++ entry ∷ [])) e ∙ answer_of-here history t m author answer unsettled

      answers : (k : ℕ) → ((k ≡ t) ⊎ (k ≢ t)) → is_some (answer_of (history ++ entry ∷ []) k) ≡ is_settled (journal_of (history ++ entry ∷ [])) k
      answers k (inl e) = ap is_some (answer_here k e) ∙ sym (settled_here k e)
      answers k (inr n) = ap is_some (answer_of-other history entry k (other k n)) ∙ desk.answered k ∙ sym (settled_other k n)

      blanks : (k : ℕ) → is_settled (journal_of (history ++ entry ∷ [])) k ≡ false → ((k ≡ t) ⊎ (k ≢ t)) → IsTrue (is_blank (slice_get (slice_set cells t (Set answer)) k))
      blanks k h (inl e) = absurd (true≢false (sym (settled_here k e) ∙ h))
      blanks k h (inr n) = subst (λ o. IsTrue (is_blank o)) (sym (get_other cells t k (Set answer) n)) (desk.blank k (sym (settled_other k n) ∙ h))

      holds : (k : ℕ) → ((k ≡ t) ⊎ (k ≢ t))
          → option_and_then answer_in (slice_get (slice_set cells t (Set answer)) k) ≡ (if has given k then None else answer_of (history ++ entry ∷ []) k)
      holds k (inl e) =
          ap (λ n. option_and_then answer_in (slice_get (slice_set cells t (Set answer)) n)) e
          ∙ ap (option_and_then answer_in) (get_same cells t (Set answer) Empty (blank_there t within unsettled))
          ∙ sym (ap (λ b. if b then None else answer_of (history ++ entry ∷ []) k) (ap (has given) e ∙ fresh) ∙ answer_here k e)
      holds k (inr n) =
          ap (option_and_then answer_in) (get_other cells t k (Set answer) n) ∙ desk.held k
          ∙ ap (λ o. if has given k then None else o) (sym (answer_of-other history entry k (other k n)))

  -- an answer that can be taken is that of a settling, and was not given yet
  pub settled_there : (t : ℕ) (answer : Answer) → option_and_then answer_in (slice_get cells t) ≡ Some answer
      → IsTrue (is_settled (journal_of history) t) × (answer_of history t ≡ Some answer)
  settled_there t answer h = by (has given t) (sym (desk.held t) ∙ h)
    where
      by : (b : Bool) → (if b then None else answer_of history t) ≡ Some answer → IsTrue (is_settled (journal_of history) t) × (answer_of history t ≡ Some answer)
      by true e = absurd cc
      by false e = (sym (desk.answered t) ∙ ap is_some e, e)

  -- where none can be taken, and it was not given, it is not settled
  pub unsettled_there : (t : ℕ) → has given t ≡ false → option_and_then answer_in (slice_get cells t) ≡ None → is_settled (journal_of history) t ≡ false
  unsettled_there t fresh h =
      sym (desk.answered t) ∙ ap is_some (ap (λ b. if b then None else answer_of history t) (sym fresh) ∙ sym (desk.held t) ∙ h)

set_again : {A : Type 0} (xs : List A) (i : ℕ) (x : A) → slice_get xs i ≡ Some x → slice_set xs i x ≡ xs
set_again [] i x h = absurd cc
set_again (y ∷ xs) zero x h = let same : x ≡ y = cc in ap (λ z. z ∷ xs) same
set_again (y ∷ xs) (suc i) x h = ap (λ zs. y ∷ zs) (set_again xs i x h)

-- a take that finds nothing changes no cell
pub taken_none : (cells : List Cell) (t : ℕ) → option_and_then answer_in (slice_get cells t) ≡ None → taken cells t ≡ cells
taken_none cells t h = by (slice_get cells t) refl h
  where
    by : (o : Option Cell) → slice_get cells t ≡ o → option_and_then answer_in o ≡ None → with_cell cells t o ≡ cells
    by None e k = refl
    by (Some Empty) e k = set_again cells t Empty e
    by (Some (Set answer)) e k = absurd cc
    by (Some Taken) e k = set_again cells t Taken e

-- a cancel that appends something appends the cancel
pub cancelling-some : (journal : List Event) (t : ℕ) → length journal < length (journal ++ cancelling journal t) → cancelling journal t ≡ Cancel t ∷ []
cancelling-some journal t h = by (is_settled journal t || is_cancelled journal t) h
  where
    by : (b : Bool) → length journal < length (journal ++ (if b then [] else Cancel t ∷ [])) → (if b then [] else Cancel t ∷ []) ≡ Cancel t ∷ []
    by true k = absurd (omega (arith, ap length (append-nil journal)))
    by false k = refl
