-- Checks one after another.
use Rattle.std.proofs.Common.{◌≡◌, ℕ, zero, suc, ◌<◌, ◌≤◌, ◌+◌, ◌-◌, Bool, true, false, not, ◌&&◌, ◌==◌, if◌then◌else◌, List, [], ◌∷◌, ◌++◌, length, refl, sym, ap, ◌∙◌, subst, arith, add-zero, zero-add}
use Rattle.std.proofs.lemmas.Bool.{and_parts, not-true, eq-eqb, false_from_ne_true, true≢false}
use Rattle.std.proofs.Math.Nat.{le_refl}
use Rattle.ask_history.specs.Sources.{some_of}
use Rattle.ask_history.specs.Journal.{is_closed, all_settled}
use Rattle.ask_history.specs.Checks.{due, check_begins, check_done, first_checked, checks_alone}
use Rattle.ask_history.specs.Schedule.{Part, Play, all_of, before, play_checks}
use Rattle.ask_history.specs.declared.events.Event.{Event}
use Rattle.ask_history.specs.declared.events.Event.TheVariants.{Checked}
use Rattle.ask_history.proofs.Idles.{checks_end, due-fewer}
use Rattle.schedule_player.specs.Around.{HasMarks, ending, in_check}
use Rattle.schedule_player.specs.Steps.{Ends, KeepsLine, ChecksOn, IsSameButChecks, IsOfChecks}
use Rattle.schedule_player.specs.SessionState.{SessionState}
use Rattle.schedule_player.specs.declared.outers.Work.{Work}
use Rattle.schedule_player.specs.declared.outers.Work.TheVariants.{Ask, Checks, Check, Beside, Passed}
use Rattle.schedule_player.proofs.Ending.{marks_front}

-- where no check begins, nothing is checked
pub over : (count : ℕ) (journal : List Event) → check_begins journal ≡ false → checks_alone count journal ≡ journal
over zero journal h = refl
over (suc count) journal h = ap (λ b. if b then checks_alone count (check_done journal) else journal) h

-- more checks than begin are none
stable : (count more : ℕ) (journal : List Event) → check_begins (checks_alone count journal) ≡ false → checks_alone (count + more) journal ≡ checks_alone count journal
stable zero more journal h = ap (λ n. checks_alone n journal) (zero-add more) ∙ over more journal h
stable (suc count) more journal h = ap (λ n. checks_alone n journal) (suc_add count more) ∙ by (check_begins journal) h (stable count more (check_done journal))
  where
    suc_add : (m n : ℕ) → suc m + n ≡ suc (m + n)
    suc_add m n = omega arith

    by : (b : Bool) → check_begins (if b then checks_alone count (check_done journal) else journal) ≡ false
        → (check_begins (checks_alone count (check_done journal)) ≡ false → checks_alone (count + more) (check_done journal) ≡ checks_alone count (check_done journal))
        → (if b then checks_alone (count + more) (check_done journal) else journal) ≡ (if b then checks_alone count (check_done journal) else journal)
    by true k next = next k
    by false k next = refl

enough : (count : ℕ) (journal : List Event) → length (due journal) ≤ count → checks_alone count journal ≡ checks_alone (length (due journal)) journal
enough count journal h =
    ap (λ n. checks_alone n journal) (parts (length (due journal)) count h)
    ∙ stable (length (due journal)) (count - length (due journal)) journal (checks_end (length (due journal)) journal (le_refl (length (due journal))))
  where
    parts : (m n : ℕ) → m ≤ n → n ≡ m + (n - m)
    parts m n k = omega arith

module _ (journal : List Event) where
  -- a check that begins checks the first due file
  pub begun : check_begins journal ≡ true → (is_closed journal ≡ false) × (some_of (due journal) ≡ true)
  begun h =
      let parts = and_parts (not (is_closed journal) && all_settled journal) (some_of (due journal)) h in
      (not-true (is_closed journal) (and_parts (not (is_closed journal)) (all_settled journal) parts.0).0, parts.1)

  pub fewer : check_begins journal ≡ true → length (due (check_done journal)) + 1 ≤ length (due journal)
  fewer h = by (due journal) refl (begun h).1
    where
      by : (names : List (List ℕ)) → due journal ≡ names → some_of names ≡ true → length (due (check_done journal)) + 1 ≤ length (due journal)
      by [] e some = cc
      by (name ∷ names) e some =
          let done : check_done journal ≡ journal ++ Checked name ∷ [] =
          ap (λ b. if b then journal else first_checked (due journal) journal) (begun h).0 ∙ ap (λ ns. first_checked ns journal) e in
          let less = due-fewer journal name names e in
          omega (arith, ap (λ js. length (due js)) done)

  pub one_check : check_begins journal ≡ true → checks_alone (length (due journal)) journal ≡ checks_alone (length (due (check_done journal))) (check_done journal)
  one_check h = by (length (due journal)) (fewer h)
    where
      by : (n : ℕ) → length (due (check_done journal)) + 1 ≤ n → checks_alone n journal ≡ checks_alone (length (due (check_done journal))) (check_done journal)
      by zero k = absurd (omega arith)
      by (suc n) k = ap (λ b. if b then checks_alone n (check_done journal) else journal) h ∙ enough n (check_done journal) (omega arith)

  -- where none is due, or the session is shut down, a check does nothing
  pub no_check : all_settled journal ≡ true → check_begins journal ≡ false → check_done journal ≡ journal
  no_check settled h = by (is_closed journal) refl
    where
      open_case : is_closed journal ≡ false → (names : List (List ℕ)) → due journal ≡ names → first_checked names journal ≡ journal
      open_case shut [] e = refl
      open_case shut (name ∷ names) e = absurd (true≢false (sym (λ j. (not (shut j) && settled j) && some_of (e j)) ∙ h))

      by : (b : Bool) → is_closed journal ≡ b → (if b then journal else first_checked (due journal) journal) ≡ journal
      by true e = refl
      by false e = open_case e (due journal) refl

  pub done_marks : (without : List ℕ) → HasMarks without (check_done journal) → HasMarks without journal
  done_marks without = by (is_closed journal)
    where
      names_case : (names : List (List ℕ)) → HasMarks without (first_checked names journal) → HasMarks without journal
      names_case [] h = h
      names_case (name ∷ names) h = marks_front without journal (Checked name ∷ []) h

      by : (b : Bool) → HasMarks without (if b then journal else first_checked (due journal) journal) → HasMarks without journal
      by true h = h
      by false h = names_case (due journal) h

  -- the check that has begun, and then the others
  pub after_check : all_settled journal ≡ true → checks_alone (length (due (check_done journal))) (check_done journal) ≡ checks_alone (length (due journal)) journal
  after_check settled = by (check_begins journal) refl
    where
      by : (b : Bool) → check_begins journal ≡ b → checks_alone (length (due (check_done journal))) (check_done journal) ≡ checks_alone (length (due journal)) journal
      by true e = sym (one_check e)
      by false e = ap (λ js. checks_alone (length (due js)) js) (no_check settled e)

-- ---- the whole run of checks

pub checks_start : (journal : List Event) → ChecksOn journal journal
checks_start journal = record { marks = λ without h. h; same = refl }

pub checks_more : (old now new : List Event) → ChecksOn old now → check_begins now ≡ true → new ≡ check_done now → ChecksOn old new
checks_more old now new on h e = subst (ChecksOn old) (sym e) (record { marks = λ without k. on.marks without (done_marks now without k); same = on.same ∙ one_check now h })

-- the last one that does not begin
pub checks_last : (old now new : List Event) → ChecksOn old now → all_settled now ≡ true → check_begins now ≡ false → new ≡ check_done now → ChecksOn old new
checks_last old now new on settled h e = subst (ChecksOn old) (sym (e ∙ no_check now settled h)) on

pub checks_still : (old now new : List Event) → ChecksOn old now → new ≡ now → ChecksOn old new
checks_still old now new on e = subst (ChecksOn old) (sym e) on

-- the lines of checks end
pub checks_ended : (work : Work) (old new : List Event) → IsOfChecks work → all_settled old ≡ true → ChecksOn old new → check_begins new ≡ false → Ends work old new
checks_ended (Checks next) old new is settled on h = record { marks = on.marks; ends = λ without k. on.same ∙ over (length (due new)) new h }
checks_ended (Check number turns) old new is settled on h = record { marks = on.marks; ends = λ without k. after_check old settled ∙ on.same ∙ over (length (due new)) new h }
checks_ended (Ask ticket is_fed turns) old new is settled on h = absurd is
checks_ended Beside old new is settled on h = absurd is
checks_ended Passed old new is settled on h = absurd is

pub same_but_checks : {old now new : SessionState} → IsSameButChecks old now → IsSameButChecks now new → IsSameButChecks old new
same_but_checks a b = record { outers = b.outers ∙ a.outers; tickets = b.tickets ∙ a.tickets; closed = b.closed ∙ a.closed }

-- ---- where the next line under checks stands

pub record FirstPart (check : ℕ) (parts : List Part) : Type 0 where
  pub part : Part
  pub others : List Part
  pub is : parts ≡ part ∷ others
  pub of_check : part.check ≡ check

pub before_first : (check : ℕ) (one : Play) (parts : List Part) → FirstPart check (before check one parts)
before_first check one [] = record { part = record { check = check; play = one }; others = []; is = refl; of_check = refl }
before_first check one (part ∷ parts) = by (check == part.check) refl
  where
    by : (b : Bool) → (check == part.check) ≡ b
        → FirstPart check (if b then record { check = check; play = λ journal. part.play (one journal) } ∷ parts else record { check = check; play = one } ∷ part ∷ parts)
    by true e = record { part = record { check = check; play = λ journal. part.play (one journal) }; others = parts; is = refl; of_check = refl }
    by false e = record { part = record { check = check; play = one }; others = part ∷ parts; is = refl; of_check = refl }

module _ (without : List ℕ) (check : ℕ) (parts : List Part) (first : FirstPart check parts) (journal : List Event) where
  reached : (next count : ℕ) → check - next ≡ count → play_checks next (first.part ∷ first.others) journal
      ≡ (if check_begins (checks_alone count journal) then play_checks (check + 1) first.others (check_done (first.part.play (checks_alone count journal))) else all_of (first.part ∷ first.others) (checks_alone count journal))
  reached next count e =
      λ j. if check_begins (checks_alone ((ap (λ c. c - next) first.of_check ∙ e) j) journal)
      then play_checks (first.of_check j + 1) first.others (check_done (first.part.play (checks_alone ((ap (λ c. c - next) first.of_check ∙ e) j) journal)))
      else all_of (first.part ∷ first.others) (checks_alone ((ap (λ c. c - next) first.of_check ∙ e) j) journal)

  -- no further check begins
  pub checks_over : (next : ℕ) → check_begins journal ≡ false → ending without (Checks next) parts journal ≡ ending without Beside parts journal
  checks_over next h =
      ap (λ ps. play_checks next ps journal) first.is ∙ reached next (check - next) refl
      ∙ (λ j. if check_begins (over (check - next) journal h j) then play_checks (check + 1) first.others (check_done (first.part.play (over (check - next) journal h j))) else all_of (first.part ∷ first.others) (over (check - next) journal h j))
      ∙ ap (λ b. if b then play_checks (check + 1) first.others (check_done (first.part.play journal)) else all_of (first.part ∷ first.others) journal) h
      ∙ ap (λ ps. all_of ps journal) (sym first.is)

  -- the check of this line has begun
  pub checks_here : (next : ℕ) → check ≤ next → check_begins journal ≡ true → ending without (Checks next) parts journal ≡ ending without (Check check 0) parts journal
  checks_here next h begins =
      ap (λ ps. play_checks next ps journal) first.is ∙ reached next 0 (omega arith)
      ∙ ap (λ b. if b then play_checks (check + 1) first.others (check_done (first.part.play journal)) else all_of (first.part ∷ first.others) journal) begins
      ∙ sym (ap (λ b. if b then play_checks (check + 1) first.others (check_done (first.part.play journal)) else play_checks (check + 1) (first.part ∷ first.others) (check_done journal)) (eq-eqb check first.part.check (sym first.of_check)))
      ∙ ap (λ ps. in_check check ps journal) (sym first.is)

  -- a check comes before that of this line
  pub checks_next : (next : ℕ) → next < check → check_begins journal ≡ true → ending without (Checks next) parts journal ≡ ending without (Checks (next + 1)) parts (check_done journal)
  checks_next next h begins =
      ap (λ ps. play_checks next ps journal) first.is ∙ reached next (suc (check - (next + 1))) (omega arith)
      ∙ ap (λ b. if check_begins (if b then checks_alone (check - (next + 1)) (check_done journal) else journal) then play_checks (check + 1) first.others (check_done (first.part.play (if b then checks_alone (check - (next + 1)) (check_done journal) else journal))) else all_of (first.part ∷ first.others) (if b then checks_alone (check - (next + 1)) (check_done journal) else journal)) begins
      ∙ sym (reached_done (check - (next + 1)) refl)
      ∙ ap (λ ps. play_checks (next + 1) ps (check_done journal)) (sym first.is)
    where
      reached_done : (count : ℕ) → check - (next + 1) ≡ count → play_checks (next + 1) (first.part ∷ first.others) (check_done journal)
          ≡ (if check_begins (checks_alone count (check_done journal)) then play_checks (check + 1) first.others (check_done (first.part.play (checks_alone count (check_done journal)))) else all_of (first.part ∷ first.others) (checks_alone count (check_done journal)))
      reached_done count e =
          λ j. if check_begins (checks_alone ((ap (λ c. c - (next + 1)) first.of_check ∙ e) j) (check_done journal))
          then play_checks (first.of_check j + 1) first.others (check_done (first.part.play (checks_alone ((ap (λ c. c - (next + 1)) first.of_check ∙ e) j) (check_done journal))))
          else all_of (first.part ∷ first.others) (checks_alone ((ap (λ c. c - (next + 1)) first.of_check ∙ e) j) (check_done journal))

  -- the check that has begun is another than that of this line
  pub check_left : (number turns : ℕ) → (number == check) ≡ false → ending without (Check number turns) parts journal ≡ ending without (Checks (number + 1)) parts (check_done journal)
  check_left number turns h =
      ap (λ ps. in_check number ps journal) first.is
      ∙ ap (λ b. if b then play_checks (number + 1) first.others (check_done (first.part.play journal)) else play_checks (number + 1) (first.part ∷ first.others) (check_done journal)) (ap (λ c. number == c) first.of_check ∙ h)
      ∙ ap (λ ps. play_checks (number + 1) ps (check_done journal)) (sym first.is)

-- what is left of a line of checks is the same after some of them
pub checks_kept : (work : Work) (old new : List Event) → IsOfChecks work → all_settled old ≡ true → all_settled new ≡ true → ChecksOn old new → KeepsLine work old new
checks_kept (Checks next) old new is settled now on = record { marks = on.marks; same = λ without k. on.same }
checks_kept (Check number turns) old new is settled now on = record { marks = on.marks; same = λ without k. after_check old settled ∙ on.same ∙ sym (after_check new now) }
checks_kept (Ask ticket is_fed turns) old new is settled now on = absurd is
checks_kept Beside old new is settled now on = absurd is
checks_kept Passed old new is settled now on = absurd is
