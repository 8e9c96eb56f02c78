-- What is left of the lines, after one step.
use Rattle.std.proofs.Common.{◌≡◌, ℕ, zero, suc, ◌<◌, ◌≤◌, ◌+◌, ◌-◌, Bool, true, false, not, ◌||◌, ◌&&◌, ◌==◌, if◌then◌else◌, nat_lt, nat_le, List, [], ◌∷◌, ◌++◌, length, Some, refl, sym, ap, ◌∙◌, subst, arith}
use Rattle.std.proofs.lemmas.Bool.{and_right, eqb-true, eq-eqb}
use Rattle.std.proofs.lemmas.Bool.Decides.{nat_tests}
use Rattle.ask_history.specs.Journal.{is_closed, all_settled}
use Rattle.ask_history.specs.Sources.{some_of}
use Rattle.ask_history.specs.Checks.{due, check_begins, check_done, first_checked, checks_alone}
use Rattle.ask_history.specs.Nested.{Nested, End, Then, deeper, others, over, nested, number_after}
use Rattle.ask_history.specs.Schedule.{Part, Play, all_of, before, play_checks, play_line, parts_of, journal_of}
use Rattle.ask_history.specs.declared.events.Event.{Event}
use Rattle.ask_history.specs.declared.events.Event.TheVariants.{Checked}
use Rattle.ask_history.specs.declared.script.Line.{Line}
use Rattle.ask_history.proofs.Idles.{checks_end, due-fewer, none_left}
use Rattle.ask_history.proofs.Plainly.{all_of-before}
use Rattle.schedule_player.specs.Around.{HasMarks, LeadsTo, ComesAt, resume, ending, in_check, top_work, around, first_of}
use Rattle.schedule_player.specs.SessionState.{SessionState}
use Rattle.schedule_player.specs.Steps.{Ends, KeepsLine, EndsTop, KeepsTop, EndsTo}
use Rattle.schedule_player.specs.declared.outers.Work.{Work}
use Rattle.schedule_player.specs.declared.outers.Work.TheVariants.{Ask, Checks, Check, Beside, Passed}
use Rattle.schedule_player.specs.declared.outers.Outer.{Outer}

-- ---- lines that end

others_none : (level : ℕ) (rest : Nested) → deeper level rest ≡ End → others level rest ≡ rest
others_none level End h = refl
others_none level (Then number line inner rest) h = by (nat_lt level line.level) h
  where
    by : (b : Bool) → (if b then Then number line inner (deeper level rest) else End) ≡ End
        → (if b then others level rest else Then number line inner rest) ≡ Then number line inner rest
    by true k = cc
    by false k = refl

-- the innermost line has ended
pub leads_around : (lines : List Line) (outer : Outer) (outers : List Outer) (rest : Nested) (old new : List Event) → deeper outer.level rest ≡ End → Ends outer.work old new
    → LeadsTo lines (outer ∷ outers) rest old → LeadsTo lines outers rest new
leads_around lines outer outers rest old new none ends leads = record {
  leads = λ without marks.
      sym ((λ j. resume without outers (others_none outer.level rest none j) (ending without outer.work (parts_of without (none j)) old))
      ∙ ap (resume without outers rest) (ends.ends without marks))
      ∙ leads.leads without (ends.marks without marks);
}

-- ---- a line that is played

same_test : (m n : ℕ) → m ≡ n → (m == n) ≡ true
same_test m n h = eq-eqb m n h

module _ (without : List ℕ) where
  -- in a check that has begun
  pub in_check_one : (number check : ℕ) (one : Play) (parts : List Part) (journal : List Event) → number ≡ check
      → in_check number (before check one parts) journal ≡ in_check number parts (one journal)
  in_check_one number check one [] journal same =
      ap (λ b. if b then play_checks (number + 1) [] (check_done (one journal)) else play_checks (number + 1) (record { check = check; play = one } ∷ []) (check_done journal)) (same_test number check same)
  in_check_one number check one (part ∷ parts) journal same = by (check == part.check) refl
    where
      by : (b : Bool) → (check == part.check) ≡ b
          → in_check number (if b then record { check = check; play = λ js. part.play (one js) } ∷ parts else record { check = check; play = one } ∷ part ∷ parts) journal
          ≡ (if number == part.check then play_checks (number + 1) parts (check_done (part.play (one journal))) else play_checks (number + 1) (part ∷ parts) (check_done (one journal)))
      by true e =
          ap (λ b. if b then play_checks (number + 1) parts (check_done (part.play (one journal))) else play_checks (number + 1) (record { check = check; play = λ js. part.play (one js) } ∷ parts) (check_done journal)) (same_test number check same)
          ∙ sym (ap (λ b. if b then play_checks (number + 1) parts (check_done (part.play (one journal))) else play_checks (number + 1) (part ∷ parts) (check_done (one journal))) (ap (λ n. n == part.check) same ∙ e))
      by false e =
          ap (λ b. if b then play_checks (number + 1) (part ∷ parts) (check_done (one journal)) else play_checks (number + 1) (record { check = check; play = one } ∷ part ∷ parts) (check_done journal)) (same_test number check same)
          ∙ sym (ap (λ b. if b then play_checks (number + 1) parts (check_done (part.play (one journal))) else play_checks (number + 1) (part ∷ parts) (check_done (one journal))) (ap (λ n. n == part.check) same ∙ e))

-- ---- lines end, one after another

pub ends_start : (level : ℕ) (session : SessionState) → EndsTo level session session
ends_start level session = record { leads = λ lines rest at k. k; tickets = refl }

pub ends_then : {level : ℕ} {old now new : SessionState} → EndsTo level old now → EndsTo level now new → EndsTo level old new
ends_then a b = record { leads = λ lines rest at k. b.leads lines rest at (a.leads lines rest at k); tickets = b.tickets ∙ a.tickets }

first_is : (outers : List Outer) (outer : Outer) → first_of outers ≡ Some outer → outers ≡ outer ∷ around outers
first_is [] outer h = cc
first_is (f ∷ outers) outer h = let same : f ≡ outer = cc in λ j. same j ∷ outers

pub ends_one : (level : ℕ) (old new : SessionState) (outer : Outer) → first_of old.outers ≡ Some outer → nat_le level outer.level ≡ true → EndsTop old new → EndsTo level old new
ends_one level old new outer first deep ends = record {
  leads = λ lines rest at k.
      let is = first_is old.outers outer first in
      subst (λ ws. LeadsTo lines ws rest new.journal) (sym ends.outers)
      (leads_around lines outer (around old.outers) rest old.journal new.journal (at.none outer.level deep)
      (subst (λ ws. Ends (top_work ws) old.journal new.journal) is ends.ends) (subst (λ ws. LeadsTo lines ws rest old.journal) is k));
  tickets = ends.tickets;
}

pub keeps_one : (level : ℕ) (old new : SessionState) (outer : Outer) → first_of old.outers ≡ Some outer → nat_le level outer.level ≡ true → KeepsTop old new → EndsTo level old new
keeps_one level old new outer first deep keeps = record {
  leads = λ lines rest at k. record {
    leads = λ without h.
        let is = first_is old.outers outer first in
        let none = at.none outer.level deep in
        let line = subst (λ ws. KeepsLine (top_work ws) old.journal new.journal) is keeps.keeps in
        ap (λ ws. resume without ws rest new.journal) (keeps.outers ∙ is)
        ∙ (λ j. resume without (around old.outers) (others outer.level rest) (ending without outer.work (parts_of without (none j)) new.journal))
        ∙ ap (resume without (around old.outers) (others outer.level rest)) (sym (line.same without h))
        ∙ (λ j. resume without (around old.outers) (others outer.level rest) (ending without outer.work (parts_of without (sym none j)) old.journal))
        ∙ ap (λ ws. resume without ws rest old.journal) (sym is)
        ∙ k.leads without (line.marks without h);
  };
  tickets = keeps.tickets;
}

pub fewer_outers : (outers : List Outer) (outer : Outer) → first_of outers ≡ Some outer → length (around outers) < length outers
fewer_outers [] outer h = cc
fewer_outers (f ∷ outers) outer h = omega arith

pub at_least : (m n : ℕ) → n ≤ m → nat_le n m ≡ true
at_least m n h = grind (arith, nat_tests)
