-- A line is played where it stands.
use Rattle.std.proofs.Common.{◌≡◌, ℕ, ◌<◌, ◌≤◌, ◌+◌, Bool, true, false, not, ◌||◌, ◌&&◌, ◌==◌, if◌then◌else◌, nat_lt, nat_le, List, [], ◌∷◌, length, Option, Some, is_some, refl, sym, ap, ◌∙◌, subst, arith, true≢false}
use Rattle.std.specs.List.{list_any, list_all}
use Rattle.std.proofs.lemmas.Bool.{and_right}
use Rattle.std.proofs.lemmas.Bool.Decides.{nat_tests}
use Rattle.ask_history.specs.Nested.{Nested, End, Then, deeper, others, over, number_after}
use Rattle.ask_history.specs.Plain.{mark_of}
use Rattle.ask_history.specs.Schedule.{Part, Play, all_of, before, settle_open, play_line, parts_of, journal_of}
use Rattle.ask_history.specs.declared.script.Line.{Line}
use Rattle.ask_history.specs.declared.events.Event.{Event}
use Rattle.ask_history.proofs.Plainly.{all_of-before}
use Rattle.schedule_player.specs.Around.{HasMarks, LeadsTo, ComesAt, resume, ending, top_work, with_work, top_under_ask, onto, is_ask}
use Rattle.schedule_player.specs.Steps.{IsUnder, HasCome, PlaysOrder, PlaysLine, KeepsNext, EndsTo, Reaches}
use Rattle.schedule_player.specs.SessionState.{SessionState}
use Rattle.schedule_player.specs.declared.outers.Work.{Work}
use Rattle.schedule_player.specs.declared.outers.Work.TheVariants.{Ask, Checks, Check, Beside, Passed}
use Rattle.schedule_player.specs.declared.outers.Outer.{Outer}
use Rattle.schedule_player.proofs.Resumes.{in_check_one}
use Rattle.schedule_player.proofs.Arrivals.{resume_under}

ending_one : (without : List ℕ) (work : Work) (check : ℕ) (one : Play) (parts : List Part) (journal : List Event) → HasCome work check
    → ending without work (before check one parts) journal ≡ ending without work parts (one journal)
ending_one without (Ask ticket is_fed turns) check one parts journal come = ap (settle_open ticket (mark_of without ticket)) (all_of-before check one parts journal)
ending_one without (Checks next) check one parts journal come = absurd come
ending_one without (Check number turns) check one parts journal come = in_check_one without number check one parts journal come
ending_one without Beside check one parts journal come = all_of-before check one parts journal
ending_one without Passed check one parts journal come = absurd come

-- the first line under those around it
resume_one : (without : List ℕ) (outers : List Outer) (number : ℕ) (line : Line) (inner rest : Nested) (journal : List Event) → IsUnder outers line.level → HasCome (top_work outers) line.check
    → resume without outers (Then number line inner rest) journal ≡ resume without outers rest (play_line without number line.order (parts_of without inner) journal)
resume_one without [] number line inner rest journal under come = all_of-before line.check (play_line without number line.order (parts_of without inner)) (parts_of without rest) journal
resume_one without (outer ∷ outers) number line inner rest journal under come =
    resume_under without outer outers number line inner rest journal under
    ∙ ap (resume without outers (others outer.level rest)) (ending_one without outer.work line.check (play_line without number line.order (parts_of without inner)) (parts_of without (deeper outer.level rest)) journal come)

-- a line of which the order is played
pub order_plays : (line : Line) (old pushed new : SessionState) → pushed ≡ record old { outers = onto line.level old.outers } → PlaysOrder line.order pushed new
    → IsUnder old.outers line.level → HasCome (top_work old.outers) line.check → PlaysLine line old new
order_plays line old pushed new e order under come = record {
  leads = λ lines rest k. record {
    leads = λ without h.
        let now : new.outers ≡ record { level = line.level; under_ask = top_under_ask old.outers || is_ask order.work; work = order.work } ∷ old.outers =
        order.outers ∙ ap {A = SessionState} (λ s. with_work order.work s.outers) e in
        let journal : pushed.journal ≡ old.journal = ap {A = SessionState} (λ s. s.journal) e in
        let number : length pushed.tickets ≡ length old.tickets = ap {A = SessionState} (λ s. length s.tickets) e in
        ap (λ ws. resume without ws rest new.journal) now
        ∙ ap (resume without old.outers (others line.level rest)) (sym (order.plays without (parts_of without (deeper line.level rest)) h)
        ∙ (λ j. play_line without (number j) line.order (parts_of without (deeper line.level rest)) (journal j)))
        ∙ sym (resume_one without old.outers (length old.tickets) line (deeper line.level rest) (others line.level rest) old.journal under come)
        ∙ k.leads without (subst (HasMarks without) journal (order.marks without h));
  };
  number = order.number ∙ ap {A = SessionState} (λ s. number_after line.order (length s.tickets)) e;
}

-- ---- what is before and after

less_less : (k m n : ℕ) → k < m → nat_lt m n ≡ true → nat_lt k n ≡ true
less_less k m n h e = grind (arith, nat_tests)

others_others : (low high : ℕ) → low < high → (rest : Nested) → others low (others high rest) ≡ others low rest
others_others low high h End = refl
others_others low high h (Then number line inner rest) = by (nat_lt high line.level) refl (others_others low high h rest)
  where
    by : (b : Bool) → nat_lt high line.level ≡ b → others low (others high rest) ≡ others low rest
        → others low (if b then others high rest else Then number line inner rest) ≡ (if nat_lt low line.level then others low rest else Then number line inner rest)
    by true e next = next ∙ sym (ap (λ b. if b then others low rest else Then number line inner rest) (less_less low high line.level h e))
    by false e next = refl

-- a line that is passed over
pub passed_plays : (line : Line) (old new : SessionState) → top_work old.outers ≡ Passed → IsUnder old.outers line.level → new.outers ≡ old.outers → new.journal ≡ old.journal
    → length new.tickets ≡ number_after line.order (length old.tickets) → PlaysLine line old new
passed_plays line old new passed under outers journal number = record {
  leads = λ lines rest k. record {
    leads = λ without h.
        (λ j. resume without (outers j) rest (journal j))
        ∙ by without old.outers passed under rest ∙ k.leads without (subst (HasMarks without) journal h);
  };
  number = number;
}
  where
    by : (without : List ℕ) (fs : List Outer) → top_work fs ≡ Passed → IsUnder fs line.level → (rest : Nested)
        → resume without fs rest old.journal ≡ resume without fs (over (length old.tickets) line rest) old.journal
    by without [] p u rest = cc
    by without (outer ∷ fs) p u rest =
        ap (λ w. resume without fs (others outer.level rest) (ending without w (parts_of without (deeper outer.level rest)) old.journal)) p
        ∙ ap (λ r. resume without fs r old.journal) (sym (others_others outer.level line.level u rest))
        ∙ sym (resume_under without outer fs (length old.tickets) line (deeper line.level rest) (others line.level rest) old.journal u
        ∙ ap (λ w. resume without fs (others outer.level (others line.level rest)) (ending without w (parts_of without (Then (length old.tickets) line (deeper line.level rest) (deeper outer.level (others line.level rest)))) old.journal)) p)

not_deeper : (at level : ℕ) → nat_le level at ≡ true → nat_lt at level ≡ false
not_deeper at level h = grind (arith, nat_tests)

pub comes_at : (number : ℕ) (line : Line) (rest : Nested) → ComesAt line.level (over number line rest)
comes_at number line rest = record { none = λ at h. ap (λ b. if b then Then number line (deeper line.level rest) (deeper at (others line.level rest)) else End) (not_deeper at line.level h) }

-- the lines end first under which it does not stand
pub after_ends : (line : Line) (old now new : SessionState) → EndsTo line.level old now → PlaysLine line now new → PlaysLine line old new
after_ends line old now new ends plays = record {
  leads = λ lines rest k. plays.leads lines rest
      (subst (λ n. LeadsTo lines now.outers (over n line rest) now.journal) (sym (ap length ends.tickets)) (ends.leads lines (over (length old.tickets) line rest) (comes_at (length old.tickets) line rest) k));
  number = plays.number ∙ ap (λ ts. number_after line.order (length ts)) ends.tickets;
}

pub after_reach : (line : Line) (old now new : SessionState) → IsUnder old.outers line.level → Reaches line.check old now → PlaysLine line now new → PlaysLine line old new
after_reach line old now new under reaches plays = record {
  leads = λ lines rest k. plays.leads lines rest
      (subst (λ n. LeadsTo lines now.outers (over n line rest) now.journal) (sym (ap length reaches.tickets))
      ((reaches.waits line.level under).leads lines (length old.tickets) line (deeper line.level rest) (others line.level rest) refl refl k));
  number = plays.number ∙ ap (λ ts. number_after line.order (length ts)) reaches.tickets;
}

pub ends_keep : (line : Line) (old new : SessionState) → EndsTo line.level old new → KeepsNext line old new
ends_keep line old new ends = record { leads = λ lines rest k. ends.leads lines (over (length old.tickets) line rest) (comes_at (length old.tickets) line rest) k }

pub reach_keep : (line : Line) (old new : SessionState) → IsUnder old.outers line.level → Reaches line.check old new → KeepsNext line old new
reach_keep line old new under reaches = record {
  leads = λ lines rest k. (reaches.waits line.level under).leads lines (length old.tickets) line (deeper line.level rest) (others line.level rest) refl refl k;
}

pub keeps_same : (line : Line) (old new : SessionState) → new ≡ old → KeepsNext line old new
keeps_same line old new e = record { leads = λ lines rest k. subst (λ s. LeadsTo lines s.outers (over (length old.tickets) line rest) s.journal) (sym e) k }

pub keeps_then : (line : Line) (old now new : SessionState) → now.tickets ≡ old.tickets → KeepsNext line old now → KeepsNext line now new → KeepsNext line old new
keeps_then line old now new tickets a b = record {
  leads = λ lines rest k.
      subst (λ n. LeadsTo lines new.outers (over n line rest) new.journal) (ap length tickets)
      (b.leads lines rest (subst (λ n. LeadsTo lines now.outers (over n line rest) now.journal) (sym (ap length tickets)) (a.leads lines rest k)));
}
