-- A shutdown is played.
use Rattle.std.proofs.Common.{◌≡◌, ℕ, zero, suc, ◌+◌, Bool, true, false, not, ◌||◌, ◌&&◌, ◌==◌, cond, if◌then◌else◌, List, [], ◌∷◌, ◌++◌, length, map, All, Option, Some, None, is_some, is_none, unwrap_or, IsTrue, refl, sym, ap, ◌∙◌, subst, arith, append_assoc, append-nil}
use Rattle.std.specs.Option.{option_or}
use Rattle.std.proofs.lemmas.Bool.{and_parts, eqb-true}
use Rattle.std.proofs.lemmas.List.Elements.{All-nil}
use Rattle.pc_terms.specs.declared.problems.Problem.{Problem}
use Rattle.ask_history.specs.Sources.{Bytes, Sources, unchecked}
use Rattle.ask_history.specs.Journal.{accepted, is_accept, call_of, ticket_of, is_close, is_closed, is_cancelled, is_settled, is_open, after, changed, checked, reply, reply_in, forestalled, found, findings, taking_effect, mutation_only}
use Rattle.ask_history.specs.Checks.{due}
use Rattle.ask_history.specs.Closing.{open_below, open_tickets, settled, after_close}
use Rattle.ask_history.specs.Engine.{EngineState, stopped_state}
use Rattle.ask_history.specs.declared.calls.Call.{Call}
use Rattle.ask_history.specs.declared.answers.Answer.{Answer}
use Rattle.ask_history.specs.declared.answers.Answer.TheVariants as answer
use Rattle.ask_history.specs.declared.script.Order.TheVariants as order
use Rattle.ask_history.specs.declared.events.Mark.TheVariants as mark
use Rattle.ask_history.specs.declared.events.Event.{Event}
use Rattle.ask_history.specs.declared.events.Event.TheVariants.{Close, Settle}
use Rattle.ask_history.proofs.Pushes.{list_any-push, accepted-push}
use Rattle.ask_history.proofs.Shutdowns.{holds-close}
use Rattle.schedule_player.specs.Around.{HasMarks}
use Rattle.schedule_player.specs.Steps.{IsPlaced, PlaysOrder}
use Rattle.schedule_player.specs.SessionState.{SessionState}
use Rattle.schedule_player.specs.InStep.{IsAsked, IsNoted, IsServed, InStep, IsAhead, ChecksInStep, answer_at}
use Rattle.schedule_player.specs.declared.session.Pending.{Pending}
use Rattle.schedule_player.specs.declared.outers.Work.TheVariants.{Passed}
use Rattle.schedule_player.proofs.Pushing.{ticket_of-push, or-none, after-push, checked-push, reply_in-push, findings-push, none_yet}
use Rattle.schedule_player.proofs.Ending.{marks_front}
use Rattle.schedule_player.proofs.Orders.{placed_passed}

module _ (answer_of : Sources → Call → Answer) (problems_of : Sources → Bytes → List Problem) (journal : List Event) where
  -- a later journal says nothing new but that the session is shut down
  record Quiet (now : List Event) : Type 0 where
    names : (k : ℕ) → ticket_of now 0 k ≡ ticket_of journal 0 k
    count : accepted now ≡ accepted journal
    answers : (t : ℕ) → answer_at answer_of now t ≡ answer_at answer_of journal t
    finds : findings problems_of now ≡ findings problems_of journal
    sources : after now ≡ after journal
    checks : checked now ≡ checked journal
    shut : is_closed now ≡ true

  or-true : (b : Bool) → (b || true) ≡ true
  or-true true = refl
  or-true false = refl

  quiet_close : Quiet (journal ++ Close ∷ [])
  quiet_close = record {
    names = λ k. ticket_of-push journal Close 0 k ∙ or-none _;
    count = let more = accepted-push journal Close in more ∙ omega arith;
    answers = λ t. ap (λ o. unwrap_or o answer.Closed) (reply_in-push answer_of t journal Close);
    finds = findings-push problems_of journal Close;
    sources = after-push journal Close;
    checks = checked-push journal Close;
    shut = list_any-push is_close journal Close ∙ or-true (is_closed journal);
  }

  AllClosed : List ℕ → Type 0
  AllClosed [] = Unit {0}
  AllClosed (t ∷ ts) = (answer_at answer_of journal t ≡ answer.Closed) × AllClosed ts

  quiet_one : (now : List Event) (t : ℕ) → Quiet now → answer_at answer_of journal t ≡ answer.Closed → Quiet (now ++ Settle t mark.Done ∷ [])
  quiet_one now t q closed = record {
    names = λ k. ticket_of-push now (Settle t mark.Done) 0 k ∙ or-none _ ∙ q.names k;
    count = let more = accepted-push now (Settle t mark.Done) in more ∙ ap (λ n. n + 0) q.count ∙ omega arith;
    answers = λ u. ap (λ o. unwrap_or o answer.Closed) (reply_in-push answer_of u now (Settle t mark.Done)) ∙ by u (t == u) refl;
    finds = findings-push problems_of now (Settle t mark.Done) ∙ q.finds;
    sources = after-push now (Settle t mark.Done) ∙ ap (changed (after now)) no_effect ∙ q.sources;
    checks = checked-push now (Settle t mark.Done) ∙ ap (λ o. if is_some o then [] else checked now) no_effect ∙ q.checks;
    shut = list_any-push is_close now (Settle t mark.Done) ∙ ap (λ b. b || false) q.shut;
  }
    where
      no_effect : taking_effect now t mark.Done ≡ None
      no_effect = ap (λ b. if is_none (if b then Some answer.Closed else (if is_cancelled now t then Some answer.Cancelled else None)) then mutation_only (call_of now t) else None) q.shut

      replies_closed : (u : ℕ) → reply answer_of now u mark.Done ≡ answer.Closed
      replies_closed u = ap (λ b. unwrap_or (if b then Some answer.Closed else (if is_cancelled now u then Some answer.Cancelled else None)) (found answer_of (after now) (call_of now u))) q.shut

      by : (u : ℕ) (b : Bool) → (t == u) ≡ b → unwrap_or (if t == u then Some (reply answer_of now u mark.Done) else reply_in answer_of now u) answer.Closed ≡ answer_at answer_of journal u
      by u true e =
          ap (λ c. unwrap_or (if c then Some (reply answer_of now u mark.Done) else reply_in answer_of now u) answer.Closed) e ∙ replies_closed u
          ∙ sym (ap (answer_at answer_of journal) (sym (eqb-true t u e)) ∙ closed)
      by u false e = ap (λ c. unwrap_or (if c then Some (reply answer_of now u mark.Done) else reply_in answer_of now u) answer.Closed) e ∙ q.answers u

  quiet_all : (ts : List ℕ) (now : List Event) → Quiet now → AllClosed ts → Quiet (now ++ settled ts)
  unfolding AllClosed
  quiet_all [] now q all = subst Quiet (sym (append-nil now)) q
  quiet_all (t ∷ ts) now q all =
      subst Quiet (append_assoc now (Settle t mark.Done ∷ []) (settled ts)) (quiet_all ts (now ++ Settle t mark.Done ∷ []) (quiet_one now t q all.0) all.1)

  closed_append : (ts us : List ℕ) → AllClosed ts → AllClosed us → AllClosed (ts ++ us)
  unfolding AllClosed
  closed_append [] us a b = b
  closed_append (t ∷ ts) us a b = (a.0, closed_append ts us a.1 b)

  open_closed : (n : ℕ) → AllClosed (open_below journal n)
  unfolding AllClosed
  open_closed zero = tt
  open_closed (suc n) = closed_append (open_below journal n) (if is_open journal n then n ∷ [] else []) (open_closed n) (by (is_open journal n) refl)
    where
      not_true : (b : Bool) → not b ≡ true → b ≡ false
      not_true true k = sym k
      not_true false k = refl

      by : (b : Bool) → is_open journal n ≡ b → AllClosed (if b then n ∷ [] else [])
      by true e =
          (ap (λ o. unwrap_or o answer.Closed) (none_yet answer_of n journal (not_true (is_settled journal n) (and_parts (is_some (call_of journal n)) (not (is_settled journal n)) e).1)), tt)
      by false e = tt

  quiet_shut : is_closed journal ≡ true → Quiet journal
  quiet_shut h = record { names = λ k. refl; count = refl; answers = λ t. refl; finds = refl; sources = refl; checks = refl; shut = h }

  quiet : Quiet (after_close journal)
  quiet = by (is_closed journal) refl
    where
      by : (b : Bool) → is_closed journal ≡ b → Quiet (if b then journal else journal ++ Close ∷ settled (open_tickets journal))
      by true e = quiet_shut e
      by false e = subst Quiet (append_assoc journal (Close ∷ []) (settled (open_tickets journal))) (quiet_all (open_tickets journal) (journal ++ Close ∷ []) quiet_close (open_closed (accepted journal)))

  pub close_finds : findings problems_of (after_close journal) ≡ findings problems_of journal
  close_finds = quiet.finds

module _ (answer_of : Sources → Call → Answer) (problems_of : Sources → Bytes → List Problem) (session : SessionState) (state : EngineState)
    (step : InStep answer_of problems_of session state) where
  said : Quiet answer_of problems_of session.journal (after_close session.journal)
  said = quiet answer_of problems_of session.journal

  pub close_in_step : InStep answer_of problems_of (record session { journal = after_close session.journal; closed = true }) (stopped_state state)
  close_in_step = record {
    holds = holds-close _ session.journal step.holds;
    stacked = step.stacked;
    closed = sym said.shut;
    noted = let n = step.noted in record {
      numbered = λ k. n.numbered k ∙ sym (said.names k);
      counted = n.counted ∙ sym said.count;
      answers = λ t. n.answers t ∙ sym (said.answers t);
      problems = n.problems ∙ sym (ap (map (λ finding. finding.1)) said.finds);
    };
    served = let s = step.served in record {
      fed = refl;
      asked = All-nil (IsAsked (after_close session.journal));
      staged = s.staged;
      sources = s.sources ∙ sym said.sources;
    };
  }

  close_ahead : (found : Option Pending) (names : List Bytes) → IsAhead problems_of session.journal found names → IsAhead problems_of (after_close session.journal) found names
  close_ahead None names h = h ∙ sym said.checks
  close_ahead (Some f) names h = (
    h.0 ∙ ap (λ ns. ns ++ f.file ∷ []) (sym said.checks),
    h.1 ∙ ap (λ files. problems_of files f.file) (sym said.sources),
    h.2,
    (λ j. unchecked (said.checks j) (said.sources j)) ∙ h.3,
  )

  pub close_checks : ChecksInStep problems_of session state → ChecksInStep problems_of (record session { journal = after_close session.journal; closed = true }) (stopped_state state)
  close_checks checks = record { skipped = checks.skipped; ahead = close_ahead session.found state.checked checks.ahead }

close_marks : (without : List ℕ) (journal : List Event) → HasMarks without (after_close journal) → HasMarks without journal
close_marks without journal h = by (is_closed journal) h
  where
    by : (b : Bool) → HasMarks without (if b then journal else journal ++ Close ∷ settled (open_tickets journal)) → HasMarks without journal
    by true k = k
    by false k = marks_front without journal (Close ∷ settled (open_tickets journal)) k

pub close_plays : (old new : SessionState) → new ≡ record old { journal = after_close old.journal; closed = true } → IsPlaced old.outers → PlaysOrder order.Close old new
close_plays old new e placed = record {
  work = Passed;
  outers = ap {A = SessionState} (λ s. s.outers) e ∙ placed_passed old.outers placed;
  number = ap {A = SessionState} (λ s. length s.tickets) e;
  marks = λ without h. close_marks without old.journal (subst (λ s. HasMarks without s.journal) e h);
  plays = λ without parts h. ap {A = SessionState} (λ s. s.journal) (sym e);
}
