-- A queue stays one where events are appended that accept no call.
use Rattle.std.proofs.Common.{◌≡◌, ℕ, ◌+◌, ◌<◌, ◌≤◌, Bool, true, false, not, ◌||◌, ◌&&◌, cond, if◌then◌else◌, nat_lt, List, [], ◌∷◌, ◌++◌, length, Some, None, is_some, IsTrue, refl, sym, ap, ◌∙◌, subst, arith, add-zero, append-nil, append_assoc}
use Rattle.std.specs.List.{position_from}
use Rattle.std.proofs.Math.Bool.{or-false}
use Rattle.std.proofs.lemmas.Bool.{and_parts, and_from, false_from_ne_true, eq-eqb}
use Rattle.std.proofs.lemmas.Bool.Decides.{nat_tests}
use Rattle.std.proofs.lemmas.List.Concat.{flat_map-append}
use Rattle.std.proofs.lemmas.List.Sums.{sum_by-append}
use Rattle.ask_history.specs.Sources.{Bytes}
use Rattle.ask_history.specs.Journal.{accepted, is_accept, is_close, is_closed, is_cancelled, is_settled, is_open, call_of, call_under, first_of_two}
use Rattle.ask_history.specs.Engine.{HasFileSizes, has_file_names}
use Rattle.ask_history.specs.Legal.{is_legal, may_follow}
use Rattle.ask_history.specs.declared.calls.Call.{Call}
use Rattle.ask_history.specs.declared.events.Mark.TheVariants as mark
use Rattle.ask_history.specs.declared.events.Event.{Event}
use Rattle.ask_history.specs.declared.events.Event.TheVariants.{Accept, Cancel, Close, Settle, Checked}
use Rattle.ask_history.proofs.Pushes.{list_any-push, accepted-push, call_of-push, call_of-append, two-none, is_some-call_of}
use Rattle.ask_history.proofs.Orders.{is_settled-append}
use Rattle.work_queue.specs.Indexes.{close_index, cancel_index}
use Rattle.work_queue.specs.Closing.{settled, open_below}
use Rattle.work_queue.specs.Reloads.{reloads, reloaded_in}
use Rattle.work_queue.specs.Tally.{IsTally}
use Rattle.work_queue.specs.QueueFacts.{IsQueue}
use Rattle.work_queue.specs.declared.usage.Usage.{Usage}
use Rattle.work_queue.specs.declared.tally.Tally.{Tally}
use Rattle.work_queue.specs.declared.queue.Queue.TheInside.{Inside}
use Rattle.work_queue.proofs.EventIndexes.{index_of-first, list_any-index_of}
use Rattle.work_queue.proofs.Noting.{none_from}
use Rattle.work_queue.proofs.Tickets.{not-false, is_cancelled-cancel_index}

pub reloads-push : (journal : List Event) (event : Event) → reloads (journal ++ event ∷ []) ≡ reloads journal ++ reloaded_in event
reloads-push journal event = flat_map-append reloaded_in journal (event ∷ []) ∙ ap (λ es. reloads journal ++ es) (append-nil (reloaded_in event))

call_under-none : (t : ℕ) (event : Event) → is_accept event ≡ false → call_under t event ≡ None
call_under-none t (Accept ticket client tag call) h = cc
call_under-none t (Cancel ticket) h = refl
call_under-none t Close h = refl
call_under-none t (Settle ticket m) h = refl
call_under-none t (Checked file) h = refl

pub is_closed-push : (journal : List Event) (event : Event) → is_close event ≡ false → is_closed (journal ++ event ∷ []) ≡ is_closed journal
is_closed-push journal event no_close = list_any-push is_close journal event ∙ ap (λ b. is_closed journal || b) no_close ∙ or-false (is_closed journal)

module _ (old : Inside) (kept : IsQueue old) where
  -- an event that accepts no call, and is not the shutdown
  pub queue-push : (event : Event) (journal : List Event) → journal ≡ old.log ++ event ∷ [] → is_accept event ≡ false → is_close event ≡ false → reloaded_in event ≡ []
      → IsTrue (is_legal journal) → IsQueue (record { log = journal; tally = old.tally; limits = old.limits; given = old.given })
  queue-push event journal is no_accept no_close no_reload legal =
      let count : accepted journal ≡ accepted old.log =
      ap accepted is ∙ accepted-push old.log event ∙ ap (λ b. accepted old.log + cond b 1 0) no_accept ∙ add-zero (accepted old.log) in
      let pairs : reloads journal ≡ reloads old.log =
      ap reloads is ∙ reloads-push old.log event ∙ ap (λ es. reloads old.log ++ es) no_reload ∙ append-nil (reloads old.log) in
      let calls_same : (t : ℕ) → call_of journal t ≡ call_of old.log t =
      λ t. ap (λ js. call_of js t) is ∙ call_of-push old.log event t ∙ ap (first_of_two (call_of old.log t)) (call_under-none t event no_accept) ∙ two-none (call_of old.log t) in
      let given = kept.given in
      let calls = kept.calls in
      record {
        legal = legal;
        answered = λ closed t within.
            ap (λ js. is_settled js t) is
            ∙ is_settled-append old.log t (event ∷ []) (kept.answered (sym (ap is_closed is ∙ is_closed-push old.log event no_close) ∙ closed) t (omega arith));
        given = omega arith;
        within = kept.within;
        tally = subst (λ es. IsTally es old.tally) (sym pairs) kept.tally;
        sizes = λ t call there. kept.sizes t call (sym (calls_same t) ∙ there);
        named = λ t call there. kept.named t call (sym (calls_same t) ∙ there);
        calls = omega arith;
        text = kept.text;
        names = kept.names;
        map = kept.map;
      }

  -- a ticket that is open is accepted, and the session is not shut down
  pub open_accepted : (t : ℕ) → IsTrue (is_open old.log t) → t < accepted old.log
  open_accepted t unanswered =
      less (sym (is_some-call_of old.log kept.legal t) ∙ (and_parts (is_some (call_of old.log t)) (not (is_settled old.log t)) unanswered).0)
    where
      less : nat_lt t (accepted old.log) ≡ true → t < accepted old.log
      less h = grind (arith, nat_tests)

  pub open_unclosed : (t : ℕ) → IsTrue (is_open old.log t) → is_closed old.log ≡ false
  open_unclosed t unanswered =
      false_from_ne_true (is_closed old.log) (λ closed.
      let there : is_settled old.log t ≡ true = kept.answered closed t (open_accepted t unanswered) in
      let not_there : is_settled old.log t ≡ false =
      not-false (is_settled old.log t) (and_parts (is_some (call_of old.log t)) (not (is_settled old.log t)) unanswered).1 in
      cc)

  -- an open ticket that is not cancelled may be
  pub may_cancel : (t : ℕ) → IsTrue (is_open old.log t) → cancel_index old.log t ≡ None → IsTrue (may_follow old.log (Cancel t))
  may_cancel t unanswered none =
      and_from (is_open old.log t && not (is_cancelled old.log t)) (not (is_closed old.log))
      (and_from (is_open old.log t) (not (is_cancelled old.log t)) unanswered (ap not (is_cancelled-cancel_index old.log t ∙ ap is_some none)))
      (ap not (open_unclosed t unanswered))

module _ {X : Type 0} (test : X → Bool) where
  position_from-append : (from : ℕ) (xs ys : List X) (p : ℕ) → position_from test from xs ≡ Some p → position_from test from (xs ++ ys) ≡ Some p
  position_from-append from [] ys p h = cc
  position_from-append from (x ∷ xs) ys p h = by (test x) h (position_from-append (from + 1) xs ys p)
    where
      by : (b : Bool) → cond b (Some from) (position_from test (from + 1) xs) ≡ Some p
          → (position_from test (from + 1) xs ≡ Some p → position_from test (from + 1) (xs ++ ys) ≡ Some p)
          → cond b (Some from) (position_from test (from + 1) (xs ++ ys)) ≡ Some p
      by true e rest = e
      by false e rest = rest e

-- settled tickets accept nothing
accepted-settled : (tickets : List ℕ) → accepted (settled tickets) ≡ 0
accepted-settled [] = refl
accepted-settled (t ∷ tickets) =
    sum_by-append (λ e. cond (is_accept e) 1 0) (Settle t mark.Done ∷ []) (settled tickets)
    ∙ ap (λ n. accepted (Settle t mark.Done ∷ []) + n) (accepted-settled tickets)

call_of-settled : (tickets : List ℕ) (t : ℕ) → call_of (settled tickets) t ≡ None
call_of-settled [] t = refl
call_of-settled (ticket ∷ tickets) t = call_of-settled tickets t

reloads-settled : (tickets : List ℕ) → reloads (settled tickets) ≡ []
reloads-settled [] = refl
reloads-settled (t ∷ tickets) = reloads-settled tickets

pub close_index-unclosed : (journal : List Event) → close_index journal ≡ None → is_closed journal ≡ false
close_index-unclosed journal none = list_any-index_of is_close journal ∙ ap is_some none

module _ (old : Inside) (kept : IsQueue old) (unclosed : is_closed old.log ≡ false) (journal : List Event)
    (is : journal ≡ old.log ++ Close ∷ settled (open_below old.log (accepted old.log))) where
  pub close_index-closed : close_index journal ≡ Some (length old.log)
  close_index-closed =
      let none = none_from (close_index old.log) (sym (list_any-index_of is_close old.log) ∙ unclosed) in
      ap close_index (is ∙ sym (append_assoc old.log (Close ∷ []) (settled (open_below old.log (accepted old.log)))))
      ∙ position_from-append is_close 0 (old.log ++ Close ∷ []) (settled (open_below old.log (accepted old.log))) (length old.log) (index_of-first is_close old.log Close none refl)

  pub queue-close : ((t : ℕ) → t < accepted journal → is_settled journal t ≡ true) → IsTrue (is_legal journal)
      → IsQueue (record { log = journal; tally = old.tally; limits = old.limits; given = old.given })
  queue-close answered legal =
      let rest = settled (open_below old.log (accepted old.log)) in
      let more : accepted (Close ∷ rest) ≡ 0 = sum_by-append (λ e. cond (is_accept e) 1 0) (Close ∷ []) rest ∙ ap (λ n. accepted (Close ∷ []) + n) (accepted-settled (open_below old.log (accepted old.log))) in
      let count : accepted journal ≡ accepted old.log =
      ap accepted is ∙ sum_by-append (λ e. cond (is_accept e) 1 0) old.log (Close ∷ rest) ∙ ap (λ n. accepted old.log + n) more ∙ add-zero (accepted old.log) in
      let pairs : reloads journal ≡ reloads old.log =
      ap reloads is ∙ flat_map-append reloaded_in old.log (Close ∷ rest) ∙ ap (λ es. reloads old.log ++ es) (reloads-settled (open_below old.log (accepted old.log)))
      ∙ append-nil (reloads old.log) in
      let calls_same : (t : ℕ) → call_of journal t ≡ call_of old.log t =
      λ t. ap (λ js. call_of js t) is ∙ call_of-append old.log (Close ∷ rest) t
      ∙ ap (first_of_two (call_of old.log t)) (call_of-settled (open_below old.log (accepted old.log)) t) ∙ two-none (call_of old.log t) in
      let given = kept.given in
      let calls = kept.calls in
      record {
        legal = legal;
        answered = λ closed. answered;
        given = omega arith;
        within = kept.within;
        tally = subst (λ es. IsTally es old.tally) (sym pairs) kept.tally;
        sizes = λ t call there. kept.sizes t call (sym (calls_same t) ∙ there);
        named = λ t call there. kept.named t call (sym (calls_same t) ∙ there);
        calls = omega arith;
        text = kept.text;
        names = kept.names;
        map = kept.map;
      }

module _ (old : Inside) (kept : IsQueue old) where
  -- room that is made for names, and no event
  pub queue-room : (tally : Tally) (journal : List Event) → journal ≡ old.log → ((before : List (Bytes × Bytes)) → IsTally before old.tally → IsTally before tally)
      → IsQueue (record { log = journal; tally = tally; limits = old.limits; given = old.given })
  queue-room tally journal is same =
      let now = same (reloads old.log) kept.tally in
      let usage : tally.usage ≡ old.tally.usage = now.usage ∙ sym kept.tally.usage in
      record {
        legal = subst (λ js. IsTrue (is_legal js)) (sym is) kept.legal;
        answered = subst (λ js. is_closed js ≡ true → (t : ℕ) → t < accepted js → is_settled js t ≡ true) (sym is) kept.answered;
        given = subst (λ js. old.given ≤ accepted js) (sym is) kept.given;
        within = kept.within;
        tally = subst (λ js. IsTally (reloads js) tally) (sym is) now;
        sizes = subst (λ js. (t : ℕ) (call : Call) → call_of js t ≡ Some call → HasFileSizes call) (sym is) kept.sizes;
        named = subst (λ js. (t : ℕ) (call : Call) → call_of js t ≡ Some call → has_file_names call ≡ true) (sym is) kept.named;
        calls = subst (λ js. accepted js ≤ old.limits.calls) (sym is) kept.calls;
        text = subst (λ (u : Usage). u.text ≤ old.limits.text) (sym usage) kept.text;
        names = subst (λ (u : Usage). u.names ≤ old.limits.names) (sym usage) kept.names;
        map = subst (λ (u : Usage). u.map ≤ old.limits.map) (sym usage) kept.map;
      }

  -- the call of a ticket that is just accepted
  pub call_of-accepted : (journal : List Event) (ticket client tag : ℕ) (call found : Call) → journal ≡ old.log ++ Accept ticket client tag call ∷ []
      → ticket ≡ accepted old.log → call_of journal ticket ≡ Some found → found ≡ call
  call_of-accepted journal ticket client tag call found is next there =
      let none : call_of old.log ticket ≡ None = none_from (call_of old.log ticket) (is_some-call_of old.log kept.legal ticket ∙ no_less) in
      let all : call_of journal ticket ≡ Some call =
      ap (λ js. call_of js ticket) is ∙ call_of-push old.log (Accept ticket client tag call) ticket
      ∙ ap (λ o. first_of_two o (call_under ticket (Accept ticket client tag call))) none
      ∙ ap (λ b. if b then Some call else None) (eq-eqb ticket ticket refl) in
      cc
    where
      no_less : nat_lt ticket (accepted old.log) ≡ false
      no_less = grind (arith, nat_tests)
