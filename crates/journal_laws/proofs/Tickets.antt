-- In a legal journal each ticket is accepted once.
use Rattle.std.proofs.Common.{◌≡◌, ℕ, ◌<◌, true, false, true≢false, not, ◌&&◌, ◌==◌, if◌then◌else◌, IsTrue, List, [], ◌∷◌, ◌++◌, Option, Some, None, is_some, refl, sym, ap, ◌∙◌, subst, arith, append_assoc}
use Rattle.std.proofs.lemmas.Bool.{and_parts, eqb-true}
use Rattle.std.proofs.lemmas.Bool.Decides.{nat_tests}
use Rattle.ask_history.specs.Journal.{accepted, call_of, call_under, first_of_two, is_closed}
use Rattle.ask_history.specs.Legal.{may_follow, is_legal}
use Rattle.ask_history.specs.declared.calls.Call.{Call}
use Rattle.ask_history.specs.declared.events.Event.{Event}
use Rattle.ask_history.specs.declared.events.Event.TheVariants.{Accept, Cancel, Close, Settle, Checked}
use Rattle.ask_history.proofs.Accepted.{next_unaccepted}
use Rattle.ask_history.proofs.Pushes.{accepted-push, call_of-append}
use Rattle.ask_history.proofs.Walks.{along-push, is_legal-prefix}

pub may_last : (journal : List Event) (event : Event) → IsTrue (is_legal (journal ++ event ∷ [])) → IsTrue (is_legal journal) × IsTrue (may_follow journal event)
may_last journal event legal =
    and_parts (is_legal journal) (may_follow journal event) (sym (along-push (λ b l e. l && may_follow b e) true journal event) ∙ legal)

-- the first event behind a legal journal
pub may_first : (journal : List Event) (event : Event) (events : List Event) → IsTrue (is_legal (journal ++ event ∷ events))
    → IsTrue (is_legal journal) × IsTrue (may_follow journal event)
may_first journal event events legal =
    may_last journal event
    (is_legal-prefix (journal ++ event ∷ []) events (subst (λ js. IsTrue (is_legal js)) (sym (append_assoc journal (event ∷ []) events)) legal))

accept_next : (journal : List Event) (t client tag : ℕ) (call : Call) → IsTrue (may_follow journal (Accept t client tag call)) → t ≡ accepted journal
accept_next journal t client tag call may = eqb-true t (accepted journal) (and_parts (t == accepted journal) (not (is_closed journal)) may).0

none_of : (o : Option Call) → is_some o ≡ false → o ≡ None
none_of None h = refl
none_of (Some call) h = absurd (true≢false h)

module _ (front back : List Event) (t client tag : ℕ) (call : Call) (legal : IsTrue (is_legal (front ++ Accept t client tag call ∷ back))) where
  pub none_before : is_some (call_of front t) ≡ false
  none_before =
      let first = may_first front (Accept t client tag call) back legal in
      let same : t ≡ accepted front = accept_next front t client tag call first.1 in
      next_unaccepted front first.0 t (omega arith)

  pub one_call : call_of (front ++ Accept t client tag call ∷ back) t ≡ Some call
  one_call =
      call_of-append front (Accept t client tag call ∷ back) t
      ∙ ap (λ o. first_of_two o (first_of_two (if t == t then Some call else None) (call_of back t))) (none_of (call_of front t) none_before)
      ∙ ap (λ b. first_of_two (if b then Some call else None) (call_of back t)) own
    where
      own : (t == t) ≡ true
      own = grind (arith, nat_tests)

-- no ticket below the number of accepted calls is accepted behind
none_further : (before back : List Event) (t : ℕ) → t < accepted before → IsTrue (is_legal (before ++ back)) → is_some (call_of back t) ≡ false
none_further before [] t within legal = refl
none_further before (event ∷ back) t within legal =
    let first = may_first before event back legal in
    let legal' : IsTrue (is_legal ((before ++ event ∷ []) ++ back)) = subst (λ js. IsTrue (is_legal js)) (sym (append_assoc before (event ∷ []) back)) legal in
    ap (λ o. is_some (first_of_two o (call_of back t))) (apart event first.1)
    ∙ none_further (before ++ event ∷ []) back t (omega (arith, accepted-push before event)) legal'
  where
    apart : (e : Event) → IsTrue (may_follow before e) → call_under t e ≡ None
    apart (Accept ticket client tag call) may =
        let same : ticket ≡ accepted before = accept_next before ticket client tag call may in
        ap (λ b. if b then Some call else None) (other ticket same)
      where
        other : (k : ℕ) → k ≡ accepted before → (k == t) ≡ false
        other k e = grind (arith, nat_tests)
    apart (Cancel ticket) may = refl
    apart Close may = refl
    apart (Settle ticket mark) may = refl
    apart (Checked file) may = refl

pub none_behind : (front back : List Event) (t client tag : ℕ) (call : Call) → IsTrue (is_legal (front ++ Accept t client tag call ∷ back)) → is_some (call_of back t) ≡ false
none_behind front back t client tag call legal =
    let first = may_first front (Accept t client tag call) back legal in
    let same : t ≡ accepted front = accept_next front t client tag call first.1 in
    none_further (front ++ Accept t client tag call ∷ []) back t (omega (arith, accepted-push front (Accept t client tag call)))
    (subst (λ js. IsTrue (is_legal js)) (sym (append_assoc front (Accept t client tag call ∷ []) back)) legal)
