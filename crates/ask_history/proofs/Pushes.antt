-- What the definitions say of a journal that has one event more.
use Rattle.std.proofs.Common.{◌≡◌, ℕ, ◌+◌, Bool, true, false, ◌||◌, ◌&&◌, cond, if◌then◌else◌, nat_lt, ◌==◌, not, List, [], ◌∷◌, ◌++◌, IsTrue, Option, Some, None, is_some, refl, sym, ap, ◌∙◌, subst, zero-add, add-zero, append_assoc, append-nil, arith}
use Rattle.std.proofs.Math.Bool.{or-false}
use Rattle.std.specs.List.{list_any}
use Rattle.std.proofs.lemmas.List.Folds.{list_any-append}
use Rattle.std.proofs.lemmas.List.Sums.{sum_by-append}
use Rattle.std.proofs.lemmas.Bool.{and_parts, eqb-true}
use Rattle.std.proofs.lemmas.Bool.Decides.{nat_tests}
use Rattle.ask_history.specs.Journal.{call_of, call_under, first_of_two, accepted, is_accept, is_closed}
use Rattle.ask_history.specs.Legal.{may_follow, is_legal}
use Rattle.ask_history.specs.declared.calls.Call.{Call}
use Rattle.ask_history.specs.declared.events.Event.{Event}
use Rattle.ask_history.specs.declared.events.Event.TheVariants.{Accept, Cancel, Close, Settle, Checked}
use Rattle.ask_history.proofs.Walks.{along-push, is_legal-prefix}

-- any test of the events, as those for a shutdown, a cancel and a settling
pub list_any-push : (test : Event → Bool) (journal : List Event) (event : Event)
    → list_any test (journal ++ event ∷ []) ≡ (list_any test journal || test event)
list_any-push test journal event =
    list_any-append test journal (event ∷ []) ∙ ap (λ b. list_any test journal || b) (or-false (test event))

pub accepted-push : (journal : List Event) (event : Event)
    → accepted (journal ++ event ∷ []) ≡ accepted journal + cond (is_accept event) 1 0
accepted-push journal event =
    sum_by-append (λ e. cond (is_accept e) 1 0) journal (event ∷ []) ∙ ap (λ n. accepted journal + n) (zero-add (cond (is_accept event) 1 0))

two-assoc : (a b c : Option Call) → first_of_two a (first_of_two b c) ≡ first_of_two (first_of_two a b) c
two-assoc None b c = refl
two-assoc (Some call) b c = refl

pub two-none : (a : Option Call) → first_of_two a None ≡ a
two-none None = refl
two-none (Some call) = refl

pub call_of-push : (journal : List Event) (event : Event) (t : ℕ)
    → call_of (journal ++ event ∷ []) t ≡ first_of_two (call_of journal t) (call_under t event)
call_of-push [] event t = two-none (call_under t event)
call_of-push (first ∷ journal) event t =
    ap (first_of_two (call_under t first)) (call_of-push journal event t) ∙ two-assoc (call_under t first) (call_of journal t) (call_under t event)

both : (a b : Bool) → IsTrue a → IsTrue b → IsTrue (a && b)
both true b h k = k
both false b h k = h

pub is_legal-push : (journal : List Event) (event : Event)
    → IsTrue (is_legal journal) → IsTrue (may_follow journal event) → IsTrue (is_legal (journal ++ event ∷ []))
is_legal-push journal event h k =
    subst IsTrue (sym (along-push (λ before legal e. legal && may_follow before e) true journal event)) (both (is_legal journal) (may_follow journal event) h k)

-- What holds of the empty journal and stays where an event may follow holds of every legal journal.
module _ (P : List Event → Type 0) (more : (journal : List Event) (event : Event) → IsTrue (is_legal journal) → IsTrue (may_follow journal event) → P journal → P (journal ++ event ∷ [])) where
  from_prefix : (rest before : List Event) → IsTrue (is_legal before) → P before → IsTrue (is_legal (before ++ rest)) → P (before ++ rest)
  from_prefix [] before legal holds h = subst P (sym (append-nil before)) holds
  from_prefix (event ∷ rest) before legal holds h =
      let same : (before ++ event ∷ []) ++ rest ≡ before ++ event ∷ rest = append_assoc before (event ∷ []) rest in
      let all : IsTrue (is_legal ((before ++ event ∷ []) ++ rest)) = subst (λ js. IsTrue (is_legal js)) (sym same) h in
      let front : IsTrue (is_legal (before ++ event ∷ [])) = is_legal-prefix (before ++ event ∷ []) rest all in
      let may : IsTrue (may_follow before event) =
      (and_parts (is_legal before) (may_follow before event) (sym (along-push (λ b l e. l && may_follow b e) true before event) ∙ front)).1 in
      subst P same (from_prefix rest (before ++ event ∷ []) front (more before event legal may holds) all)

  pub legal-induction : P [] → (journal : List Event) → IsTrue (is_legal journal) → P journal
  legal-induction none journal legal = from_prefix journal [] refl none legal

-- The tickets number the accepted calls from 0.
Numbered : List Event → Type 0
Numbered journal = (t : ℕ) → is_some (call_of journal t) ≡ nat_lt t (accepted journal)

numbered-more : (journal : List Event) (event : Event) → IsTrue (is_legal journal) → IsTrue (may_follow journal event) → Numbered journal → Numbered (journal ++ event ∷ [])
unfolding Numbered
numbered-more journal event legal may numbered t =
    ap is_some (call_of-push journal event t) ∙ by event may ∙ ap (λ n. nat_lt t n) (sym (accepted-push journal event))
  where
    some-two : (a b : Option Call) → is_some (first_of_two a b) ≡ (is_some a || is_some b)
    some-two None b = refl
    some-two (Some call) b = refl

    below_next : (n k : ℕ) → (nat_lt k n || (n == k)) ≡ nat_lt k (n + 1)
    below_next n k = grind (arith, nat_tests)

    some-under : (b : Bool) (call : Call) → is_some (if b then Some call else None) ≡ b
    some-under true call = refl
    some-under false call = refl

    same : (event : Event) → call_under t event ≡ None → is_accept event ≡ false
        → is_some (first_of_two (call_of journal t) (call_under t event)) ≡ nat_lt t (accepted journal + cond (is_accept event) 1 0)
    same event none other = ap (λ o. is_some (first_of_two (call_of journal t) o)) none ∙ ap is_some (two-none (call_of journal t)) ∙ numbered t
        ∙ ap (λ n. nat_lt t n) (sym (add-zero (accepted journal))) ∙ ap (λ b. nat_lt t (accepted journal + cond b 1 0)) (sym other)

    by : (event : Event) → IsTrue (may_follow journal event)
        → is_some (first_of_two (call_of journal t) (call_under t event)) ≡ nat_lt t (accepted journal + cond (is_accept event) 1 0)
    by (Accept ticket client tag call) h =
        let next : ticket ≡ accepted journal = eqb-true ticket (accepted journal) (and_parts (ticket == accepted journal) (not (is_closed journal)) h).0 in
        some-two (call_of journal t) (if ticket == t then Some call else None)
        ∙ (λ j. numbered t j || some-under (ticket == t) call j)
        ∙ ap (λ n. nat_lt t (accepted journal) || (n == t)) next
        ∙ below_next (accepted journal) t
    by (Cancel ticket) h = same (Cancel ticket) refl refl
    by Close h = same Close refl refl
    by (Settle ticket m) h = same (Settle ticket m) refl refl
    by (Checked file) h = same (Checked file) refl refl

pub is_some-call_of : (journal : List Event) → IsTrue (is_legal journal) → (t : ℕ) → is_some (call_of journal t) ≡ nat_lt t (accepted journal)
unfolding Numbered
is_some-call_of journal legal = legal-induction Numbered numbered-more none journal legal
  where
    none : (t : ℕ) → false ≡ nat_lt t 0
    none t = grind (arith, nat_tests)

-- the call of a ticket in two journals, one after the other
pub call_of-append : (front rest : List Event) (t : ℕ) → call_of (front ++ rest) t ≡ first_of_two (call_of front t) (call_of rest t)
call_of-append [] rest t = refl
call_of-append (first ∷ front) rest t =
    ap (first_of_two (call_under t first)) (call_of-append front rest t) ∙ two-assoc (call_under t first) (call_of front t) (call_of rest t)
