-- Which tickets may be settled.
use Rattle.std.proofs.Common.{◌≡◌, ℕ, ◌+◌, ◌≤◌, Bool, true, false, true≢false, not, ◌||◌, ◌&&◌, ◌==◌, nat_lt, IsTrue, List, [], ◌∷◌, ◌++◌, Some, refl, sym, ap, ◌∙◌, subst, arith, append_assoc}
use Rattle.std.specs.List.{list_any}
use Rattle.std.proofs.lemmas.Bool.{and_parts, eqb-true}
use Rattle.std.proofs.lemmas.Bool.Decides.{nat_tests}
use Rattle.ask_history.specs.Sources.{is_mutation}
use Rattle.ask_history.specs.Journal.{accepted, call_of, is_closed, is_settled, settles}
use Rattle.ask_history.specs.Legal.{holds_back, is_next, may_follow, is_legal}
use Rattle.ask_history.specs.declared.calls.Call.{Call}
use Rattle.ask_history.specs.declared.events.Event.{Event}
use Rattle.ask_history.specs.declared.events.Event.TheVariants.{Accept, Cancel, Close, Settle, Checked}
use Rattle.ask_history.proofs.Pushes.{list_any-push}
use Rattle.journal_laws.proofs.Tickets.{one_call}

not_true : (b : Bool) → not b ≡ true → b ≡ false
not_true true h = sym h
not_true false h = refl

or_false : (b c : Bool) → b ≡ false → c ≡ false → (b || c) ≡ false
or_false true c h k = h
or_false false c h k = k

or_left : (b c : Bool) → (b || c) ≡ false → b ≡ false
or_left true c h = h
or_left false c h = refl

or_right : (b c : Bool) → (b || c) ≡ false → c ≡ false
or_right true c h = absurd (true≢false h)
or_right false c h = h

-- a mutation below t is held back where it is not settled, and one below a larger ticket too
less_held : (a b m s : Bool) → (a ≡ true → b ≡ true) → ((b && m) && s) ≡ false → ((a && m) && s) ≡ false
less_held false b m s h k = refl
less_held true b m s h k = (λ j. (sym (h refl) j && m) && s) ∙ k

below_from : (journal events : List Event) (t u : ℕ) → t ≤ u → list_any (holds_back journal u) events ≡ false → list_any (holds_back journal t) events ≡ false
below_from journal [] t u h k = refl
below_from journal (Accept ticket client tag call ∷ events) t u h k =
    or_false _ _ (less_held (nat_lt ticket t) (nat_lt ticket u) (is_mutation call) (not (is_settled journal ticket)) less (or_left _ _ k))
    (below_from journal events t u h (or_right _ _ k))
  where
    less : nat_lt ticket t ≡ true → nat_lt ticket u ≡ true
    less e = grind (arith, nat_tests)
below_from journal (Cancel ticket ∷ events) t u h k = below_from journal events t u h k
below_from journal (Close ∷ events) t u h k = below_from journal events t u h k
below_from journal (Settle ticket mark ∷ events) t u h k = below_from journal events t u h k
below_from journal (Checked file ∷ events) t u h k = below_from journal events t u h k

pub next_below : (journal : List Event) (t u : ℕ) → t ≤ u → IsTrue (is_next journal u) → IsTrue (is_next journal t)
next_below journal t u h k = ap not (below_from journal journal t u h (not_true _ k))

-- ---- behind an event

-- who is settled stays settled, and so holds back nobody
settled_held : (a s v : Bool) → (a && not s) ≡ false → (a && not (s || v)) ≡ false
settled_held false s v h = refl
settled_held true true v h = refl
settled_held true false v h = absurd (true≢false h)

kept_from : (journal : List Event) (event : Event) (t : ℕ) (events : List Event) → list_any (holds_back journal t) events ≡ false
    → list_any (holds_back (journal ++ event ∷ []) t) events ≡ false
kept_from journal event t [] h = refl
kept_from journal event t (Accept ticket client tag call ∷ events) h =
    or_false _ _
    (ap (λ b. (nat_lt ticket t && is_mutation call) && not b) (list_any-push (settles ticket) journal event)
    ∙ settled_held (nat_lt ticket t && is_mutation call) (is_settled journal ticket) (settles ticket event) (or_left _ _ h))
    (kept_from journal event t events (or_right _ _ h))
kept_from journal event t (Cancel ticket ∷ events) h = kept_from journal event t events h
kept_from journal event t (Close ∷ events) h = kept_from journal event t events h
kept_from journal event t (Settle ticket mark ∷ events) h = kept_from journal event t events h
kept_from journal event t (Checked file ∷ events) h = kept_from journal event t events h

-- the event itself holds nobody back that was accepted, or is next
held_none : (journal : List Event) (event : Event) (t : ℕ) → IsTrue (may_follow journal event) → t ≤ accepted journal → holds_back (journal ++ event ∷ []) t event ≡ false
held_none journal (Accept ticket client tag call) t may within =
    ap (λ b. (b && is_mutation call) && not (is_settled (journal ++ Accept ticket client tag call ∷ []) ticket)) apart
  where
    same : ticket ≡ accepted journal
    same = eqb-true ticket (accepted journal) (and_parts (ticket == accepted journal) (not (is_closed journal)) may).0

    apart : nat_lt ticket t ≡ false
    apart = grind (arith, nat_tests)
held_none journal (Cancel ticket) t may within = refl
held_none journal Close t may within = refl
held_none journal (Settle ticket mark) t may within = refl
held_none journal (Checked file) t may within = refl

pub next_kept : (journal : List Event) (event : Event) (t : ℕ) → IsTrue (may_follow journal event) → t ≤ accepted journal → IsTrue (is_next journal t)
    → IsTrue (is_next (journal ++ event ∷ []) t)
next_kept journal event t may within h =
    ap not
    (list_any-push (holds_back (journal ++ event ∷ []) t) journal event
    ∙ or_false _ _ (kept_from journal event t journal (not_true _ h)) (held_none journal event t may within))

-- ---- the next ticket

-- below t + 1 is t, or below t
at_most : (ticket t : ℕ) → nat_lt ticket (t + 1) ≡ (nat_lt ticket t || (ticket == t))
at_most ticket t = grind (arith, nat_tests)

held_more : (l e m s : Bool) → ((l && m) && s) ≡ false → (e ≡ true → (m && s) ≡ false) → (((l || e) && m) && s) ≡ false
held_more true e m s h k = h
held_more false true m s h k = k refl
held_more false false m s h k = refl

more_from : (journal : List Event) (t : ℕ) → ((client tag : ℕ) (call : Call) → (front back : List Event) → front ++ Accept t client tag call ∷ back ≡ journal → (is_mutation call && not (is_settled journal t)) ≡ false)
    → (front back : List Event) → front ++ back ≡ journal → list_any (holds_back journal t) back ≡ false → list_any (holds_back journal (t + 1)) back ≡ false
more_from journal t here front [] is h = refl
more_from journal t here front (Accept ticket client tag call ∷ back) is h =
    or_false _ _
    (ap (λ b. (b && is_mutation call) && not (is_settled journal ticket)) (at_most ticket t)
    ∙ held_more (nat_lt ticket t) (ticket == t) (is_mutation call) (not (is_settled journal ticket)) (or_left _ _ h) at)
    (more_from journal t here (front ++ Accept ticket client tag call ∷ []) back (append_assoc front (Accept ticket client tag call ∷ []) back ∙ is) (or_right _ _ h))
  where
    at : (ticket == t) ≡ true → (is_mutation call && not (is_settled journal ticket)) ≡ false
    at e =
        let same : ticket ≡ t = eqb-true ticket t e in
        ap (λ n. is_mutation call && not (is_settled journal n)) same
        ∙ here client tag call front back (ap (λ n. front ++ Accept n client tag call ∷ back) (sym same) ∙ is)
more_from journal t here front (Cancel ticket ∷ back) is h = more_from journal t here (front ++ Cancel ticket ∷ []) back (append_assoc front (Cancel ticket ∷ []) back ∙ is) h
more_from journal t here front (Close ∷ back) is h = more_from journal t here (front ++ Close ∷ []) back (append_assoc front (Close ∷ []) back ∙ is) h
more_from journal t here front (Settle ticket mark ∷ back) is h =
    more_from journal t here (front ++ Settle ticket mark ∷ []) back (append_assoc front (Settle ticket mark ∷ []) back ∙ is) h
more_from journal t here front (Checked file ∷ back) is h = more_from journal t here (front ++ Checked file ∷ []) back (append_assoc front (Checked file ∷ []) back ∙ is) h

pub next_settled : (journal : List Event) (t : ℕ) → IsTrue (is_next journal t) → IsTrue (is_settled journal t) → IsTrue (is_next journal (t + 1))
next_settled journal t h settled = ap not (more_from journal t (λ client tag call front back is. none (is_mutation call)) [] journal refl (not_true _ h))
  where
    none : (m : Bool) → (m && not (is_settled journal t)) ≡ false
    none true = ap not settled
    none false = refl

pub next_ask : (journal : List Event) (t : ℕ) (call : Call) → IsTrue (is_legal journal) → IsTrue (is_next journal t) → call_of journal t ≡ Some call
    → is_mutation call ≡ false → IsTrue (is_next journal (t + 1))
next_ask journal t call legal h is ask = ap not (more_from journal t none [] journal refl (not_true _ h))
  where
    none : (client tag : ℕ) (other : Call) (front back : List Event) → front ++ Accept t client tag other ∷ back ≡ journal → (is_mutation other && not (is_settled journal t)) ≡ false
    none client tag other front back at =
        let legal' : IsTrue (is_legal (front ++ Accept t client tag other ∷ back)) = subst (λ js. IsTrue (is_legal js)) (sym at) legal in
        let own : Some other ≡ Some call = sym (one_call front back t client tag other legal') ∙ ap (λ js. call_of js t) at ∙ is in
        let same : other ≡ call = cc in
        ap (λ c. is_mutation c && not (is_settled journal t)) same ∙ ap (λ b. b && not (is_settled journal t)) ask
