-- What a client holds of its calls, step by step.
use Rattle.std.proofs.Common.{◌≡◌, ◌⊎◌, inl, inr, ℕ, zero, suc, ◌+◌, ◌<◌, Bool, true, false, ◌||◌, ◌&&◌, ◌==◌, if◌then◌else◌, IsTrue, List, [], ◌∷◌, ◌++◌, length, Option, Some, None, refl, sym, ap, ◌∙◌, subst, arith, append_assoc, append-nil}
use Rattle.std.specs.List.{slice_get}
use Rattle.std.specs.Option.{option_or}
use Rattle.std.proofs.lemmas.Bool.{eqb-true, eq-eqb}
use Rattle.std.proofs.lemmas.Bool.Decides.{nat_tests}
use Rattle.std.proofs.lemmas.List.{length-append, length-take-le, set-get_or, set_split, set-set}
use Rattle.std.proofs.lemmas.Option.{slice_get-get_or}
use Rattle.std.proofs.Common.{take, drop, get_or, set}
use Rattle.ask_history.specs.Journal.{accepted, ticket_of}
use Rattle.ask_history.specs.Legal.{is_legal}
use Rattle.ask_history.specs.declared.answers.Answer.{Answer}
use Rattle.ask_history.specs.declared.calls.Call.{Call}
use Rattle.ask_history.specs.declared.events.Event.TheVariants.{Accept}
use Rattle.ask_history.proofs.Pushes.{accepted-push}
use Rattle.client_scripts.specs.declared.client.Held.{Held}
use Rattle.client_scripts.specs.declared.client.Held.TheVariants.{Due, Had}
use Rattle.client_scripts.specs.Clients.{calls_of}
use Rattle.client_scripts.specs.History.{Entry, journal_of, signed_journal, answer_of}
use Rattle.client_scripts.specs.Passes.{PassState, seeing, has, made_by, Writes, IsDue}
use Rattle.client_scripts.specs.Holding.{ticket_at, Holds, IsHolding, CanReceive, Gives, CancelsAt, ReceivesAt}
use Rattle.client_scripts.proofs.Histories.{journal_of-append, none_theirs, Silent, silent-append, more_calls, more_ticket, more_accepted, more_answer, more_taker, ticket_stays, signed_settled, answer_settled, signed-append, calls_of-append, ticket_of-append}

-- what a pass has seen behind what it wrote
pub writes_more : (old new : PassState) (before entries : List Entry) → (w : Writes old before entries new) → new ≡ seeing old (old.history ++ (w.later.others ++ entries))
writes_more old new before entries w =
    w.written ∙ ap (λ es. seeing old (es ++ entries)) w.later.behind ∙ ap (seeing old) (append_assoc old.history w.later.others entries)

pub writes_silent : (old new : PassState) (before entries : List Entry) → (w : Writes old before entries new) → Silent old.number entries → Silent old.number (w.later.others ++ entries)
writes_silent old new before entries w silent = silent-append old.number w.later.others entries (none_theirs old.number w.later.others w.later.theirs) silent

get-push : {X : Type 0} (xs : List X) (x y : X) (i : ℕ) → slice_get (xs ++ x ∷ []) i ≡ Some y → (slice_get xs i ≡ Some y) ⊎ ((i ≡ length xs) × (x ≡ y))
get-push [] x y zero h = inr (refl, cc)
get-push [] x y (suc i) h = cc
get-push (z ∷ xs) x y zero h = inl h
get-push (z ∷ xs) x y (suc i) h = by (get-push xs x y i h)
  where
    by : (slice_get xs i ≡ Some y) ⊎ ((i ≡ length xs) × (x ≡ y)) → (slice_get xs i ≡ Some y) ⊎ ((suc i ≡ suc (length xs)) × (x ≡ y))
    by (inl e) = inl e
    by (inr e) = inr (ap suc e.0, e.1)

-- a list with another element in one place
get-other : {X : Type 0} (front back : List X) (x y z : X) (i : ℕ) → slice_get (front ++ y ∷ back) i ≡ Some z
    → ((i ≡ length front) × (y ≡ z)) ⊎ ((i ≡ length front → ⊥) × (slice_get (front ++ x ∷ back) i ≡ Some z))
get-other [] back x y z zero h = inl (refl, cc)
get-other [] back x y z (suc i) h = inr ((λ e. omega arith), h)
get-other (w ∷ front) back x y z zero h = inr ((λ e. omega arith), h)
get-other (w ∷ front) back x y z (suc i) h = by (get-other front back x y z i h)
  where
    by : ((i ≡ length front) × (y ≡ z)) ⊎ ((i ≡ length front → ⊥) × (slice_get (front ++ x ∷ back) i ≡ Some z))
        → ((suc i ≡ suc (length front)) × (y ≡ z)) ⊎ ((suc i ≡ suc (length front) → ⊥) × (slice_get (front ++ x ∷ back) i ≡ Some z))
    by (inl e) = inl (ap suc e.0, e.1)
    by (inr e) = inr ((λ k. e.0 (omega arith)), e.1)

get-at : {X : Type 0} (front back : List X) (x : X) → slice_get (front ++ x ∷ back) (length front) ≡ Some x
get-at [] back x = refl
get-at (y ∷ front) back x = get-at front back x

-- what was taken from a place of a list
pub at_place : {X : Type 0} (xs : List X) (i : ℕ) (x : X) {y : X} → x ≡ y → y ≡ get_or xs i y → x ≡ get_or xs i x
at_place xs i x same e = same ∙ e ∙ ap (λ z. get_or xs i z) (sym same)

module _ {T : Type 0} (number_of : T → ℕ) where
  pub due_more : (pass : PassState) (more : List Entry) (t : ℕ) → IsDue pass t → IsDue (seeing pass (pass.history ++ more)) t
  due_more pass more t h = record { mine = more_taker pass.history more t pass.number h.mine; fresh = h.fresh }

  holds_more : (pass : PassState) (more : List Entry) (o : Option ℕ) (one : Held T) → Holds number_of pass o one → Holds number_of (seeing pass (pass.history ++ more)) o one
  holds_more pass more None one h = h
  holds_more pass more (Some t) (Due ticket) h = (h.0, due_more pass more t h.1)
  holds_more pass more (Some t) (Had found) h = more_answer pass.history more t found h

  pub holding_more : (pass : PassState) (more : List Entry) (held : List (Held T)) → Silent pass.number more → IsTrue (is_legal (journal_of (pass.history ++ more)))
      → IsHolding number_of pass held → IsHolding number_of (seeing pass (pass.history ++ more)) held
  holding_more pass more held silent legal h =
      let same : (i : ℕ) → ticket_at (seeing pass (pass.history ++ more)) i ≡ ticket_at pass i = λ i. more_ticket pass.number pass.history more silent (i + 1) in
      record {
        legal = legal;
        counted = h.counted ∙ sym (ap length (more_calls pass.number pass.history more silent));
        each = λ index one is.
            subst (λ o. Holds number_of (seeing pass (pass.history ++ more)) o one) (sym (same index)) (holds_more pass more (ticket_at pass index) one (h.each index one is));
        apart = λ i j t a b. h.apart i j t (sym (same i) ∙ a) (sym (same j) ∙ b);
        below = λ i t a. let b = h.below i t (sym (same i) ∙ a) in let m = more_accepted pass.history more in omega arith;
      }

  pub holding_writes : (old new : PassState) (before entries : List Entry) (held : List (Held T)) → Writes old before entries new → Silent old.number entries
      → IsHolding number_of old held → IsHolding number_of new held
  holding_writes old new before entries held w silent h =
      let same = writes_more old new before entries w in
      subst (λ p. IsHolding number_of p held) (sym same)
      (holding_more old (w.later.others ++ entries) held (writes_silent old new before entries w silent)
      (subst (λ p. IsTrue (is_legal (journal_of p.history))) same w.legal) h)

  -- ---- an answer

  other_has : (tickets : List ℕ) (t u : ℕ) → (t ≡ u → ⊥) → has tickets u ≡ false → has (t ∷ tickets) u ≡ false
  other_has tickets t u apart h = ap (λ b. b || has tickets u) (by (t == u) refl) ∙ h
    where
      by : (b : Bool) → (t == u) ≡ b → b ≡ false
      by true e = absurd (apart (eqb-true t u e))
      by false e = refl

  -- a pass that was handed the answer of a ticket, behind what others did
  abbrev pub handed : PassState → List Entry → ℕ → PassState
  handed old more ticket = record { number = old.number; history = old.history ++ more; got = ticket ∷ old.got }

  holds_handed : (old : PassState) (more : List Entry) (ticket : ℕ) (o : Option ℕ) (one : Held T) → (o ≡ Some ticket → ⊥) → Holds number_of old o one
      → Holds number_of (handed old more ticket) o one
  holds_handed old more ticket None one apart h = h
  holds_handed old more ticket (Some t) (Due other) apart h = (
    h.0,
    record {
      mine = more_taker old.history more t old.number h.1.mine;
      fresh = other_has old.got ticket t (λ e. apart (ap Some (sym e))) h.1.fresh;
    },
  )
  holds_handed old more ticket (Some t) (Had answer) apart h = more_answer old.history more t answer h

  pub holds_due : (pass : PassState) (o : Option ℕ) (ticket : T) → Holds number_of pass o (Due ticket) → (o ≡ Some (number_of ticket)) × IsDue pass (number_of ticket)
  holds_due pass None ticket h = absurd h
  holds_due pass (Some t) ticket h = (ap Some (sym h.0), subst (IsDue pass) (sym h.0) h.1)

  pub holds_had : (pass : PassState) (o : Option ℕ) (found : Answer) → Holds number_of pass o (Had found) → (t : ℕ) × (o ≡ Some t) × (answer_of pass.history t ≡ Some found)
  holds_had pass None found h = absurd h
  holds_had pass (Some t) found h = (t, refl, h)

  module _ (old : PassState) (more : List Entry) (ticket : T) (found : Answer) (front back : List (Held T)) (silent : Silent old.number more)
      (legal : IsTrue (is_legal (journal_of (old.history ++ more)))) (h : IsHolding number_of old (front ++ Due ticket ∷ back))
      (answered : answer_of (old.history ++ more) (number_of ticket) ≡ Some found) where
    abbrev now : PassState
    now = handed old more (number_of ticket)

    same_at : (i : ℕ) → ticket_at now i ≡ ticket_at old i
    same_at i = more_ticket old.number old.history more silent (i + 1)

    here : ticket_at old (length front) ≡ Some (number_of ticket)
    here = (holds_due old (ticket_at old (length front)) ticket (h.each (length front) (Due ticket) (get-at front back (Due ticket)))).0

    holds_each : (index : ℕ) (one : Held T) → ((index ≡ length front) × (Had found ≡ one)) ⊎ ((index ≡ length front → ⊥) × (slice_get (front ++ Due ticket ∷ back) index ≡ Some one))
        → Holds number_of now (ticket_at now index) one
    holds_each index one (inl e) =
        subst (Holds number_of now (ticket_at now index)) e.1
        (subst (λ o. Holds number_of now o (Had found)) (sym (same_at index ∙ ap (ticket_at old) e.0 ∙ here)) answered)
    holds_each index one (inr e) =
        subst (λ o. Holds number_of now o one) (sym (same_at index))
        (holds_handed old more (number_of ticket) (ticket_at old index) one (λ k. e.0 (h.apart index (length front) (number_of ticket) k here)) (h.each index one e.1))

    pub holding_handed : IsHolding number_of now (front ++ Had found ∷ back)
    holding_handed = record {
      legal = legal;
      counted = length-append front (Had found ∷ back) ∙ sym (length-append front (Due ticket ∷ back)) ∙ h.counted ∙ sym (ap length (more_calls old.number old.history more silent));
      each = λ index one is. holds_each index one (get-other front back (Due ticket) (Had found) one index is);
      apart = λ i j t a b. h.apart i j t (sym (same_at i) ∙ a) (sym (same_at j) ∙ b);
      below = λ i t a. let b = h.below i t (sym (same_at i) ∙ a) in let m = more_accepted old.history more in omega arith;
    }

  -- what was received stands in its place
  pub holding_given : (old new : PassState) (front back : List (Held T)) (one : Held T) (found : Answer) → IsHolding number_of old (front ++ one ∷ back)
      → Gives number_of old new one found → IsHolding number_of new (front ++ Had found ∷ back)
  holding_given old new front back (Due ticket) found h r =
      let same : new ≡ handed old r.later.others (number_of ticket) = r.got ∙ ap (λ (es : List Entry). record { number = old.number; history = es; got = number_of ticket ∷ old.got }) r.later.behind in
      subst (λ p. IsHolding number_of p (front ++ Had found ∷ back)) (sym same)
      (holding_handed old r.later.others ticket found front back (none_theirs old.number r.later.others r.later.theirs)
      (subst (λ es. IsTrue (is_legal (journal_of es))) r.later.behind r.later.legal) h
      (subst (λ es. answer_of es (number_of ticket) ≡ Some found) r.later.behind r.answered))
  holding_given old new front back (Had answer) found h r =
      subst (λ p. IsHolding number_of p (front ++ Had found ∷ back)) (sym r.0) (subst (λ a. IsHolding number_of old (front ++ Had a ∷ back)) (sym r.1) h)

  -- and its call is settled
  pub given_received : (old new : PassState) (front back : List (Held T)) (one : Held T) (found : Answer) → IsHolding number_of old (front ++ one ∷ back)
      → Gives number_of old new one found → ReceivesAt old new (length front)
  given_received old new front back (Due ticket) found h r =
      let due = holds_due old (ticket_at old (length front)) ticket (h.each (length front) (Due ticket) (get-at front back (Due ticket))) in
      record {
        ticket = number_of ticket;
        is = due.0;
        rests = inr (record {
          later = r.later;
          written = ap (λ (p : PassState). record { number = p.number; history = p.history; got = old.got }) r.got ∙ ap (seeing old) (sym (append-nil new.history));
          legal = r.later.legal;
        });
        settled = signed_settled new.history (number_of ticket) ∙ answer_settled new.history (number_of ticket) found r.answered;
      }
  given_received old new front back (Had answer) found h r =
      let had = holds_had old (ticket_at old (length front)) answer (h.each (length front) (Had answer) (get-at front back (Had answer))) in
      record {
        ticket = had.0;
        is = had.1;
        rests = inl (ap (λ (p : PassState). record { number = p.number; history = p.history; got = old.got }) r.0);
        settled = signed_settled new.history had.0 ∙ answer_settled new.history had.0 answer (subst (λ (p : PassState). answer_of p.history had.0 ≡ Some answer) (sym r.0) had.2);
      }

  -- ---- an accepted call

  module _ (old : PassState) (ticket : T) (t tag : ℕ) (call : Call) (held : List (Held T)) (h : IsHolding number_of old held) where
    abbrev entry : Entry
    entry = made_by old.number (Accept t old.number tag call)

    abbrev then_ : PassState
    then_ = seeing old (old.history ++ entry ∷ [])

    module _ (next : t ≡ accepted (journal_of old.history)) (number : tag ≡ length held + 1) (none : ticket_of (signed_journal old.history) old.number tag ≡ None)
        (legal : IsTrue (is_legal (journal_of (old.history ++ entry ∷ [])))) (is : number_of ticket ≡ t) (due : IsDue then_ t) where
      own : (k : ℕ) → (k == k) ≡ true
      own k = grind (arith, nat_tests)

      at_then : (i : ℕ) → ticket_at then_ i ≡ option_or (ticket_at old i) (if tag == i + 1 then Some t else None)
      at_then i =
          ap (λ js. ticket_of js old.number (i + 1)) (signed-append old.history (entry ∷ []))
          ∙ ticket_of-append (signed_journal old.history) (signed_journal (entry ∷ [])) old.number (i + 1)
          ∙ ap (option_or (ticket_at old i)) (only (old.number == old.number) (own old.number))
        where
          none_more : (o : Option ℕ) → option_or o None ≡ o
          none_more None = refl
          none_more (Some u) = refl

          only : (b : Bool) → b ≡ true → option_or (if b && (tag == i + 1) then Some t else None) None ≡ (if tag == i + 1 then Some t else None)
          only b e = none_more (if b && (tag == i + 1) then Some t else None) ∙ ap (λ x. if x && (tag == i + 1) then Some t else None) e

      -- a ticket is one of before, or the new one
      new_or_old : (i u : ℕ) → ticket_at then_ i ≡ Some u → (ticket_at old i ≡ Some u) ⊎ ((i + 1 ≡ tag) × (u ≡ t))
      new_or_old i u e = by (ticket_at old i) (tag == i + 1) refl (sym (at_then i) ∙ e)
        where
          by : (o : Option ℕ) (b : Bool) → (tag == i + 1) ≡ b → option_or o (if b then Some t else None) ≡ Some u → (o ≡ Some u) ⊎ ((i + 1 ≡ tag) × (u ≡ t))
          by (Some v) b k m = inl m
          by None true k m = inr (sym (eqb-true tag (i + 1) k), cc)
          by None false k m = cc

      stays : (i u : ℕ) → ticket_at old i ≡ Some u → ticket_at then_ i ≡ Some u
      stays i u e = ticket_stays old.number old.history (entry ∷ []) (i + 1) u e

      fresh_at : ticket_at then_ (length held) ≡ Some t
      fresh_at =
          at_then (length held)
          ∙ (λ j. option_or (ap (ticket_of (signed_journal old.history) old.number) (sym number) j) (if tag == length held + 1 then Some t else None))
          ∙ ap (λ o. option_or o (if tag == length held + 1 then Some t else None)) none
          ∙ ap (λ b. if b then Some t else None) (eq-eqb tag (length held + 1) number)

      holds_then : (o : Option ℕ) (one : Held T) → Holds number_of old o one → Holds number_of then_ o one
      holds_then o one k = holds_more old (entry ∷ []) o one k

      some_of : (o : Option ℕ) (one : Held T) → Holds number_of old o one → (u : ℕ) × (o ≡ Some u)
      some_of None one k = absurd k
      some_of (Some u) one k = (u, refl)

      each_then : (index : ℕ) (one : Held T) → (slice_get held index ≡ Some one) ⊎ ((index ≡ length held) × (Due ticket ≡ one)) → Holds number_of then_ (ticket_at then_ index) one
      each_then index one (inl e) =
          let old_one = h.each index one e in
          let some = some_of (ticket_at old index) one old_one in
          subst (λ o. Holds number_of then_ o one) (some.1 ∙ sym (stays index some.0 some.1)) (holds_then (ticket_at old index) one old_one)
      each_then index one (inr e) =
          subst (Holds number_of then_ (ticket_at then_ index)) e.1
          (subst (λ o. Holds number_of then_ o (Due ticket)) (sym (ap (ticket_at then_) e.0 ∙ fresh_at)) (is, due))

      both_apart : (i j u : ℕ) → (ticket_at old i ≡ Some u) ⊎ ((i + 1 ≡ tag) × (u ≡ t)) → (ticket_at old j ≡ Some u) ⊎ ((j + 1 ≡ tag) × (u ≡ t)) → i ≡ j
      both_apart i j u (inl a) (inl b) = h.apart i j u a b
      both_apart i j u (inl a) (inr b) = let m = h.below i u a in let e = b.1 in absurd (omega arith)
      both_apart i j u (inr a) (inl b) = let m = h.below j u b in let e = a.1 in absurd (omega arith)
      both_apart i j u (inr a) (inr b) = let e = a.0 in let f = b.0 in omega arith

      more_by_one : accepted (journal_of (old.history ++ entry ∷ [])) ≡ accepted (journal_of old.history) + 1
      more_by_one = ap accepted (journal_of-append old.history (entry ∷ [])) ∙ accepted-push (journal_of old.history) (Accept t old.number tag call)

      below_then : (i u : ℕ) → (ticket_at old i ≡ Some u) ⊎ ((i + 1 ≡ tag) × (u ≡ t)) → u < accepted (journal_of (old.history ++ entry ∷ []))
      below_then i u (inl a) = let m = h.below i u a in let e = more_by_one in omega arith
      below_then i u (inr a) = let m = a.1 in let e = more_by_one in omega arith

      pub calls_then : calls_of old.number (signed_journal (old.history ++ entry ∷ [])) ≡ calls_of old.number (signed_journal old.history) ++ (tag, call) ∷ []
      calls_then =
          ap (calls_of old.number) (signed-append old.history (entry ∷ [])) ∙ calls_of-append old.number (signed_journal old.history) (signed_journal (entry ∷ []))
          ∙ ap (λ b. calls_of old.number (signed_journal old.history) ++ ((if b then (tag, call) ∷ [] else []) ++ [])) (own old.number)

      pub holding_accepted : IsHolding number_of then_ (held ++ Due ticket ∷ [])
      holding_accepted = record {
        legal = legal;
        counted = let c = h.counted in let d = length-append held (Due ticket ∷ []) in
            let e = ap length calls_then ∙ length-append (calls_of old.number (signed_journal old.history)) ((tag, call) ∷ []) in omega arith;
        each = λ index one at. each_then index one (get-push held (Due ticket) one index at);
        apart = λ i j u a b. both_apart i j u (new_or_old i u a) (new_or_old j u b);
        below = λ i u a. below_then i u (new_or_old i u a);
      }

  -- ---- a place of the list

  at_index : (held : List (Held T)) (index : ℕ) (one : Held T) → index < length held → one ≡ get_or held index one → held ≡ take index held ++ one ∷ drop (suc index) held
  at_index held index one within e =
      sym (set-get_or held index one) ∙ set_split held index (get_or held index one) within ∙ ap (λ y. take index held ++ y ∷ drop (suc index) held) (sym e)

  pub holds_at : (pass : PassState) (held : List (Held T)) (index : ℕ) (one : Held T) → IsHolding number_of pass held → index < length held → one ≡ get_or held index one
      → Holds number_of pass (ticket_at pass index) one
  holds_at pass held index one h within e = h.each index one (slice_get-get_or held index one within ∙ ap Some (sym e))

  pub can_receive : (pass : PassState) (held : List (Held T)) (index : ℕ) (one : Held T) → IsHolding number_of pass held → index < length held → one ≡ get_or held index one
      → CanReceive number_of pass one
  can_receive pass held index one h within e = by one (holds_at pass held index one h within e)
    where
      by : (x : Held T) → Holds number_of pass (ticket_at pass index) x → CanReceive number_of pass x
      by (Due ticket) k = (holds_due pass (ticket_at pass index) ticket k).1
      by (Had found) k = tt

  pub receive_holding : (old new : PassState) (held : List (Held T)) (index : ℕ) (one other : Held T) (found : Answer) → IsHolding number_of old held → index < length held
      → one ≡ get_or held index one → Gives number_of old new one found → IsHolding number_of new (set (set held index other) index (Had found))
  receive_holding old new held index one other found h within e r =
      subst (IsHolding number_of new) (sym (set-set held index other (Had found) ∙ set_split held index (Had found) within))
      (holding_given old new (take index held) (drop (suc index) held) one found (subst (IsHolding number_of old) (at_index held index one within e) h) r)

  pub receive_received : (old new : PassState) (held : List (Held T)) (index : ℕ) (one : Held T) (found : Answer) → IsHolding number_of old held → index < length held
      → one ≡ get_or held index one → Gives number_of old new one found → ReceivesAt old new index
  receive_received old new held index one found h within e r =
      subst (ReceivesAt old new) (length-take-le index held (omega arith))
      (given_received old new (take index held) (drop (suc index) held) one found (subst (IsHolding number_of old) (at_index held index one within e) h) r)

  pub due_at : (pass : PassState) (held : List (Held T)) (index : ℕ) (one : Held T) (ticket : T) → IsHolding number_of pass held → index < length held → one ≡ get_or held index one
      → one ≡ Due ticket → (ticket_at pass index ≡ Some (number_of ticket)) × IsDue pass (number_of ticket)
  due_at pass held index one ticket h within e is =
      holds_due pass (ticket_at pass index) ticket (subst (Holds number_of pass (ticket_at pass index)) is (holds_at pass held index one h within e))

  pub cancels_had : (pass : PassState) (held : List (Held T)) (index : ℕ) (one : Held T) (found : Answer) → IsHolding number_of pass held → index < length held → one ≡ get_or held index one
      → one ≡ Had found → CancelsAt pass pass index
  cancels_had pass held index one found h within e is =
      let had = holds_had pass (ticket_at pass index) found (subst (Holds number_of pass (ticket_at pass index)) is (holds_at pass held index one h within e)) in
      record { ticket = had.0; is = had.1; done = inr (refl, signed_settled pass.history had.0 ∙ answer_settled pass.history had.0 found had.2) }
