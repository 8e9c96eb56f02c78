-- A shutdown settles every open ticket.
use Rattle.std.proofs.Common.{◌≡◌, ℕ, zero, suc, Bool, true, false, not, ◌||◌, ◌&&◌, if◌then◌else◌, nat_lt, ◌==◌, List, [], ◌∷◌, ◌++◌, IsTrue, is_some, refl, sym, ap, ◌∙◌, subst, append_assoc, append-nil, arith}
use Rattle.std.proofs.Math.Bool.{or-false}
use Rattle.std.specs.List.{list_any}
use Rattle.std.proofs.lemmas.List.{map-append}
use Rattle.std.proofs.lemmas.Bool.{and_from, eqb-true}
use Rattle.std.proofs.lemmas.Bool.Decides.{nat_tests}
use Rattle.ask_history.specs.Journal.{accepted, call_of, is_close, is_closed, is_settled, is_open}
use Rattle.ask_history.specs.Legal.{is_legal}
use Rattle.ask_history.specs.Closing.{open_below, open_tickets, settled, after_close}
use Rattle.ask_history.specs.declared.events.Mark.TheVariants as mark
use Rattle.ask_history.specs.declared.events.Event.{Event}
use Rattle.ask_history.specs.declared.events.Event.TheVariants.{Close, Settle}
use Rattle.ask_history.proofs.Pushes.{list_any-push, is_legal-push, is_some-call_of}
use Rattle.ask_history.proofs.Underway.{Holds, waits, prompt-push, may_settle, is_open-push, is_open-settle}

and-true : (b : Bool) → (b && true) ≡ b
and-true true = refl
and-true false = refl

module _ (under : List ℕ) (journal : List Event) (h : Holds under journal) (shut : is_closed journal ≡ false) where
  abbrev closing : ℕ → List Event
  closing n = (journal ++ Close ∷ []) ++ settled (open_below journal n)

  -- the open tickets below n are settled
  record IsClosing (n : ℕ) (now : List Event) : Type 0 where
    legal : IsTrue (is_legal now)
    prompt : list_any (waits now) now ≡ false
    closed : is_closed now ≡ true
    opens : (t : ℕ) → is_open now t ≡ (is_open journal t && not (nat_lt t n))

  or-true : (b : Bool) → (b || true) ≡ true
  or-true true = refl
  or-true false = refl

  start : IsClosing 0 (journal ++ Close ∷ [])
  start = record {
    legal = is_legal-push journal Close h.legal (ap not shut);
    prompt = prompt-push journal Close h.prompt refl;
    closed = list_any-push is_close journal Close ∙ or-true (is_closed journal);
    opens = λ t. is_open-push journal Close t
        ∙ (λ j. or-false (is_some (call_of journal t)) j && not (or-false (is_settled journal t) j))
        ∙ sym (ap (λ b. is_open journal t && not b) (not_below t) ∙ and-true (is_open journal t));
  }
    where
      not_below : (t : ℕ) → nat_lt t 0 ≡ false
      not_below t = grind (arith, nat_tests)

  below_next : (t n : ℕ) → nat_lt t (suc n) ≡ (nat_lt t n || (n == t))
  below_next t n = grind (arith, nat_tests)

  one_more : (o l e : Bool) → ((o && not l) && not e) ≡ (o && not (l || e))
  one_more true true e = refl
  one_more true false e = refl
  one_more false l e = refl

  none_more : (o l e : Bool) → (e ≡ true → o ≡ false) → (o && not l) ≡ (o && not (l || e))
  none_more false l e h = refl
  none_more true true e h = refl
  none_more true false true h = h refl
  none_more true false false h = refl

  next_true : (n : ℕ) (now : List Event) → IsClosing n now → is_open journal n ≡ true → IsClosing (suc n) (now ++ Settle n mark.Done ∷ [])
  next_true n now c o = record {
    legal = is_legal-push now (Settle n mark.Done) c.legal (may_settle now n c.prompt (c.opens n ∙ and_from _ _ o (ap not (not_less n))) mark.Done);
    prompt = prompt-push now (Settle n mark.Done) c.prompt refl;
    closed = list_any-push is_close now (Settle n mark.Done) ∙ ap (λ b. b || false) c.closed;
    opens = λ t. is_open-settle now n mark.Done t ∙ ap (λ b. b && not (n == t)) (c.opens t) ∙ one_more (is_open journal t) (nat_lt t n) (n == t)
        ∙ ap (λ b. is_open journal t && not b) (sym (below_next t n));
  }
    where
      not_less : (k : ℕ) → nat_lt k k ≡ false
      not_less k = grind (arith, nat_tests)

  next_false : (n : ℕ) (now : List Event) → IsClosing n now → is_open journal n ≡ false → IsClosing (suc n) now
  next_false n now c o = record {
    legal = c.legal;
    prompt = c.prompt;
    closed = c.closed;
    opens = λ t. c.opens t ∙ none_more (is_open journal t) (nat_lt t n) (n == t) (here t) ∙ ap (λ b. is_open journal t && not b) (sym (below_next t n));
  }
    where
      here : (t : ℕ) → (n == t) ≡ true → is_open journal t ≡ false
      here t e = let same : t ≡ n = sym (eqb-true n t e) in ap (is_open journal) same ∙ o

  closing_to : (n : ℕ) → IsClosing n (closing n)
  closing_to zero = subst (IsClosing 0) (sym (append-nil (journal ++ Close ∷ []))) start
  closing_to (suc n) = by (is_open journal n) refl (closing_to n)
    where
      by : (b : Bool) → is_open journal n ≡ b → IsClosing n (closing n)
          → IsClosing (suc n) ((journal ++ Close ∷ []) ++ settled (open_below journal n ++ (if b then n ∷ [] else [])))
      by true o c =
          subst (IsClosing (suc n))
          (append_assoc (journal ++ Close ∷ []) (settled (open_below journal n)) (Settle n mark.Done ∷ [])
          ∙ ap (λ es. (journal ++ Close ∷ []) ++ es) (sym (map-append (λ t. Settle t mark.Done) (open_below journal n) (n ∷ []))))
          (next_true n (closing n) c o)
      by false o c = subst (λ ts. IsClosing (suc n) ((journal ++ Close ∷ []) ++ settled ts)) (sym (append-nil (open_below journal n))) (next_false n (closing n) c o)

  holds-closing : Holds under (closing (accepted journal))
  holds-closing = let c = closing_to (accepted journal) in record {
    legal = c.legal;
    prompt = c.prompt;
    opens = λ t. c.opens t ∙ ap (λ b. (b && not (is_settled journal t)) && not (nat_lt t (accepted journal))) (is_some-call_of journal h.legal t)
        ∙ none (nat_lt t (accepted journal)) (is_settled journal t) ∙ ap (λ b. not b && list_any (λ u. u == t) under) (sym c.closed);
  }
    where
      none : (l s : Bool) → ((l && not s) && not l) ≡ false
      none true true = refl
      none true false = refl
      none false s = refl

  holds-now : Holds under (journal ++ Close ∷ settled (open_tickets journal))
  holds-now = subst (Holds under) (append_assoc journal (Close ∷ []) (settled (open_tickets journal))) holds-closing

pub holds-close : (under : List ℕ) (journal : List Event) → Holds under journal → Holds under (after_close journal)
holds-close under journal h = by (is_closed journal) refl
  where
    by : (b : Bool) → is_closed journal ≡ b → Holds under (if b then journal else journal ++ Close ∷ settled (open_tickets journal))
    by true e = h
    by false e = holds-now under journal h e
