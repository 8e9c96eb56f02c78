-- The answers that are kept are the replies.
use Rattle.std.proofs.Common.{◌≡◌, ℕ, zero, suc, ◌<◌, ◌≤◌, ◌+◌, Bool, true, false, not, ◌||◌, ◌&&◌, ◌==◌, if◌then◌else◌, cond, List, [], ◌∷◌, ◌++◌, length, map, take, slice_index_or, Option, Some, None, is_some, unwrap_or, IsTrue, refl, sym, ap, ◌∙◌, subst, arith, append-nil, append_assoc, true≢false}
use Rattle.std.specs.List.{list_any, list_all}
use Rattle.std.proofs.lemmas.Bool.{and_parts, or_parts, eqb-true}
use Rattle.std.proofs.lemmas.List.{map-append, take_more}
use Rattle.std.proofs.lemmas.List.Folds.{list_all-append}
use Rattle.ask_history.specs.Sources.{Sources}
use Rattle.ask_history.specs.Walk.{walk}
use Rattle.ask_history.specs.Journal.{accepted, is_accept, is_closed, tickets, is_settled, settles, reply, reply_step, reply_in, onto, replies_to, replies, all_settled}
use Rattle.ask_history.specs.Legal.{is_legal, may_follow}
use Rattle.ask_history.specs.declared.calls.Call.{Call}
use Rattle.ask_history.specs.declared.answers.Answer.{Answer}
use Rattle.ask_history.specs.declared.answers.Answer.TheVariants as answer
use Rattle.ask_history.specs.declared.events.Event.{Event}
use Rattle.ask_history.specs.declared.events.Event.TheVariants.{Accept, Cancel, Close, Settle, Checked}
use Rattle.ask_history.proofs.Pushes.{accepted-push, legal-induction}
use Rattle.schedule_player.specs.InStep.{answer_at}

-- the numbers below one
upto : ℕ → List ℕ
upto zero = []
upto (suc n) = upto n ++ n ∷ []

ticket_in : Event → List ℕ
ticket_in (Accept ticket client tag call) = ticket ∷ []
ticket_in _ = []

tickets-push : (journal : List Event) (event : Event) → tickets (journal ++ event ∷ []) ≡ tickets journal ++ ticket_in event
unfolding ticket_in
tickets-push [] (Accept ticket client tag call) = refl
tickets-push [] (Cancel ticket) = refl
tickets-push [] Close = refl
tickets-push [] (Settle ticket m) = refl
tickets-push [] (Checked file) = refl
tickets-push (Accept ticket client tag call ∷ journal) event = ap (λ ts. ticket ∷ ts) (tickets-push journal event)
tickets-push (Cancel ticket ∷ journal) event = tickets-push journal event
tickets-push (Close ∷ journal) event = tickets-push journal event
tickets-push (Settle ticket m ∷ journal) event = tickets-push journal event
tickets-push (Checked file ∷ journal) event = tickets-push journal event

Counted : List Event → Type 0
Counted journal = tickets journal ≡ upto (accepted journal)

counted-more : (journal : List Event) (event : Event) → IsTrue (is_legal journal) → IsTrue (may_follow journal event) → Counted journal → Counted (journal ++ event ∷ [])
unfolding Counted upto ticket_in
counted-more journal event legal may counted = tickets-push journal event ∙ by event may ∙ ap upto (sym (accepted-push journal event))
  where
    same : (e : Event) → is_accept e ≡ false → ticket_in e ≡ [] → tickets journal ++ ticket_in e ≡ upto (accepted journal + cond (is_accept e) 1 0)
    same e other none = ap (λ ts. tickets journal ++ ts) none ∙ append-nil (tickets journal) ∙ counted ∙ ap upto (plus_none (accepted journal) ∙ ap (λ b. accepted journal + cond b 1 0) (sym other))
      where
        plus_none : (n : ℕ) → n ≡ n + 0
        plus_none n = omega arith

    by : (e : Event) → IsTrue (may_follow journal e) → tickets journal ++ ticket_in e ≡ upto (accepted journal + cond (is_accept e) 1 0)
    by (Accept ticket client tag call) m =
        let is : ticket ≡ accepted journal = eqb-true ticket (accepted journal) (and_parts (ticket == accepted journal) (not (is_closed journal)) m).0 in
        (λ j. counted j ++ is j ∷ []) ∙ ap upto (plus_one (accepted journal))
      where
        plus_one : (n : ℕ) → suc n ≡ n + 1
        plus_one n = omega arith
    by (Cancel ticket) m = same (Cancel ticket) refl refl
    by Close m = same Close refl refl
    by (Settle ticket mark) m = same (Settle ticket mark) refl refl
    by (Checked file) m = same (Checked file) refl refl

counted_all : (journal : List Event) → IsTrue (is_legal journal) → tickets journal ≡ upto (accepted journal)
unfolding Counted upto
counted_all journal legal = legal-induction Counted counted-more refl journal legal

module _ (answer_of : Sources → Call → Answer) where
  -- a settled ticket has an answer
  some_walk : (events before : List Event) (given : Option Answer) (t : ℕ) → is_some given ≡ true → is_some (walk (reply_step answer_of t) given before events) ≡ true
  some_walk [] before given t h = h
  some_walk (Accept ticket client tag call ∷ events) before given t h = some_walk events _ given t h
  some_walk (Cancel ticket ∷ events) before given t h = some_walk events _ given t h
  some_walk (Close ∷ events) before given t h = some_walk events _ given t h
  some_walk (Settle ticket m ∷ events) before given t h = some_walk events _ _ t (by (ticket == t))
    where
      by : (b : Bool) → is_some (if b then Some (reply answer_of before t m) else given) ≡ true
      by true = refl
      by false = h
  some_walk (Checked file ∷ events) before given t h = some_walk events _ given t h

  settled_walk : (events before : List Event) (given : Option Answer) (t : ℕ) → list_any (settles t) events ≡ true → is_some (walk (reply_step answer_of t) given before events) ≡ true
  settled_walk [] before given t h = absurd (true≢false (sym h))
  settled_walk (Accept ticket client tag call ∷ events) before given t h = settled_walk events _ given t h
  settled_walk (Cancel ticket ∷ events) before given t h = settled_walk events _ given t h
  settled_walk (Close ∷ events) before given t h = settled_walk events _ given t h
  settled_walk (Settle ticket m ∷ events) before given t h = by (ticket == t) refl (λ o. settled_walk events (before ++ Settle ticket m ∷ []) o t)
    where
      by : (b : Bool) → (ticket == t) ≡ b → ((o : Option Answer) → list_any (settles t) events ≡ true → is_some (walk (reply_step answer_of t) o (before ++ Settle ticket m ∷ []) events) ≡ true)
          → is_some (walk (reply_step answer_of t) (if b then Some (reply answer_of before t m) else given) (before ++ Settle ticket m ∷ []) events) ≡ true
      by true e next = some_walk events _ (Some (reply answer_of before t m)) t refl
      by false e next = next given (sym (ap (λ b. b || list_any (settles t) events) e) ∙ h)
  settled_walk (Checked file ∷ events) before given t h = settled_walk events _ given t h

  onto_some : (o : Option Answer) (rest : List Answer) → is_some o ≡ true → onto o rest ≡ unwrap_or o answer.Closed ∷ rest
  onto_some None rest h = absurd (true≢false (sym h))
  onto_some (Some x) rest h = refl

  replies_map : (journal : List Event) (ts : List ℕ) → list_all (is_settled journal) ts ≡ true → replies_to answer_of journal ts ≡ map (answer_at answer_of journal) ts
  replies_map journal [] h = refl
  replies_map journal (t ∷ ts) h =
      let parts = and_parts (is_settled journal t) (list_all (is_settled journal) ts) h in
      onto_some (reply_in answer_of journal t) (replies_to answer_of journal ts) (settled_walk journal [] None t parts.0)
      ∙ ap (λ rest. answer_at answer_of journal t ∷ rest) (replies_map journal ts parts.1)

  front_map : (answers : List Answer) (f : ℕ → Answer) → ((t : ℕ) → slice_index_or answers t answer.Closed ≡ f t) → (n : ℕ) → n ≤ length answers → take n answers ≡ map f (upto n)
  unfolding upto
  front_map answers f same zero h = refl
  front_map answers f same (suc n) h =
      ap (λ k. take k answers) (plus_one n) ∙ take_more answers n answer.Closed (omega arith)
      ∙ (λ j. front_map answers f same n (below n (length answers) h) j ++ same n j ∷ []) ∙ sym (map-append f (upto n) (n ∷ []))
    where
      plus_one : (k : ℕ) → suc k ≡ k + 1
      plus_one k = omega arith

      below : (k m : ℕ) → suc k ≤ m → k ≤ m
      below k m e = omega arith

  pub answers_are_replies : (journal : List Event) (answers : List Answer) → IsTrue (is_legal journal) → all_settled journal ≡ true → length answers ≡ accepted journal
      → ((t : ℕ) → slice_index_or answers t answer.Closed ≡ answer_at answer_of journal t) → answers ≡ replies answer_of journal
  answers_are_replies journal answers legal settled count same =
      sym (take_all answers) ∙ front_map answers (answer_at answer_of journal) same (length answers) (le answers)
      ∙ ap (λ n. map (answer_at answer_of journal) (upto n)) count ∙ ap (map (answer_at answer_of journal)) (sym (counted_all journal legal))
      ∙ sym (replies_map journal (tickets journal) settled)
    where
      take_all : (xs : List Answer) → take (length xs) xs ≡ xs
      take_all [] = refl
      take_all (x ∷ xs) = ap (λ ys. x ∷ ys) (take_all xs)

      le : (xs : List Answer) → length xs ≤ length xs
      le xs = omega arith
