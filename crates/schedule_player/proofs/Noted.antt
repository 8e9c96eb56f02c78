-- What is kept beside a journal, after one event more.
use Rattle.std.proofs.Common.{◌≡◌, ℕ, zero, suc, ◌<◌, ◌≤◌, ◌+◌, Bool, true, false, not, ◌||◌, ◌&&◌, ◌==◌, cond, if◌then◌else◌, List, [], ◌∷◌, ◌++◌, length, map, slice_index_or, slice_set, Option, Some, None, unwrap_or, refl, sym, ap, ◌∙◌, subst, arith}
use Rattle.std.specs.Option.{option_or}
use Rattle.std.proofs.lemmas.Bool.{eq-eqb, eqb-true, eqb-false}
use Rattle.std.proofs.lemmas.Bool.Decides.{nat_tests}
use Rattle.std.proofs.lemmas.List.{map-append, length-append, get_or-set_same, get_or-set_other, length-set, get_or_append_left, get_or_past, get_or_push}
use Rattle.pc_terms.specs.declared.problems.Problem.{Problem}
use Rattle.ask_history.specs.Sources.{Bytes, Sources}
use Rattle.ask_history.specs.Journal.{accepted, ticket_of, is_accept, ticket_under, settles, reply, reply_in, after, findings}
use Rattle.ask_history.specs.declared.calls.Call.{Call}
use Rattle.ask_history.specs.declared.answers.Answer.{Answer}
use Rattle.ask_history.specs.declared.answers.Answer.TheVariants as answer
use Rattle.ask_history.specs.declared.events.Mark.{Mark}
use Rattle.ask_history.specs.declared.events.Event.{Event}
use Rattle.ask_history.specs.declared.events.Event.TheVariants.{Accept, Cancel, Close, Settle, Checked}
use Rattle.ask_history.proofs.Pushes.{accepted-push}
use Rattle.schedule_player.specs.SessionState.{SessionState}
use Rattle.schedule_player.specs.InStep.{answer_at, IsNoted}
use Rattle.schedule_player.proofs.Pushing.{ticket_of-push, or-none, reply_in-push, findings-push}

-- a default at the end of a list changes nothing that is read with that default
default_push : {A : Type 0} (xs : List A) (d : A) (n : ℕ) → slice_index_or (xs ++ d ∷ []) n d ≡ slice_index_or xs n d
default_push [] d zero = refl
default_push [] d (suc n) = refl
default_push (x ∷ xs) d zero = refl
default_push (x ∷ xs) d (suc n) = default_push xs d n

zero_suc : (n : ℕ) → (0 == suc n) ≡ false
zero_suc n = grind (arith, nat_tests)

suc_suc : (m n : ℕ) → (suc m == suc n) ≡ (m == n)
suc_suc m n = grind (arith, nat_tests)

suc_zero : (n : ℕ) → (suc n == 0) ≡ false
suc_zero n = grind (arith, nat_tests)

-- one more at the end
index_push : {A : Type 0} (xs : List (Option A)) (x : A) (n : ℕ) → slice_index_or xs (length xs) None ≡ None
    → slice_index_or (xs ++ Some x ∷ []) n None ≡ option_or (slice_index_or xs n None) (if length xs == n then Some x else None)
index_push [] x zero h = refl
index_push [] x (suc n) h = sym (ap (λ b. if b then Some x else None) (zero_suc n))
index_push (None ∷ xs) x zero h = sym (ap (λ b. if b then Some x else None) (suc_zero (length xs)))
index_push (Some y ∷ xs) x zero h = refl
index_push (y ∷ xs) x (suc n) h =
    index_push xs x n h ∙ sym (ap (λ b. option_or (slice_index_or xs n None) (if b then Some x else None)) (suc_suc (length xs) n))

past : {A : Type 0} (xs : List (Option A)) → slice_index_or xs (length xs) None ≡ None
past [] = refl
past (x ∷ xs) = past xs

module _ (answer_of : Sources → Call → Answer) (problems_of : Sources → Bytes → List Problem) (session : SessionState) (noted : IsNoted answer_of problems_of session) where
  abbrev pub with_event : Event → SessionState
  with_event event = record session { journal = session.journal ++ event ∷ [] }

  -- an event that neither accepts, settles nor checks
  pub noted_other : (event : Event) → ((c k : ℕ) → ticket_under c k event ≡ None) → is_accept event ≡ false
      → ((t : ℕ) → reply_in answer_of (session.journal ++ event ∷ []) t ≡ reply_in answer_of session.journal t)
      → findings problems_of (session.journal ++ event ∷ []) ≡ findings problems_of session.journal → IsNoted answer_of problems_of (with_event event)
  noted_other event names counts gives finds = record {
    numbered = λ k. noted.numbered k ∙ sym (ticket_of-push session.journal event 0 k ∙ ap (option_or (ticket_of session.journal 0 k)) (names 0 k) ∙ or-none _);
    counted = let none : accepted (session.journal ++ event ∷ []) ≡ accepted session.journal + cond (is_accept event) 1 0 = accepted-push session.journal event in
        noted.counted ∙ sym (none ∙ ap (λ b. accepted session.journal + cond b 1 0) counts ∙ omega arith);
    answers = λ t. noted.answers t ∙ sym (ap (λ o. unwrap_or o answer.Closed) (gives t));
    problems = noted.problems ∙ sym (ap (map (λ finding. finding.1)) finds);
  }

  pub noted_cancel : (ticket : ℕ) → IsNoted answer_of problems_of (with_event (Cancel ticket))
  noted_cancel ticket = noted_other (Cancel ticket) (λ c k. refl) refl (λ t. reply_in-push answer_of t session.journal (Cancel ticket)) (findings-push problems_of session.journal (Cancel ticket))

  pub noted_accept : (ticket : ℕ) (call : Call)
      → IsNoted answer_of problems_of (record session {
        journal = session.journal ++ Accept ticket 0 (length session.tickets) call ∷ [];
        tickets = session.tickets ++ Some ticket ∷ [];
        answers = session.answers ++ answer.Closed ∷ [];
      })
  noted_accept ticket call = record {
    numbered = λ k. index_push session.tickets ticket k (past session.tickets)
        ∙ ap (λ o. option_or o (if length session.tickets == k then Some ticket else None)) (noted.numbered k)
        ∙ sym (ticket_of-push session.journal event 0 k);
    counted = length-append session.answers (answer.Closed ∷ []) ∙ ap (λ n. n + 1) noted.counted ∙ sym (accepted-push session.journal event);
    answers = λ t. default_push session.answers answer.Closed t ∙ noted.answers t
        ∙ sym (ap (λ o. unwrap_or o answer.Closed) (reply_in-push answer_of t session.journal event));
    problems = noted.problems ∙ sym (ap (map (λ finding. finding.1)) (findings-push problems_of session.journal event));
  }
    where
      event : Event
      event = Accept ticket 0 (length session.tickets) call

  -- a settling with the reply that the engine's function gives
  pub noted_settle : (ticket : ℕ) (m : Mark) (found : Answer) → ticket < length session.answers → found ≡ reply answer_of session.journal ticket m
      → IsNoted answer_of problems_of (record session { journal = session.journal ++ Settle ticket m ∷ []; answers = slice_set session.answers ticket found })
  noted_settle ticket m found within right = record {
    numbered = λ k. noted.numbered k ∙ sym (ticket_of-push session.journal (Settle ticket m) 0 k ∙ or-none _);
    counted = length-set session.answers ticket found ∙ noted.counted ∙ sym (accepted-push session.journal (Settle ticket m) ∙ omega arith);
    answers = λ t. by t (ticket == t) refl;
    problems = noted.problems ∙ sym (ap (map (λ finding. finding.1)) (findings-push problems_of session.journal (Settle ticket m)));
  }
    where
      gives : (t : ℕ) (b : Bool) → (ticket == t) ≡ b
          → answer_at answer_of (session.journal ++ Settle ticket m ∷ []) t
          ≡ unwrap_or (if b then Some (reply answer_of session.journal t m) else reply_in answer_of session.journal t) answer.Closed
      gives t b e = ap (λ o. unwrap_or o answer.Closed)
          (reply_in-push answer_of t session.journal (Settle ticket m) ∙ ap (λ c. if c then Some (reply answer_of session.journal t m) else reply_in answer_of session.journal t) e)

      apart : (t : ℕ) → (ticket == t) ≡ false → t ≡ ticket → ⊥
      apart t e same = eqb-false ticket t e (sym same)

      by : (t : ℕ) (b : Bool) → (ticket == t) ≡ b → slice_index_or (slice_set session.answers ticket found) t answer.Closed ≡ answer_at answer_of (session.journal ++ Settle ticket m ∷ []) t
      by t true e =
          let same : ticket ≡ t = eqb-true ticket t e in
          ap (λ n. slice_index_or (slice_set session.answers ticket found) n answer.Closed) (sym same)
          ∙ get_or-set_same session.answers ticket found answer.Closed within ∙ right ∙ ap (λ n. reply answer_of session.journal n m) same ∙ sym (gives t true e)
      by t false e = get_or-set_other session.answers ticket t found answer.Closed (apart t e) ∙ noted.answers t ∙ sym (gives t false e)

  pub noted_check : (file : Bytes) (problems : List Problem) → problems ≡ problems_of (after session.journal) file
      → IsNoted answer_of problems_of (record session { journal = session.journal ++ Checked file ∷ []; problems = session.problems ++ problems ∷ [] })
  noted_check file problems right = record {
    numbered = λ k. noted.numbered k ∙ sym (ticket_of-push session.journal (Checked file) 0 k ∙ or-none _);
    counted = noted.counted ∙ sym (accepted-push session.journal (Checked file) ∙ omega arith);
    answers = λ t. noted.answers t ∙ sym (ap (λ o. unwrap_or o answer.Closed) (reply_in-push answer_of t session.journal (Checked file)));
    problems = (λ j. noted.problems j ++ right j ∷ [])
        ∙ sym (map-append (λ finding. finding.1) (findings problems_of session.journal) ((file, problems_of (after session.journal) file) ∷ []))
        ∙ sym (ap (map (λ finding. finding.1)) (findings-push problems_of session.journal (Checked file)));
  }
