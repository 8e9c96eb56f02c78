-- A client that has all its answers.
use Rattle.std.proofs.Common.{◌≡◌, inl, inr, ℕ, zero, suc, ◌+◌, ◌-◌, ◌<◌, ◌≤◌, true, false, true≢false, IsTrue, List, [], ◌∷◌, length, Option, Some, None, refl, sym, ap, ◌∙◌, subst, arith}
use Rattle.std.specs.List.{slice_get, list_all, filter_map}
use Rattle.std.specs.Option.{option_and_then}
use Rattle.std.proofs.Common.{take}
use Rattle.std.proofs.lemmas.List.{take_all}
use Rattle.ask_history.specs.Journal.{is_settled}
use Rattle.ask_history.specs.declared.answers.Answer.{Answer}
use Rattle.ask_history.specs.declared.script.Line.{Line}
use Rattle.client_scripts.specs.declared.client.Client.{Client}
use Rattle.client_scripts.specs.declared.client.Held.{Held}
use Rattle.client_scripts.specs.declared.client.Held.TheVariants.{Due, Had}
use Rattle.client_scripts.specs.Lines.{next_number}
use Rattle.client_scripts.specs.Clients.{passes, is_answered}
use Rattle.client_scripts.specs.History.{journal_of, signed_journal, answer_of, has_entry_of}
use Rattle.client_scripts.specs.Passes.{PassState}
use Rattle.client_scripts.specs.Runs.{Runs, HasEnded, AreAnswers}
use Rattle.client_scripts.specs.Holding.{ticket_at, IsHolding, IsPlaying, Rests, HasStopped, is_had, had_answer}
use Rattle.client_scripts.proofs.Histories.{answer_settled, signed_settled, none_theirs, no_tickets}
use Rattle.client_scripts.proofs.Numbers.{counted, all_numbers}
use Rattle.client_scripts.proofs.Held.{holds_had}
use Rattle.client_scripts.proofs.Playing.{Behind, rests_number, rests_runs, rests_behind}
use Rattle.client_scripts.proofs.Written.{right_theirs}
use Rattle.ask_history.specs.Legal.{is_legal}

module _ {T : Type 0} where
  pub count_had : (held : List (Held T)) → list_all is_had held ≡ true → length (filter_map had_answer held) ≡ length held
  count_had [] h = refl
  count_had (Due ticket ∷ held) h = absurd (true≢false (sym h))
  count_had (Had found ∷ held) h = ap suc (count_had held h)

  pub get_had : (held : List (Held T)) (index : ℕ) (found : Answer) → list_all is_had held ≡ true → slice_get (filter_map had_answer held) index ≡ Some found
      → slice_get held index ≡ Some (Had found)
  get_had [] index found h e = cc
  get_had (Due ticket ∷ held) index found h e = absurd (true≢false (sym h))
  get_had (Had other ∷ held) zero found h e = cc
  get_had (Had other ∷ held) (suc index) found h e = get_had held index found h e

  module _ (number_of : T → ℕ) (pass : PassState) (held : List (Held T)) (holding : IsHolding number_of pass held) (had : list_all is_had held ≡ true) where
    pub are_answers : AreAnswers pass.number pass.history (filter_map had_answer held)
    are_answers = record {
      counted = count_had held had ∙ holding.counted;
      each = λ index found is.
          let one = holds_had number_of pass (ticket_at pass index) found (holding.each index (Had found) (get_had held index found had is)) in
          ap (option_and_then (answer_of pass.history)) one.1 ∙ one.2;
    }

    -- each of its calls is settled
    answered_at : (index : ℕ) → index < length held → is_answered pass.number (signed_journal pass.history) (index + 1) ≡ true
    answered_at index within =
        by (slice_get (filter_map had_answer held) index) refl
      where
        few : length (filter_map had_answer held) ≡ length held
        few = count_had held had

        some : {X : Type 0} (xs : List X) (i : ℕ) → i < length xs → slice_get xs i ≡ None → ⊥
        some [] i lt e = absurd (omega arith)
        some (x ∷ xs) zero lt e = cc
        some (x ∷ xs) (suc i) lt e = some xs i (omega arith) e

        by : (o : Option Answer) → slice_get (filter_map had_answer held) index ≡ o → is_answered pass.number (signed_journal pass.history) (index + 1) ≡ true
        by None e = absurd (some (filter_map had_answer held) index (omega (arith, count_had held had)) e)
        by (Some found) e =
            let one = holds_had number_of pass (ticket_at pass index) found (holding.each index (Had found) (get_had held index found had e)) in
            ap (passes (is_settled (signed_journal pass.history))) one.1 ∙ signed_settled pass.history one.0 ∙ answer_settled pass.history one.0 found one.2

    pub has_ended : (lines : List Line) → Behind pass.number pass.history lines → HasEnded pass.number lines pass.history
    has_ended lines (inl h) = inl h
    has_ended lines (inr h) = inr (h, all_numbers (is_answered pass.number (signed_journal pass.history)) 1 lines (λ k low high. at_number k low high))
      where
        at_number : (k : ℕ) → 1 ≤ k → k < next_number 1 lines → is_answered pass.number (signed_journal pass.history) k ≡ true
        at_number k low high =
            let a = counted 1 lines in let b = holding.counted in let c = ap length h.calls in
            subst (λ n. is_answered pass.number (signed_journal pass.history) n ≡ true) (omega arith) (answered_at (k - 1) (omega arith))

-- ---- the whole run

pub begins : {T : Type 0} (number_of : T → ℕ) (lines : List Line) (pass : PassState) (client : Client T) → IsTrue (is_legal (journal_of pass.history)) → has_entry_of pass.number pass.history ≡ false
    → client.held.items ≡ [] → client.next ≡ 1 → IsPlaying number_of pass.number lines [] pass client
begins {T} number_of lines pass client legal fresh none next =
    let calls = none_theirs pass.number pass.history fresh in
    let unticketed : (i : ℕ) → ticket_at pass i ≡ None = λ i. no_tickets pass.number (i + 1) (signed_journal pass.history) calls in
    record {
      named = refl;
      holding = subst (IsHolding number_of pass) (sym none) (record {
        legal = legal;
        counted = sym (ap length calls);
        each = λ index one is. absurd (nothing index one is);
        apart = λ i j t a b. absurd (apart t (sym (unticketed i) ∙ a));
        below = λ i t a. absurd (apart t (sym (unticketed i) ∙ a));
      });
      runs = right_theirs pass.number lines [] pass.history fresh;
      behind = inr (record { calls = calls; come = refl });
      counts = next;
    }
  where
    nothing : (index : ℕ) (one : Held T) → slice_get {X = Held T} [] index ≡ Some one → ⊥
    nothing index one is = cc

    apart : (t : ℕ) → None ≡ Some t → ⊥
    apart t e = cc

module _ {T : Type 0} (number_of : T → ℕ) (c : ℕ) (lines : List Line) where
  -- the number of a pass does not change
  pub renamed : (above : List Line) (pass : PassState) (client : Client T) → IsPlaying number_of c lines above pass client → IsPlaying number_of pass.number lines above pass client
  renamed above pass client playing = subst (λ n. IsPlaying number_of n lines above pass client) (sym playing.named) playing

  pub named_again : (above : List Line) (old new : PassState) (client client' : Client T) (above' : List Line) → IsPlaying number_of c lines above old client
      → IsPlaying number_of old.number lines above' new client' → IsPlaying number_of c lines above' new client'
  named_again above old new client client' above' playing more = subst (λ n. IsPlaying number_of n lines above' new client') playing.named more

  pub stopped_again : (above : List Line) (old new : PassState) (client : Client T) → IsPlaying number_of c lines above old client → HasStopped old.number lines new → HasStopped c lines new
  stopped_again above old new client playing h = subst (λ n. HasStopped n lines new) playing.named h

  module _ (mid new : PassState) (client : Client T) (held : List (Held T)) (playing : IsPlaying number_of c lines lines mid client) (rests : Rests mid (record new { got = mid.got })) where
    pub end_named : new.number ≡ c
    end_named = rests_number mid (record new { got = mid.got }) rests ∙ playing.named

    pub end_runs : Runs c lines new.history
    end_runs = subst (λ n. Runs n lines new.history) playing.named
        (rests_runs lines mid (record new { got = mid.got }) rests (subst (λ n. Runs n lines mid.history) (sym playing.named) playing.runs))

    end_behind : Behind new.number new.history lines
    end_behind = subst (λ n. Behind n new.history lines) (sym (rests_number mid (record new { got = mid.got }) rests))
        (rests_behind mid (record new { got = mid.got }) lines rests (subst (λ n. Behind n mid.history lines) (sym playing.named) playing.behind))

    pub end_ended : IsHolding number_of new held → list_all is_had held ≡ true → HasEnded c lines new.history
    end_ended holding had = subst (λ n. HasEnded n lines new.history) end_named (has_ended number_of new held holding had lines end_behind)

    pub end_answers : IsHolding number_of new held → list_all is_had held ≡ true → AreAnswers c new.history (filter_map had_answer held)
    end_answers holding had = subst (λ n. AreAnswers n new.history (filter_map had_answer held)) end_named (are_answers number_of new held holding had)

-- behind the last line
pub at_end : {T : Type 0} (number_of : T → ℕ) (c : ℕ) (lines : List Line) (at : ℕ) (pass : PassState) (client : Client T) → IsPlaying number_of c lines (take at lines) pass client
    → length lines ≤ at → IsPlaying number_of c lines lines pass client
at_end number_of c lines at pass client playing past = subst (λ ls. IsPlaying number_of c lines ls pass client) (take_all at lines past) playing
