-- What the calls of a desk tell is what those of a client's pass promise.
use Rattle.std.proofs.Common.{◌≡◌, ◌⊎◌, inl, inr, ℕ, ◌+◌, ◌<◌, Bool, true, false, true≢false, ◌||◌, ◌==◌, cond, if◌then◌else◌, IsTrue, is_some, List, [], ◌∷◌, ◌++◌, map, filter, length, Option, Some, None, refl, sym, ap, ◌∙◌, subst, arith, append_assoc, append-nil}
use mathlib.Core.List.{IsPrefix}
use Rattle.std.specs.Prelude.{unwrap_or}
use Rattle.std.specs.List.{list_any, position_from}
use Rattle.std.specs.Option.{option_or, option_map}
use Rattle.std.proofs.lemmas.Bool.{eq-eqb}
use Rattle.std.proofs.lemmas.List.Elements.{filter-append}
use Rattle.std.proofs.lemmas.List.{map-append, append_cancel_left, append_cancel_right}
use Rattle.ask_history.specs.Closing.{open_tickets}
use Rattle.ask_history.specs.Journal.{accepted, call_under, is_closed, is_close, is_settled, is_cancelled, settles}
use Rattle.ask_history.specs.Legal.{is_legal}
use Rattle.ask_history.specs.declared.answers.Answer.{Answer}
use Rattle.ask_history.specs.declared.calls.Call.{Call}
use Rattle.ask_history.specs.declared.events.Event.{Event}
use Rattle.ask_history.specs.declared.events.Event.TheVariants.{Accept, Cancel, Close, Settle}
use Rattle.ask_history.specs.declared.events.Mark.TheVariants as mark
use Rattle.ask_history.proofs.Walks.{is_legal-prefix}
use Rattle.work_queue.specs.Queue.{cancelling}
use Rattle.work_queue.specs.Refusal.{refusal, too_large, overfull}
use Rattle.work_queue.specs.Reloads.{reloaded_by, reloads, usage_of}
use Rattle.work_queue.specs.Indexes.{close_index}
use Rattle.work_queue.specs.declared.limits.Limits.{Limits}
use Rattle.work_queue.specs.declared.limits.PostRefused.{PostRefused}
use Rattle.work_queue.specs.declared.limits.PostRefused.TheVariants.{Closed, NoMemory, TooLarge, CallsFull, TextFull, NamesFull, MapFull}
use Rattle.counting_word.specs.declared.view.Entry.{Entry as Noted}
use Rattle.counting_word.specs.declared.view.Name.{Name}
use Rattle.counting_word.specs.declared.view.View.{View}
use Rattle.counting_word.specs.History as word
use Rattle.ask_desk.specs.Answers as desk
use Rattle.ask_desk.specs.Facts.{IsPass}
use Rattle.ask_desk.specs.Passes as pass
use Rattle.client_scripts.specs.History.{Entry, journal_of, answer_of, taker_of, has_entry_of, IsLater}
use Rattle.client_scripts.specs.Passes.{PassState, seeing, made_by, closed_by, closing_by, Writes, IsDue, Accepts, Refuses, Cancels, Receives, Closes}
use Rattle.desk_clients.specs.Seen.{seen_entry, seen_state}

-- ---- the history

pub seen_journal : (history : List Noted) → journal_of (map seen_entry history) ≡ word.journal_of history
seen_journal [] = refl
seen_journal (noted ∷ history) = ap (λ es. noted.event ∷ es) (seen_journal history)

pub seen_answer : (history : List Noted) (t : ℕ) → answer_of (map seen_entry history) t ≡ desk.answer_of history t
seen_answer [] t = refl
seen_answer (noted ∷ history) t = ap (λ o. if settles t noted.event then desk.found_answer noted.found else o) (seen_answer history t)

pub seen_taker : (history : List Noted) (t : ℕ) → taker_of (map seen_entry history) t ≡ word.taker_of history t
seen_taker [] t = refl
seen_taker (noted ∷ history) t = ap (λ o. if is_some (call_under t noted.event) then Some noted.author else o) (seen_taker history t)

by-append : (n : ℕ) (front back : List Noted) → word.entries_by n (front ++ back) ≡ word.entries_by n front ++ word.entries_by n back
by-append n front back = filter-append (λ (noted : Noted). noted.author == n) front back

-- none of these is of a number
pub none_by : (n : ℕ) (entries : List Noted) → word.entries_by n entries ≡ [] → has_entry_of n (map seen_entry entries) ≡ false
none_by n [] h = refl
none_by n (noted ∷ entries) h = by (noted.author == n) h (λ e. none_by n entries e)
  where
    by : (b : Bool) → cond b (noted ∷ word.entries_by n entries) (word.entries_by n entries) ≡ [] → (word.entries_by n entries ≡ [] → has_entry_of n (map seen_entry entries) ≡ false)
        → (b || has_entry_of n (map seen_entry entries)) ≡ false
    by true e later = cc
    by false e later = later e

-- all of these are
all_by : (n : ℕ) (name : Name) (events : List Event) → unwrap_or name.number 0 ≡ n → word.entries_by n (desk.entries_for name events) ≡ desk.entries_for name events
all_by n name [] h = refl
all_by n name (event ∷ events) h =
    (λ i. cond (eq-eqb (unwrap_or name.number 0) n h i) (desk.caller_entry name event ∷ all_by n name events h i) (all_by n name events h i))

-- ---- what a call writes

module _ (old new : View) (n m : ℕ) (before : List Noted) (events : List Event) (is_old : IsPass old n) (is_new : IsPass new m) (w : pass.Writes old before events new) where
  number_is : unwrap_or old.name.number 0 ≡ n
  number_is = ap (λ o. unwrap_or o 0) is_old.named

  same_number : new.name.number ≡ Some n
  same_number = w.moves.number ∙ is_old.named

  abbrev others : List Noted
  others = w.begins.0

  their : word.entries_by n others ≡ []
  their =
      let mine : old.name.own ++ desk.entries_for old.name events ≡ (word.entries_by n old.seen ++ word.entries_by n others) ++ desk.entries_for old.name events =
      sym w.own ∙ is_new.knows.own n same_number ∙ ap (word.entries_by n) w.seen ∙ by-append n before (desk.entries_for old.name events)
      ∙ (λ i. (ap (word.entries_by n) (sym w.begins.1) ∙ by-append n old.seen others) i ++ all_by n old.name events number_is i) in
      let front : old.name.own ≡ word.entries_by n old.seen ++ word.entries_by n others = append_cancel_right old.name.own (word.entries_by n old.seen ++ word.entries_by n others) (desk.entries_for old.name events) mine in
      let both : word.entries_by n old.seen ++ [] ≡ word.entries_by n old.seen ++ word.entries_by n others = append-nil (word.entries_by n old.seen) ∙ sym (is_old.knows.own n is_old.named) ∙ front in
      sym (append_cancel_left (word.entries_by n old.seen) [] (word.entries_by n others) both)

  legal_before : IsTrue (is_legal (word.journal_of before))
  legal_before =
      is_legal-prefix (word.journal_of before) (word.journal_of (desk.entries_for old.name events))
      (subst (λ js. IsTrue (is_legal js)) (ap word.journal_of w.seen ∙ map-append (λ (noted : Noted). noted.event) before (desk.entries_for old.name events)) is_new.knows.legal)

  pub later_before : IsLater (seen_state old).number (seen_state old).history (map seen_entry before)
  later_before = record {
    others = map seen_entry others;
    behind = ap (map seen_entry) (sym w.begins.1) ∙ map-append seen_entry old.seen others;
    theirs = subst (λ k. has_entry_of k (map seen_entry others) ≡ false) (sym number_is) (none_by n others their);
    legal = subst (λ js. IsTrue (is_legal js)) (sym (seen_journal before)) legal_before;
  }

  pub legal_new : IsTrue (is_legal (journal_of (seen_state new).history))
  legal_new = subst (λ js. IsTrue (is_legal js)) (sym (seen_journal new.seen)) is_new.knows.legal

  pub seen_writes : (entries : List Entry) → map seen_entry (desk.entries_for old.name events) ≡ entries → Writes (seen_state old) (map seen_entry before) entries (seen_state new)
  seen_writes entries same = record {
    later = later_before;
    written = λ i. record {
      number = unwrap_or (w.moves.number i) 0;
      history = (ap (map seen_entry) w.seen ∙ map-append seen_entry before (desk.entries_for old.name events) ∙ ap (λ es. map seen_entry before ++ es) same) i;
      got = w.got i;
    };
    legal = legal_new;
  }

-- ---- the calls

index_any : (test : Event → Bool) (n i : ℕ) (journal : List Event) → position_from test n journal ≡ Some i → list_any test journal ≡ true
index_any test n i [] h = cc
index_any test n i (event ∷ journal) h = by (test event) (λ e. index_any test (n + 1) i journal e) h
  where
    by : (b : Bool) → (position_from test (n + 1) journal ≡ Some i → list_any test journal ≡ true) → cond b (Some n) (position_from test (n + 1) journal) ≡ Some i → (b || list_any test journal) ≡ true
    by true later e = refl
    by false later e = later e

-- a refusal for the shutdown comes where it stands
refused_closed : (limits : Limits) (journal : List Event) (call : Call) (index : ℕ) → refusal limits journal call ≡ Some (Closed index) → is_closed journal ≡ true
refused_closed limits journal call index h = by (close_index journal) refl h
  where
    by : (o : Option ℕ) → close_index journal ≡ o
        → option_or (option_map Closed o) (option_or (option_map TooLarge (too_large limits.file (reloaded_by call))) (option_or (if accepted journal == limits.calls then Some (CallsFull (accepted journal)) else None) (overfull limits (usage_of (reloads journal ++ reloaded_by call)))))
        ≡ Some (Closed index) → is_closed journal ≡ true
    by (Some i) e k = index_any is_close 0 i journal e
    by None e k = absurd (no_more (too_large limits.file (reloaded_by call)) (accepted journal == limits.calls) k)
      where
        last : (a b c : Option ℕ) → option_or (option_map TextFull a) (option_or (option_map NamesFull b) (option_map MapFull c)) ≡ Some (Closed index) → ⊥
        last (Some n) b c m = cc
        last None (Some n) c m = cc
        last None None (Some n) m = cc
        last None None None m = cc

        no_more : (a : Option ℕ) (b : Bool) → option_or (option_map TooLarge a) (option_or (if b then Some (CallsFull (accepted journal)) else None) (overfull limits (usage_of (reloads journal ++ reloaded_by call)))) ≡ Some (Closed index) → ⊥
        no_more (Some n) b m = cc
        no_more None true m = cc
        no_more None false m = last _ _ _ m

module _ (old new : View) (n m : ℕ) (is_old : IsPass old n) (is_new : IsPass new m) where
  named : (moves : pass.Moves old new) → unwrap_or old.name.number 0 ≡ unwrap_or new.name.number 0
  named moves = ap (λ o. unwrap_or o 0) (sym moves.number)

  pub seen_accepts : (limits : Limits) (ticket tag : ℕ) (call : Call) → pass.Accepts limits old new ticket tag call → Accepts (seen_state old) (seen_state new) ticket tag call
  seen_accepts limits ticket tag call a = record {
    before = map seen_entry a.before;
    next = a.next ∙ ap accepted (sym (seen_journal a.before));
    writes = seen_writes old new n m a.before (Accept ticket (unwrap_or old.name.number 0) tag call ∷ []) is_old is_new a.writes _ refl;
    due = record {
      mine = seen_taker new.seen ticket ∙ a.mine ∙ is_new.named ∙ ap (λ o. Some (unwrap_or o 0)) (sym is_new.named);
      fresh = a.fresh;
    };
  }

  pub seen_refuses : (limits : Limits) (why : PostRefused) (call : Call) → pass.Refuses limits old new why call → Refuses (seen_state old) (seen_state new) why
  seen_refuses limits why call r = record {
    writes = seen_writes old new n m new.seen [] is_old is_new r.writes [] refl;
    shut = λ index is. subst (λ js. is_closed js ≡ true) (sym (seen_journal new.seen)) (shut_by index is r.cause);
  }
    where
      shut_by : (index : ℕ) → why ≡ Closed index → (why ≡ NoMemory) ⊎ (refusal limits (word.journal_of new.seen) call ≡ Some why) → is_closed (word.journal_of new.seen) ≡ true
      shut_by index is (inl e) = absurd (closed_memory (sym is ∙ e))
        where
          closed_memory : Closed index ≡ NoMemory → ⊥
          closed_memory k = cc
      shut_by index is (inr e) = refused_closed limits (word.journal_of new.seen) call index (e ∙ ap Some is)

  pub seen_cancels : (ticket : ℕ) → (before : List Noted) → pass.Writes old before (cancelling (word.journal_of before) ticket) new → Cancels (seen_state old) (seen_state new) ticket
  seen_cancels ticket before w = record {
    before = map seen_entry before;
    writes = seen_writes old new n m before (cancelling (word.journal_of before) ticket) is_old is_new w _
        (by (is_settled (word.journal_of before) ticket || is_cancelled (word.journal_of before) ticket)
        ∙ ap (λ js. map (made_by (unwrap_or old.name.number 0)) (cancelling js ticket)) (sym (seen_journal before)));
  }
    where
      by : (b : Bool) → map seen_entry (desk.entries_for old.name (if b then [] else Cancel ticket ∷ [])) ≡ map (made_by (unwrap_or old.name.number 0)) (if b then [] else Cancel ticket ∷ [])
      by true = refl
      by false = refl

  pub seen_closes : (at : ℕ) → pass.Closes old new at → Closes (seen_state old) (seen_state new)
  seen_closes at c = record {
    before = map seen_entry c.before;
    writes = seen_writes old new n m c.before (desk.closing (word.journal_of c.before)) is_old is_new c.writes _
        (by (is_closed (word.journal_of c.before)) (open_tickets (word.journal_of c.before)) ∙ ap (closing_by (unwrap_or old.name.number 0)) (sym (seen_journal c.before)));
    settled = λ t within. ap (λ js. is_settled js t) (seen_journal new.seen) ∙ c.settled t (subst (λ js. t < accepted js) (seen_journal new.seen) within);
  }
    where
      each : (tickets : List ℕ) → map seen_entry (desk.entries_for old.name (map (λ t. Settle t mark.Done) tickets)) ≡ map (closed_by (unwrap_or old.name.number 0)) tickets
      each [] = refl
      each (t ∷ tickets) = ap (λ (es : List Entry). closed_by (unwrap_or old.name.number 0) t ∷ es) (each tickets)

      by : (b : Bool) (tickets : List ℕ) → map seen_entry (desk.entries_for old.name (if b then [] else Close ∷ map (λ t. Settle t mark.Done) tickets))
          ≡ (if b then [] else made_by (unwrap_or old.name.number 0) Close ∷ map (closed_by (unwrap_or old.name.number 0)) tickets)
      by true tickets = refl
      by false tickets = ap (λ (es : List Entry). made_by (unwrap_or old.name.number 0) Close ∷ es) (each tickets)

  pub seen_receives : (ticket : ℕ) (found : Answer) → pass.Receives old new ticket found → Receives (seen_state old) (seen_state new) ticket found
  seen_receives ticket found r = record {
    later = subst (λ k. IsLater (unwrap_or old.name.number 0) (map seen_entry old.seen) (map seen_entry k)) refl (received_later r);
    got = λ i. record { number = unwrap_or (r.moves.number i) 0; history = map seen_entry new.seen; got = r.got i };
    answered = seen_answer new.seen ticket ∙ r.answer_seen;
  }
    where
      received_later : pass.Receives old new ticket found → IsLater (unwrap_or old.name.number 0) (map seen_entry old.seen) (map seen_entry new.seen)
      received_later r =
          let others : List Noted = r.moves.begins.0 in
          let number : unwrap_or old.name.number 0 ≡ n = ap (λ o. unwrap_or o 0) is_old.named in
          let all : word.entries_by n old.seen ++ [] ≡ word.entries_by n old.seen ++ word.entries_by n others =
          append-nil (word.entries_by n old.seen) ∙ sym (is_old.knows.own n is_old.named) ∙ sym r.own ∙ is_new.knows.own n (r.moves.number ∙ is_old.named)
          ∙ ap (word.entries_by n) (sym r.moves.begins.1) ∙ by-append n old.seen others in
          record {
            others = map seen_entry others;
            behind = ap (map seen_entry) (sym r.moves.begins.1) ∙ map-append seen_entry old.seen others;
            theirs = subst (λ k. has_entry_of k (map seen_entry others) ≡ false) (sym number) (none_by n others (sym (append_cancel_left (word.entries_by n old.seen) [] (word.entries_by n others) all)));
            legal = subst (λ js. IsTrue (is_legal js)) (sym (seen_journal new.seen)) is_new.knows.legal;
          }

-- ---- one pass

module _ (view : View) (n : ℕ) (is : IsPass view n) where
  pub named_number : Some (unwrap_or view.name.number 0) ≡ view.name.number
  named_number = ap (λ o. Some (unwrap_or o 0)) is.named ∙ sym is.named

  pub seen_unmoved : Refuses (seen_state view) (seen_state view) NoMemory
  seen_unmoved = record {
    writes = record {
      later = record {
        others = [];
        behind = sym (append-nil (map seen_entry view.seen));
        theirs = refl;
        legal = subst (λ js. IsTrue (is_legal js)) (sym (seen_journal view.seen)) is.knows.legal;
      };
      written = ap (seeing (seen_state view)) (sym (append-nil (map seen_entry view.seen)));
      legal = subst (λ js. IsTrue (is_legal js)) (sym (seen_journal view.seen)) is.knows.legal;
    };
    shut = λ index e. absurd (apart index e);
  }
    where
      apart : (index : ℕ) → NoMemory ≡ Closed index → ⊥
      apart index e = cc

  pub due_mine : (ticket : ℕ) → IsDue (seen_state view) ticket → word.taker_of view.seen ticket ≡ view.name.number
  due_mine ticket due = sym (seen_taker view.seen ticket) ∙ due.mine ∙ named_number

pub due_taken : (view : View) (ticket : ℕ) → IsDue (seen_state view) ticket → IsTrue (is_some (word.taker_of view.seen ticket))
due_taken view ticket due = ap is_some (sym (seen_taker view.seen ticket) ∙ due.mine)
