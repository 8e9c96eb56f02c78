-- A client plays its script, line by line.
use Rattle.std.proofs.Common.{◌≡◌, ◌⊎◌, inl, inr, ℕ, ◌+◌, ◌<◌, Bool, true, false, true≢false, not, ◌||◌, ◌==◌, if◌then◌else◌, IsTrue, List, [], ◌∷◌, ◌++◌, map, length, Some, None, refl, sym, ap, ◌∙◌, subst, arith, append_assoc, append-nil}
use Rattle.std.specs.List.{list_all}
use Rattle.std.proofs.lemmas.Bool.{and_parts, and_from}
use Rattle.std.proofs.lemmas.Bool.Decides.{nat_tests}
use Rattle.std.proofs.lemmas.List.Folds.{list_all-append, list_any-append}
use Rattle.ask_history.specs.Closing.{open_tickets}
use Rattle.ask_history.specs.Journal.{accepted, ticket_of, is_closed, is_close, is_settled, is_cancelled, cancels}
use Rattle.ask_history.specs.Legal.{is_legal, may_follow}
use Rattle.ask_history.specs.Nested.{number_after}
use Rattle.ask_history.specs.declared.calls.Call.{Call}
use Rattle.ask_history.specs.declared.events.Event.{Event}
use Rattle.ask_history.specs.declared.events.Event.TheVariants.{Accept, Cancel, Close}
use Rattle.ask_history.specs.declared.script.Order.{Order}
use Rattle.ask_history.specs.declared.script.Order.TheVariants as order
use Rattle.ask_history.specs.declared.script.Line.{Line}
use Rattle.journal_laws.proofs.Tickets.{may_last}
use Rattle.script_text.specs.Standing.{is_call_above}
use Rattle.client_scripts.specs.declared.client.Client.{Client}
use Rattle.client_scripts.specs.declared.client.Held.TheVariants.{Due}
use Rattle.client_scripts.specs.Lines.{call_under, call_lines, next_number}
use Rattle.client_scripts.specs.Clients.{calls_of, passes, has_come, Stands, IsAtLine}
use Rattle.client_scripts.specs.History.{Entry, journal_of, signed_journal, has_entry_of, IsLater}
use Rattle.client_scripts.specs.Passes.{PassState, seeing, made_by, closed_by, Writes, IsDue, Accepts, Cancels, Closes}
use Rattle.client_scripts.specs.Runs.{AreRight, Runs}
use Rattle.client_scripts.specs.Holding.{IsHolding, IsPlaying, Posts, Rests, CancelsAt, ReceivesAt, HasStopped}
use Rattle.client_scripts.proofs.Histories.{journal_of-append, signed-append, none_theirs, Silent, more_closed, all_come, stands_more, ticket_stays, signed_settled, signed_cancelled}
use Rattle.client_scripts.proofs.Numbers.{calls-append, next-append, counted, next_unaccepted, named_above}
use Rattle.client_scripts.proofs.Written.{right_theirs, runs_more, right_settlings}
use Rattle.client_scripts.proofs.Held.{holding_writes, holding_accepted, calls_then, holding_more}

-- the session is shut down, or the client is behind these lines
abbrev pub Behind : ℕ → List Entry → List Line → Type 0
Behind c history above = (is_closed (journal_of history) ≡ true) ⊎ Stands c (signed_journal history) above

-- ---- others go on

pub later_stands : (c : ℕ) (old now : List Entry) (above : List Line) → IsLater c old now → Stands c (signed_journal old) above → Stands c (signed_journal now) above
later_stands c old now above later h =
    subst (λ es. Stands c (signed_journal es) above) (sym later.behind) (stands_more c old later.others above (none_theirs c later.others later.theirs) h)

pub later_closed : (c : ℕ) (old now : List Entry) → IsLater c old now → is_closed (journal_of old) ≡ true → is_closed (journal_of now) ≡ true
later_closed c old now later h = subst (λ es. is_closed (journal_of es) ≡ true) (sym later.behind) (more_closed old later.others h)

pub later_behind : (c : ℕ) (old now : List Entry) (above : List Line) → IsLater c old now → Behind c old above → Behind c now above
later_behind c old now above later (inl h) = inl (later_closed c old now later h)
later_behind c old now above later (inr h) = inr (later_stands c old now above later h)

-- more entries, in which the client has no call
pub more_behind : (c : ℕ) (old more : List Entry) (above : List Line) → Silent c more → Behind c old above → Behind c (old ++ more) above
more_behind c old more above silent (inl h) = inl (more_closed old more h)
more_behind c old more above silent (inr h) = inr (stands_more c old more above silent h)

-- ---- behind the shutdown nothing more is accepted or cancelled

pub unclosed : (history : List Entry) (entry : Entry) → IsTrue (is_legal (journal_of (history ++ entry ∷ [])))
    → ((journal : List Event) → IsTrue (may_follow journal entry.event) → is_closed journal ≡ false) → is_closed (journal_of history) ≡ false
unclosed history entry legal only =
    only (journal_of history) (may_last (journal_of history) entry.event (subst (λ js. IsTrue (is_legal js)) (journal_of-append history (entry ∷ [])) legal)).1

not_true : (b : Bool) → not b ≡ true → b ≡ false
not_true true h = sym h
not_true false h = refl

pub no_accept : (journal : List Event) (t client tag : ℕ) (call : Call) → IsTrue (may_follow journal (Accept t client tag call)) → is_closed journal ≡ false
no_accept journal t client tag call may = not_true (is_closed journal) (and_parts (t == accepted journal) (not (is_closed journal)) may).1

pub no_cancel : (journal : List Event) (t : ℕ) → IsTrue (may_follow journal (Cancel t)) → is_closed journal ≡ false
no_cancel journal t may = not_true (is_closed journal) (and_parts _ (not (is_closed journal)) may).1

-- the first alternative is excluded
stands_of : (c : ℕ) (history : List Entry) (above : List Line) → is_closed (journal_of history) ≡ false → Behind c history above → Stands c (signed_journal history) above
stands_of c history above open_ (inl h) = absurd (true≢false (sym h ∙ open_))
stands_of c history above open_ (inr h) = h

-- ---- one line more

-- a line that is no call line, and that has come
pub stands_past : (c : ℕ) (journal : List Event) (above : List Line) (line : Line) → call_lines (next_number 1 above) (line ∷ []) ≡ [] → has_come c journal line.order ≡ true
    → Stands c journal above → Stands c journal (above ++ line ∷ [])
stands_past c journal above line none come h = record {
  calls = h.calls ∙ sym (append-nil (call_lines 1 above)) ∙ ap (λ cs. call_lines 1 above ++ cs) (sym none) ∙ sym (calls-append 1 above (line ∷ []));
  come = list_all-append (λ (l : Line). has_come c journal l.order) above (line ∷ []) ∙ and_from _ _ h.come (and_from _ _ come refl);
}

-- a call line, whose call is accepted then
pub stands_called : (c : ℕ) (journal : List Event) (above : List Line) (line : Line) (call : Call) → line.order ≡ order.Call call
    → calls_of c journal ≡ call_lines 1 above ++ (next_number 1 above, call) ∷ [] → list_all (λ (l : Line). has_come c journal l.order) above ≡ true
    → Stands c journal (above ++ line ∷ [])
stands_called c journal above line call is calls come = record {
  calls = calls ∙ ap (λ cs. call_lines 1 above ++ cs) (sym (ap (λ o. of_order o) is)) ∙ sym (calls-append 1 above (line ∷ []));
  come = list_all-append (λ (l : Line). has_come c journal l.order) above (line ∷ []) ∙ and_from _ _ come (and_from _ _ (ap (has_come c journal) is) refl);
}
  where
    of_order : Order → List (ℕ × Call)
    of_order o = call_under (next_number 1 above) o ++ []

-- the number of the next call line
next_past : (above : List Line) (line : Line) (call : Call) → line.order ≡ order.Call call → next_number 1 (above ++ line ∷ []) ≡ next_number 1 above + 1
next_past above line call is = next-append 1 above (line ∷ []) ∙ ap (λ o. number_after o (next_number 1 above)) is

pub runs_later : (c : ℕ) (lines : List Line) (old now : List Entry) → IsLater c old now → Runs c lines old → Runs c lines now
runs_later c lines old now later h =
    subst (Runs c lines) (sym later.behind) (runs_more c lines old later.others h (right_theirs c lines old later.others later.theirs))

-- ---- a pass that rests

pub rests_history : (old new : PassState) → Rests old new → (more : List Entry) × (new.history ≡ old.history ++ more) × Silent old.number more
rests_history old new (inl same) = ([], ap (λ (p : PassState). p.history) same ∙ sym (append-nil old.history), refl)
rests_history old new (inr w) = (w.later.others, w.later.behind, none_theirs old.number w.later.others w.later.theirs)

pub rests_theirs : (old new : PassState) → Rests old new → (more : List Entry) × (new.history ≡ old.history ++ more) × (has_entry_of old.number more ≡ false)
rests_theirs old new (inl same) = ([], ap (λ (p : PassState). p.history) same ∙ sym (append-nil old.history), refl)
rests_theirs old new (inr w) = (w.later.others, w.later.behind, w.later.theirs)

pub rests_number : (old new : PassState) → Rests old new → new.number ≡ old.number
rests_number old new (inl same) = ap (λ (p : PassState). p.number) same
rests_number old new (inr w) = ap (λ (p : PassState). p.number) w.written

-- one rest behind the other, whatever was handed out
pub rests_both : (old mid new : PassState) → IsTrue (is_legal (journal_of new.history)) → Rests old (record mid { got = old.got }) → Rests mid (record new { got = mid.got })
    → Rests old (record new { got = old.got })
rests_both old mid new legal first second =
    let quiet : PassState = record mid { got = old.got } in
    let last : PassState = record new { got = mid.got } in
    let a = rests_theirs old quiet first in
    let b = rests_theirs mid last second in
    let one : mid.number ≡ old.number = rests_number old quiet first in
    let two : new.number ≡ mid.number = rests_number mid last second in
    inr (record {
      later = record {
        others = a.0 ++ b.0;
        behind = b.1 ∙ ap (λ es. es ++ b.0) a.1 ∙ append_assoc old.history a.0 b.0;
        theirs = list_any-append (λ (entry : Entry). entry.author == old.number) a.0 b.0 ∙ ap (λ x. x || has_entry_of old.number b.0) a.2
            ∙ subst (λ n. has_entry_of n b.0 ≡ false) one b.2;
        legal = legal;
      };
      written = (λ i. record { number = (two ∙ one) i; history = append-nil' new.history i; got = old.got });
      legal = legal;
    })
  where
    append-nil' : (es : List Entry) → es ≡ es ++ []
    append-nil' es = sym (append-nil es)

pub rests_runs : (lines : List Line) (old new : PassState) → Rests old new → Runs old.number lines old.history → Runs old.number lines new.history
rests_runs lines old new (inl same) h = subst (λ (p : PassState). Runs old.number lines p.history) (sym same) h
rests_runs lines old new (inr w) h = runs_later old.number lines old.history new.history w.later h

pub rests_behind : (old new : PassState) (above : List Line) → Rests old new → Behind old.number old.history above → Behind old.number new.history above
rests_behind old new above rests h =
    let more = rests_history old new rests in
    subst (λ es. Behind old.number es above) (sym more.1) (more_behind old.number old.history more.0 above more.2 h)

-- ---- one line

silent_settlings : (c : ℕ) (tickets : List ℕ) → Silent c (map (closed_by c) tickets)
silent_settlings c [] = refl
silent_settlings c (t ∷ tickets) = silent_settlings c tickets

or_true : (b : Bool) → (b || true) ≡ true
or_true true = refl
or_true false = refl

own : (t : ℕ) → (t == t) ≡ true
own t = grind (arith, nat_tests)

module _ {T : Type 0} (number_of : T → ℕ) (lines above below : List Line) (line : Line) (split : lines ≡ above ++ line ∷ below) (old : PassState) (client : Client T)
    (playing : IsPlaying number_of old.number lines above old client) where
  abbrev past : List Line
  past = above ++ line ∷ []

  abbrev at_line : (meant : Order) (journal : List Event) → line.order ≡ meant → Stands old.number journal above → IsAtLine old.number lines journal meant
  at_line meant journal is stands = record { above = above; line = line; below = below; split = split; orders = is; stands = stands }

  -- a line that is no call line leaves the number of the next
  next_same : (o : Order) → line.order ≡ o → number_after o (next_number 1 above) ≡ next_number 1 above → client.next ≡ next_number 1 past
  next_same o is same = playing.counts ∙ sym same ∙ ap (λ m. number_after m (next_number 1 above)) (sym is) ∙ sym (next-append 1 above (line ∷ []))

  none_more : (o : Order) → line.order ≡ o → call_under (next_number 1 above) o ≡ [] → call_lines (next_number 1 above) (line ∷ []) ≡ []
  none_more o is none = ap (λ m. call_under (next_number 1 above) m ++ []) is ∙ ap (λ cs. cs ++ []) none

  playing_wrote : (new : PassState) (before entries : List Entry) (client' : Client T) → Writes old before entries new → Silent old.number entries
      → AreRight old.number lines before entries → client'.held.items ≡ client.held.items → client'.next ≡ next_number 1 past → Behind old.number new.history past
      → IsPlaying number_of old.number lines past new client'
  playing_wrote new before entries client' w silent right held next behind = record {
    named = ap (λ (p : PassState). p.number) w.written;
    holding = subst (IsHolding number_of new) (sym held) (holding_writes number_of old new before entries client.held.items w silent playing.holding);
    runs = subst (λ (p : PassState). Runs old.number lines p.history) (sym w.written)
        (runs_more old.number lines before entries (runs_later old.number lines old.history before w.later playing.runs) right);
    behind = behind;
    counts = next;
  }

  -- nothing happened
  playing_same : client.next ≡ next_number 1 past → Behind old.number old.history past → IsPlaying number_of old.number lines past old client
  playing_same next behind = record { named = refl; holding = playing.holding; runs = playing.runs; behind = behind; counts = next }

  past_behind : (o : Order) (history : List Entry) → line.order ≡ o → call_under (next_number 1 above) o ≡ [] → (Stands old.number (signed_journal history) above → has_come old.number (signed_journal history) o ≡ true)
      → Behind old.number history above → Behind old.number history past
  past_behind o history is none come (inl h) = inl h
  past_behind o history is none come (inr h) =
      inr (stands_past old.number (signed_journal history) above line (none_more o is none) (ap (has_come old.number (signed_journal history)) is ∙ come h) h)

  pub playing_idle : line.order ≡ order.Idle → IsPlaying number_of old.number lines past old client
  playing_idle is = playing_same (next_same order.Idle is refl) (past_behind order.Idle old.history is refl (λ h. refl) playing.behind)

  -- ---- `close`

  closed_here : (before rest : List Entry) → is_closed (journal_of (before ++ made_by old.number Close ∷ rest)) ≡ true
  closed_here before rest =
      ap is_closed (journal_of-append before (made_by old.number Close ∷ rest)) ∙ list_any-append is_close (journal_of before) (Close ∷ journal_of rest)
      ∙ or_true (is_closed (journal_of before))

  pub playing_closed : (new : PassState) → line.order ≡ order.Close → Closes old new → IsPlaying number_of old.number lines past new client
  playing_closed new is closes = by (is_closed (journal_of closes.before)) refl closes.writes
    where
      by : (b : Bool) → is_closed (journal_of closes.before) ≡ b
          → Writes old closes.before (if b then [] else made_by old.number Close ∷ map (closed_by old.number) (open_tickets (journal_of closes.before))) new
          → IsPlaying number_of old.number lines past new client
      by true e w =
          playing_wrote new closes.before [] client w refl tt refl (next_same order.Close is refl)
          (inl (subst (λ (p : PassState). is_closed (journal_of p.history) ≡ true) (sym w.written) (more_closed closes.before [] e)))
      by false e w =
          let stands = stands_of old.number closes.before above e (later_behind old.number old.history closes.before above w.later playing.behind) in
          let entries : List Entry = map (closed_by old.number) (open_tickets (journal_of closes.before)) in
          playing_wrote new closes.before (made_by old.number Close ∷ entries) client w (silent_settlings old.number (open_tickets (journal_of closes.before))) (
            (λ mine. at_line order.Close (signed_journal closes.before) is stands),
            right_settlings old.number lines (closes.before ++ made_by old.number Close ∷ []) (open_tickets (journal_of closes.before)) (closed_here closes.before []),
          )
          refl (next_same order.Close is refl)
          (inl (subst (λ (p : PassState). is_closed (journal_of p.history) ≡ true) (sym w.written) (closed_here closes.before entries)))

  -- ---- `cancel` and `wait` of a call that was refused

  refused_none : (k : ℕ) → is_call_above above k ≡ true → (0 < k → length client.held.items < k) → Behind old.number old.history above → is_closed (journal_of old.history) ≡ true
  refused_none k named none (inl h) = h
  refused_none k named none (inr h) =
      let there = named_above k above named in
      let few = none there.0 in
      let high = there.1 in
      let same = playing.holding.counted ∙ ap length h.calls in
      absurd (omega arith)

  pub playing_unheld : (o : Order) (k : ℕ) → line.order ≡ o → number_after o (next_number 1 above) ≡ next_number 1 above → is_call_above above k ≡ true
      → (0 < k → length client.held.items < k) → IsPlaying number_of old.number lines past old client
  playing_unheld o k is same named none = playing_same (next_same o is same) (inl (refused_none k named none playing.behind))

  -- ---- `wait`

  pub playing_waited : (new : PassState) (client' : Client T) (index k : ℕ) → line.order ≡ order.Wait k → index + 1 ≡ k → ReceivesAt old new index
      → IsHolding number_of new client'.held.items → client'.next ≡ client.next → IsPlaying number_of old.number lines past new client'
  playing_waited new client' index k is at received holding next =
      let quiet : PassState = record new { got = old.got } in
      let more = rests_history old quiet received.rests in
      let there : ticket_of (signed_journal new.history) old.number k ≡ Some received.ticket =
      subst (λ n. ticket_of (signed_journal new.history) old.number n ≡ Some received.ticket) at
      (subst (λ es. ticket_of (signed_journal es) old.number (index + 1) ≡ Some received.ticket) (sym more.1)
      (ticket_stays old.number old.history more.0 (index + 1) received.ticket received.is)) in
      record {
        named = rests_number old quiet received.rests;
        holding = holding;
        runs = rests_runs lines old quiet received.rests playing.runs;
        behind = past_behind (order.Wait k) new.history is refl (λ h. ap (passes (is_settled (signed_journal new.history))) there ∙ received.settled)
            (rests_behind old quiet above received.rests playing.behind);
        counts = next ∙ next_same (order.Wait k) is refl;
      }

  -- ---- `cancel`

  come_cancelled : (history : List Entry) (k t : ℕ) → ticket_of (signed_journal history) old.number k ≡ Some t
      → (is_cancelled (signed_journal history) t || is_settled (signed_journal history) t) ≡ true → has_come old.number (signed_journal history) (order.Cancel k) ≡ true
  come_cancelled history k t there done =
      ap (passes (λ u. is_cancelled (signed_journal history) u || is_settled (signed_journal history) u)) there ∙ done

  either : (a b : Bool) → (a || b) ≡ true → (b || a) ≡ true
  either true b h = or_true b
  either false true h = refl
  either false false h = h

  module _ (new : PassState) (index k : ℕ) (is : line.order ≡ order.Cancel k) (at : index + 1 ≡ k) (cancels_at : CancelsAt old new index) where
    abbrev t : ℕ
    t = cancels_at.ticket

    there : ticket_of (signed_journal old.history) old.number k ≡ Some t
    there = subst (λ n. ticket_of (signed_journal old.history) old.number n ≡ Some t) at cancels_at.is

    next : client.next ≡ next_number 1 past
    next = next_same (order.Cancel k) is refl

    module _ (cancelled : Cancels old new t) where
      later : IsLater old.number old.history cancelled.before
      later = cancelled.writes.later

      then_there : ticket_of (signed_journal cancelled.before) old.number k ≡ Some t
      then_there =
          subst (λ es. ticket_of (signed_journal es) old.number k ≡ Some t) (sym later.behind) (ticket_stays old.number old.history later.others k t there)

      signed_both : (is_settled (signed_journal cancelled.before) t || is_cancelled (signed_journal cancelled.before) t)
          ≡ (is_settled (journal_of cancelled.before) t || is_cancelled (journal_of cancelled.before) t)
      signed_both = λ i. signed_settled cancelled.before t i || signed_cancelled cancelled.before t i

      behind_before : Behind old.number cancelled.before above
      behind_before = later_behind old.number old.history cancelled.before above later playing.behind

      now_cancelled : is_cancelled (signed_journal (cancelled.before ++ made_by old.number (Cancel t) ∷ [])) t ≡ true
      now_cancelled =
          ap (λ js. is_cancelled js t) (signed-append cancelled.before (made_by old.number (Cancel t) ∷ []))
          ∙ list_any-append (cancels t) (signed_journal cancelled.before) (Cancel t ∷ [])
          ∙ ap (λ b. is_cancelled (signed_journal cancelled.before) t || (b || false)) (own t) ∙ or_true (is_cancelled (signed_journal cancelled.before) t)

      by : (b : Bool) → (is_settled (journal_of cancelled.before) t || is_cancelled (journal_of cancelled.before) t) ≡ b
          → Writes old cancelled.before (map (made_by old.number) (if b then [] else Cancel t ∷ [])) new → IsPlaying number_of old.number lines past new client
      by true e w =
          playing_wrote new cancelled.before [] client w refl tt refl next
          (subst (λ (p : PassState). Behind old.number p.history past) (sym w.written)
          (subst (λ es. Behind old.number es past) (sym (append-nil cancelled.before))
          (past_behind (order.Cancel k) cancelled.before is refl
          (λ h. come_cancelled cancelled.before k t then_there (either (is_settled (signed_journal cancelled.before) t) (is_cancelled (signed_journal cancelled.before) t) (signed_both ∙ e))) behind_before)))
      by false e w =
          let history : List Entry = cancelled.before ++ made_by old.number (Cancel t) ∷ [] in
          let legal : IsTrue (is_legal (journal_of history)) = subst (λ (p : PassState). IsTrue (is_legal (journal_of p.history))) w.written w.legal in
          let open_ = unclosed cancelled.before (made_by old.number (Cancel t)) legal (λ journal may. no_cancel journal t may) in
          let stands = stands_of old.number cancelled.before above open_ behind_before in
          playing_wrote new cancelled.before (made_by old.number (Cancel t) ∷ []) client w refl
          ((λ mine. (k, then_there, at_line (order.Cancel k) (signed_journal cancelled.before) is stands)), tt) refl next
          (subst (λ (p : PassState). Behind old.number p.history past) (sym w.written)
          (past_behind (order.Cancel k) history is refl
          (λ h. come_cancelled history k t (ticket_stays old.number cancelled.before (made_by old.number (Cancel t) ∷ []) k t then_there) (ap (λ b. b || is_settled (signed_journal history) t) now_cancelled))
          (more_behind old.number cancelled.before (made_by old.number (Cancel t) ∷ []) above refl behind_before)))

    with_done : Cancels old new t ⊎ ((new ≡ old) × (is_settled (signed_journal old.history) t ≡ true)) → IsPlaying number_of old.number lines past new client
    with_done (inl cancelled) = by cancelled (is_settled (journal_of cancelled.before) t || is_cancelled (journal_of cancelled.before) t) refl cancelled.writes
    with_done (inr same) =
        subst (λ p. IsPlaying number_of old.number lines past p client) (sym same.0)
        (playing_same next (past_behind (order.Cancel k) old.history is refl
        (λ h. come_cancelled old.history k t there (ap (λ b. is_cancelled (signed_journal old.history) t || b) same.1 ∙ or_true (is_cancelled (signed_journal old.history) t))) playing.behind))

    pub playing_cancelled : IsPlaying number_of old.number lines past new client
    playing_cancelled = with_done cancels_at.done

  -- ---- a call line

  pub playing_posted : (new : PassState) (client' : Client T) (call : Call) → line.order ≡ order.Call call → Posts number_of old new client client' call
      → IsPlaying number_of old.number lines past new client'
  playing_posted new client' call is (after, inr refused) =
      playing_wrote new new.history [] client' refused.1.writes refl tt refused.2 (after ∙ ap (λ n. n + 1) playing.counts ∙ sym (next_past above line call is))
      (inl (refused.1.shut refused.0 refl))
  playing_posted new client' call is (after, inl made) = accepted_one made.0 made.1 made.2
    where
      accepted_one : (ticket : T) → Accepts old new (number_of ticket) client.next call → client'.held.items ≡ client.held.items ++ Due ticket ∷ []
          → IsPlaying number_of old.number lines past new client'
      accepted_one ticket accepts held =
          let before : List Entry = accepts.before in
          let w = accepts.writes in
          let entry : Entry = made_by old.number (Accept (number_of ticket) old.number client.next call) in
          let mid : PassState = seeing old before in
          let holds : IsHolding number_of mid client.held.items =
          subst (λ es. IsHolding number_of (seeing old es) client.held.items) (sym w.later.behind)
          (holding_more number_of old w.later.others client.held.items (none_theirs old.number w.later.others w.later.theirs)
          (subst (λ es. IsTrue (is_legal (journal_of es))) w.later.behind w.later.legal) playing.holding) in
          let legal : IsTrue (is_legal (journal_of (before ++ entry ∷ []))) = subst (λ (p : PassState). IsTrue (is_legal (journal_of p.history))) w.written w.legal in
          let open_ = unclosed before entry legal (λ journal may. no_accept journal (number_of ticket) old.number client.next call may) in
          let stands = stands_of old.number before above open_ (later_behind old.number old.history before above w.later playing.behind) in
          let number : client.next ≡ length client.held.items + 1 =
          let a = playing.counts in let b = counted 1 above in let c = holds.counted in let d = ap length stands.calls in omega arith in
          let none : ticket_of (signed_journal before) old.number client.next ≡ None =
          subst (λ n. ticket_of (signed_journal before) old.number n ≡ None) (sym playing.counts) (next_unaccepted old.number (signed_journal before) above stands.calls) in
          let due = subst (λ p. IsDue p (number_of ticket)) w.written accepts.due in
          let holding = holding_accepted number_of mid ticket (number_of ticket) client.next call client.held.items holds accepts.next number none legal refl due in
          let calls = calls_then number_of mid ticket (number_of ticket) client.next call client.held.items holds accepts.next number none legal refl due in
          record {
            named = ap (λ (p : PassState). p.number) w.written;
            holding = subst (IsHolding number_of new) (sym held) (subst (λ p. IsHolding number_of p (client.held.items ++ Due ticket ∷ [])) (sym w.written) holding);
            runs = subst (λ (p : PassState). Runs old.number lines p.history) (sym w.written)
                (runs_more old.number lines before (entry ∷ []) (runs_later old.number lines old.history before w.later playing.runs)
                ((λ mine. (refl, (at_line (order.Call call) (signed_journal before) is stands, playing.counts))), tt));
            behind = inr (subst (λ (p : PassState). Stands old.number (signed_journal p.history) past) (sym w.written)
                (stands_called old.number (signed_journal (before ++ entry ∷ [])) above line call is
                (calls ∙ (λ i. stands.calls i ++ (playing.counts i, call) ∷ [])) (all_come old.number before (entry ∷ []) above stands.come)));
            counts = after ∙ ap (λ n. n + 1) playing.counts ∙ sym (next_past above line call is);
          }

-- ---- a client that is stopped

pub stopped : {T : Type 0} (number_of : T → ℕ) (lines above : List Line) (old new : PassState) (client : Client T) → IsPlaying number_of old.number lines above old client
    → Rests old new → HasStopped old.number lines new
stopped number_of lines above old new client playing rests = record { named = rests_number old new rests; runs = rests_runs lines old new rests playing.runs }
