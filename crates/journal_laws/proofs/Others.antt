-- What others leave as it is.
use Rattle.std.proofs.Common.{◌≡◌, ℕ, Bool, true, false, true≢false, ◌||◌, ◌==◌, is_none, if◌then◌else◌, IsTrue, List, [], ◌∷◌, ◌++◌, Option, Some, None, is_some, unwrap_or, refl, sym, ap, ◌∙◌, subst, arith, append_assoc, append-nil}
use Rattle.std.proofs.Math.Bool.{or-false}
use Rattle.std.proofs.lemmas.Bool.{and_parts}
use Rattle.ask_history.specs.Sources.{Bytes, Sources}
use Rattle.ask_history.specs.Journal.{after, checked, call_of, call_under, first_of_two, is_close, is_closed, is_cancelled, cancels, is_settled, settles, forestalled, by_mark, mutation_only, taking_effect, changed, sources_step, checked_step, found, reply}
use Rattle.ask_history.specs.Legal.{may_follow, is_legal}
use Rattle.ask_history.specs.declared.answers.Answer.{Answer}
use Rattle.ask_history.specs.declared.answers.Answer.TheVariants as answer
use Rattle.ask_history.specs.declared.calls.Call.{Call}
use Rattle.ask_history.specs.declared.events.Mark.{Mark}
use Rattle.ask_history.specs.declared.events.Event.{Event}
use Rattle.ask_history.specs.declared.events.Event.TheVariants.{Accept, Cancel, Close, Settle, Checked}
use Rattle.ask_history.proofs.Pushes.{list_any-push, accepted-push, call_of-push}
use Rattle.ask_history.proofs.Walks.{along-push}
use Rattle.journal_laws.specs.Others.{is_others, are_others}
use Rattle.journal_laws.specs.Stays.{Stays}
use Rattle.journal_laws.proofs.Settling.{next_kept}
use Rattle.journal_laws.proofs.Tickets.{may_first}

-- ---- one event

pub sources_settled : (journal : List Event) (t : ℕ) (mark : Mark) → after (journal ++ Settle t mark ∷ []) ≡ changed (after journal) (taking_effect journal t mark)
sources_settled journal t mark = along-push sources_step [] journal (Settle t mark)

pub settled_one : (journal : List Event) (t u : ℕ) (mark : Mark) → is_settled (journal ++ Settle t mark ∷ []) u ≡ (is_settled journal u || (t == u))
settled_one journal t u mark = list_any-push (settles u) journal (Settle t mark)

pub files_checked : (journal : List Event) (file : Bytes) → checked (journal ++ Checked file ∷ []) ≡ checked journal ++ file ∷ []
files_checked journal file = along-push checked_step [] journal (Checked file)

-- behind the shutdown no mutation takes effect
pub none_behind_close : (journal : List Event) (t : ℕ) (mark : Mark) → IsTrue (is_closed journal) → taking_effect journal t mark ≡ None
none_behind_close journal t mark closed =
    ap (λ b. if is_none (if b then Some answer.Closed else (if is_cancelled journal t then Some answer.Cancelled else by_mark mark)) then mutation_only (call_of journal t) else None) closed

other_sources : (journal : List Event) (event : Event) → IsTrue (is_others (is_closed journal) event) → after (journal ++ event ∷ []) ≡ after journal
other_sources journal (Accept ticket client tag call) other = along-push sources_step [] journal (Accept ticket client tag call)
other_sources journal (Cancel ticket) other = along-push sources_step [] journal (Cancel ticket)
other_sources journal Close other = along-push sources_step [] journal Close
other_sources journal (Settle ticket mark) other = sources_settled journal ticket mark ∙ ap (changed (after journal)) (none_behind_close journal ticket mark other)
other_sources journal (Checked file) other = absurd (true≢false (sym other))

other_files : (journal : List Event) (event : Event) → IsTrue (is_others (is_closed journal) event) → checked (journal ++ event ∷ []) ≡ checked journal
other_files journal (Accept ticket client tag call) other = along-push checked_step [] journal (Accept ticket client tag call)
other_files journal (Cancel ticket) other = along-push checked_step [] journal (Cancel ticket)
other_files journal Close other = along-push checked_step [] journal Close
other_files journal (Settle ticket mark) other =
    along-push checked_step [] journal (Settle ticket mark)
    ∙ ap (λ o. if is_some o then [] else checked journal) (none_behind_close journal ticket mark other)
other_files journal (Checked file) other = absurd (true≢false (sym other))

-- ---- many events

module _ {X : Type 0} (seen : List Event → X) (one : (journal : List Event) (event : Event) → IsTrue (is_others (is_closed journal) event) → seen (journal ++ event ∷ []) ≡ seen journal) where
  others_leave : (journal events : List Event) → IsTrue (are_others (is_closed journal) events) → seen (journal ++ events) ≡ seen journal
  others_leave journal [] theirs = ap seen (append-nil journal)
  others_leave journal (event ∷ events) theirs =
      let parts = and_parts (is_others (is_closed journal) event) (are_others (is_closed journal || is_close event) events) theirs in
      let both : is_closed (journal ++ event ∷ []) ≡ (is_closed journal || is_close event) = list_any-push is_close journal event in
      ap seen (sym (append_assoc journal (event ∷ []) events))
      ∙ others_leave (journal ++ event ∷ []) events (subst (λ b. IsTrue (are_others b events)) (sym both) parts.1)
      ∙ one journal event parts.0

pub others_leave_sources : (journal events : List Event) → IsTrue (are_others (is_closed journal) events) → after (journal ++ events) ≡ after journal
others_leave_sources = others_leave after other_sources

pub others_leave_files : (journal events : List Event) → IsTrue (are_others (is_closed journal) events) → checked (journal ++ events) ≡ checked journal
others_leave_files = others_leave checked other_files

-- ---- what stays until the shutdown

stays-same : (journal : List Event) → Stays journal journal
stays-same journal = record {
  sources = refl;
  files = refl;
  settled = λ t. refl;
  calls = λ t call h. h;
  cancels = λ t h. h;
  more = omega arith;
  next = λ t within h. h;
}

stays-further : (a b c : List Event) → Stays a b → Stays b c → Stays a c
stays-further a b c s u = record {
  sources = u.sources ∙ s.sources;
  files = u.files ∙ s.files;
  settled = λ t. u.settled t ∙ s.settled t;
  calls = λ t call h. u.calls t call (s.calls t call h);
  cancels = λ t h. u.cancels t (s.cancels t h);
  more = let m = s.more in let n = u.more in omega arith;
  next = λ t within h. let m = s.more in u.next t (omega arith) (s.next t within h);
}

-- one event of others that settles nobody
stays-one : (journal : List Event) (event : Event) → IsTrue (may_follow journal event) → IsTrue (is_others (is_closed journal) event)
    → ((k : ℕ) → settles k event ≡ false) → Stays journal (journal ++ event ∷ [])
stays-one journal event may other none = record {
  sources = other_sources journal event other;
  files = other_files journal event other;
  settled = λ k. list_any-push (settles k) journal event ∙ ap (λ b. is_settled journal k || b) (none k) ∙ or-false (is_settled journal k);
  calls = λ t call h. call_of-push journal event t ∙ ap (λ o. first_of_two o (call_under t event)) h;
  cancels = λ t h. list_any-push (cancels t) journal event ∙ ap (λ b. b || cancels t event) h;
  more = omega (arith, accepted-push journal event);
  next = λ t within h. next_kept journal event t may within h;
}

other_stays : (journal : List Event) (event : Event) → IsTrue (may_follow journal event) → is_closed journal ≡ false → IsTrue (is_others (is_closed journal) event)
    → Stays journal (journal ++ event ∷ [])
other_stays journal (Accept ticket client tag call) may open_ other = stays-one journal (Accept ticket client tag call) may other (λ k. refl)
other_stays journal (Cancel ticket) may open_ other = stays-one journal (Cancel ticket) may other (λ k. refl)
other_stays journal Close may open_ other = stays-one journal Close may other (λ k. refl)
other_stays journal (Settle ticket mark) may open_ other = absurd (true≢false (sym other ∙ open_))
other_stays journal (Checked file) may open_ other = absurd (true≢false (sym other))

-- the shutdown stands in what follows where it stands before
pub closed-further : (journal events : List Event) → is_closed (journal ++ events) ≡ false → is_closed journal ≡ false
closed-further [] events h = refl
closed-further (event ∷ journal) events h = by (is_close event) h (closed-further journal events)
  where
    by : (b : Bool) → (b || is_closed (journal ++ events)) ≡ false → (is_closed (journal ++ events) ≡ false → is_closed journal ≡ false) → (b || is_closed journal) ≡ false
    by true k later = absurd (true≢false k)
    by false k later = later k

pub others_stay : (journal events : List Event) → IsTrue (is_legal (journal ++ events)) → IsTrue (are_others (is_closed journal) events)
    → is_closed (journal ++ events) ≡ false → Stays journal (journal ++ events)
others_stay journal [] legal theirs open_ = subst (Stays journal) (sym (append-nil journal)) (stays-same journal)
others_stay journal (event ∷ events) legal theirs open_ =
    let more : List Event = journal ++ event ∷ [] in
    let same : more ++ events ≡ journal ++ event ∷ events = append_assoc journal (event ∷ []) events in
    let parts = and_parts (is_others (is_closed journal) event) (are_others (is_closed journal || is_close event) events) theirs in
    let both : is_closed more ≡ (is_closed journal || is_close event) = list_any-push is_close journal event in
    let one = other_stays journal event (may_first journal event events legal).1 (closed-further journal (event ∷ events) open_) parts.0 in
    subst (Stays journal) same
    (stays-further journal more (more ++ events) one
    (others_stay more events (subst (λ js. IsTrue (is_legal js)) (sym same) legal) (subst (λ b. IsTrue (are_others b events)) (sym both) parts.1) (ap is_closed same ∙ open_)))

-- ---- answers

pub forestalled_reply : (f g : Sources → Call → Answer) (journal : List Event) (t : ℕ) (mark : Mark) → is_none (forestalled journal t mark) ≡ false
    → reply f journal t mark ≡ reply g journal t mark
forestalled_reply f g journal t mark h = by (forestalled journal t mark) h
  where
    by : (o : Option Answer) → is_none o ≡ false → unwrap_or o (found f (after journal) (call_of journal t)) ≡ unwrap_or o (found g (after journal) (call_of journal t))
    by None k = absurd (true≢false k)
    by (Some given) k = refl
