-- The loop that puts the settlings of a shutdown behind the history.
use Rattle.std.proofs.Common.{◌≡◌, ℕ, ◌+◌, ◌<◌, Bool, true, false, true≢false, not, ◌||◌, ◌&&◌, ◌==◌, if◌then◌else◌, IsTrue, List, [], ◌∷◌, ◌++◌, length, get_or, take, drop, Some, None, is_some, refl, sym, ap, ◌∙◌, subst, arith, append_assoc, append-nil}
use Rattle.std.specs.Prelude.{slice_get, slice_set}
use Rattle.std.specs.List.{list_any}
use Rattle.std.proofs.lemmas.Bool.{and_parts}
use Rattle.std.proofs.lemmas.List.{take_more, take-append-drop}
use Rattle.std.proofs.lemmas.List.Folds.{list_any-append}
use Rattle.ask_history.specs.Sources.{is_loaded}
use Rattle.std.specs.Str.{bytes_eq}
use Rattle.ask_history.specs.Journal.{accepted, after, checked, call_of, is_cancelled, is_close, is_closed, is_open, is_settled}
use Rattle.ask_history.specs.Legal.{is_legal, is_next, may_follow}
use Rattle.ask_history.specs.declared.answers.Answer.TheVariants as answer
use Rattle.ask_history.specs.declared.events.Event.{Event}
use Rattle.ask_history.specs.declared.events.Event.TheVariants.{Accept, Cancel, Close, Settle, Checked}
use Rattle.ask_history.specs.declared.events.Mark.{Mark}
use Rattle.ask_history.proofs.Accepted.{accepted_below, settled_once}
use Rattle.ask_history.proofs.Orders.{is_settled-append}
use Rattle.ask_history.proofs.Walks.{along-push, is_legal-prefix}
use Rattle.response_cell.specs.declared.cells.Cell.{Cell}
use Rattle.response_cell.specs.declared.cells.Cell.TheVariants.{Set, Empty}
use Rattle.work_queue.specs.declared.limits.Limits.{Limits}
use Rattle.counting_word.specs.declared.view.Entry.{Entry}
use Rattle.counting_word.specs.declared.view.Found.TheVariants.{Nothing, Answered}
use Rattle.counting_word.specs.declared.view.View.{View}
use Rattle.counting_word.specs.History.{journal_of, has}
use Rattle.counting_word.specs.Views.{appended}
use Rattle.counting_word.specs.Calls.{entry_of}
use Rattle.counting_word.proofs.Counting.{journal_of-append}
use Rattle.ask_desk.specs.Answers.{written, caller_entry, closing}
use Rattle.ask_desk.specs.Events.{settled_ticket}
use Rattle.ask_desk.specs.Locked.{IsDesk, AreSettled, told}
use Rattle.ask_desk.proofs.Desks.{desk-append, desk-settle, blank_there}
use Rattle.ask_history.proofs.Pushes.{accepted-push}
use Rattle.ask_history.specs.Closing.{after_close, open_tickets, settled}
use Rattle.work_queue.specs.Queue.{QueueState}

pub settling_of : (event : Event) (t : ℕ) → settled_ticket event ≡ Some t → (m : Mark) × (event ≡ Settle t m)
settling_of (Settle ticket m) t h = let same : ticket ≡ t = cc in (m, ap (λ n. Settle n m) same)
settling_of (Accept ticket client tag call) t h = absurd cc
settling_of (Cancel ticket) t h = absurd cc
settling_of Close t h = absurd cc
settling_of (Checked file) t h = absurd cc

-- what stands behind the shutdown settles a ticket
pub only_settlings : (journal : List Event) (event : Event) → is_closed journal ≡ true → IsTrue (may_follow journal event) → settled_ticket event ≡ None → ⊥
only_settlings journal (Settle ticket m) closed may h = absurd cc
only_settlings journal (Accept ticket client tag call) closed may h =
    true≢false (sym (and_parts (ticket == accepted journal) (not (is_closed journal)) may).1 ∙ ap not closed)
only_settlings journal (Cancel ticket) closed may h =
    true≢false (sym (and_parts (is_open journal ticket && not (is_cancelled journal ticket)) (not (is_closed journal)) may).1 ∙ ap not closed)
only_settlings journal Close closed may h = true≢false (sym may ∙ ap not closed)
only_settlings journal (Checked file) closed may h =
    true≢false (sym (and_parts (is_loaded (after journal) file && not (list_any (bytes_eq file) (checked journal))) (not (is_closed journal)) may).1 ∙ ap not closed)

-- the last event of a legal journal may stand there
pub may_last : (journal : List Event) (event : Event) → IsTrue (is_legal (journal ++ event ∷ [])) → IsTrue (is_legal journal) × IsTrue (may_follow journal event)
may_last journal event legal =
    and_parts (is_legal journal) (may_follow journal event) (sym (along-push (λ b l e. l && may_follow b e) true journal event) ∙ legal)

pub next_taken : (events : List Event) (i : ℕ) (event : Event) → i < length events → event ≡ get_or events i event → take (i + 1) events ≡ take i events ++ event ∷ []
next_taken events i event within read = take_more events i event within ∙ ap (λ e. take i events ++ e ∷ []) (sym read)

-- an event of a legal journal may stand behind those before it
pub legal_next : (journal events : List Event) (i : ℕ) (event : Event) → i < length events → event ≡ get_or events i event → IsTrue (is_legal (journal ++ events))
    → IsTrue (is_legal ((journal ++ take i events) ++ event ∷ []))
legal_next journal events i event within read legal =
    is_legal-prefix ((journal ++ take i events) ++ event ∷ []) (drop (i + 1) events) (subst (λ js. IsTrue (is_legal js)) (sym same) legal)
  where
    same : ((journal ++ take i events) ++ event ∷ []) ++ drop (i + 1) events ≡ journal ++ events
    same =
        ap (λ js. js ++ drop (i + 1) events) (append_assoc journal (take i events) (event ∷ []) ∙ ap (λ es. journal ++ es) (sym (next_taken events i event within read)))
        ∙ append_assoc journal (take (i + 1) events) (drop (i + 1) events) ∙ ap (λ es. journal ++ es) (take-append-drop (i + 1) events)

written-push : (view : View) (events : List Event) (event : Event)
    → written view (events ++ event ∷ []) ≡ appended (written view events) (caller_entry (written view events).name event)
written-push view [] event = refl
written-push view (first ∷ events) event = written-push (appended view (caller_entry view.name first)) events event

-- these events of a shutdown are written
pub record IsWriting (old now : View) (events : List Event) (cells : List Cell) (limits : Limits) : Type 0 where
  pub view : now ≡ written old events
  pub leads : now.leads ≡ true
  pub number : now.name.number ≡ old.name.number
  pub journal : journal_of now.seen ≡ journal_of old.seen ++ events
  pub desk : IsDesk (told now.seen limits) cells now.seen now.name.given limits
  pub closed : is_closed (journal_of now.seen) ≡ true
  pub given : AreSettled now.name.given now.seen

pub writing-none : (old : View) (cells : List Cell) (limits : Limits) → old.leads ≡ true → is_closed (journal_of old.seen) ≡ true → AreSettled old.name.given old.seen
    → IsDesk (told old.seen limits) cells old.seen old.name.given limits → IsWriting old old [] cells limits
writing-none old cells limits leads closed given desk = record {
  view = refl;
  leads = leads;
  number = refl;
  journal = sym (append-nil (journal_of old.seen));
  desk = desk;
  closed = closed;
  given = given;
}

module _ (old now : View) (events : List Event) (cells : List Cell) (limits : Limits) (writing : IsWriting old now events cells limits) where
  -- one settling more
  pub writing-more : (event : Event) (t : ℕ) → settled_ticket event ≡ Some t → IsTrue (is_legal (journal_of now.seen ++ event ∷ []))
      → IsWriting old (appended now (entry_of now.name event (Answered answer.Closed))) (events ++ event ∷ []) (slice_set cells t (Set answer.Closed)) limits
  writing-more event t settles_t legal = subst More (sym is) more
    where
      m : Mark
      m = (settling_of event t settles_t).0

      is : event ≡ Settle t m
      is = (settling_of event t settles_t).1

      More : Event → Type 0
      More e = IsWriting old (appended now (entry_of now.name e (Answered answer.Closed))) (events ++ e ∷ []) (slice_set cells t (Set answer.Closed)) limits

      last : IsTrue (is_legal (journal_of now.seen)) × IsTrue (may_follow (journal_of now.seen) (Settle t m))
      last = may_last (journal_of now.seen) (Settle t m) (subst (λ e. IsTrue (is_legal (journal_of now.seen ++ e ∷ []))) is legal)

      unsettled : is_settled (journal_of now.seen) t ≡ false
      unsettled = settled_once (journal_of now.seen) t m last.1

      within : t < accepted (journal_of now.seen)
      within =
          let opens = (and_parts (is_open (journal_of now.seen) t) (is_next (journal_of now.seen) t) last.1).0 in
          accepted_below (journal_of now.seen) last.0 t (and_parts (is_some (call_of (journal_of now.seen) t)) (not (is_settled (journal_of now.seen) t)) opens).0

      fresh : (b : Bool) → has now.name.given t ≡ b → has now.name.given t ≡ false
      fresh true e = absurd (true≢false (sym (writing.given t e) ∙ unsettled))
      fresh false e = e

      entry : Entry
      entry = entry_of now.name (Settle t m) (Answered answer.Closed)

      same : journal_of (now.seen ++ entry ∷ []) ≡ journal_of now.seen ++ Settle t m ∷ []
      same = journal_of-append now.seen (entry ∷ [])

      more : More (Settle t m)
      more = record {
        view = ap (λ v. appended v (caller_entry v.name (Settle t m))) writing.view ∙ sym (written-push old events (Settle t m));
        leads = writing.leads;
        number = writing.number;
        journal = same ∙ ap (λ js. js ++ Settle t m ∷ []) writing.journal ∙ append_assoc (journal_of old.seen) events (Settle t m ∷ []);
        desk = desk-settle (told now.seen limits) cells now.seen now.name.given limits writing.desk (told (now.seen ++ entry ∷ []) limits) t m entry.author answer.Closed
            same refl (fresh (has now.name.given t) refl) unsettled within (ap (λ b. b || (entry.author == 4294967296)) writing.closed);
        closed = ap is_closed same ∙ list_any-append is_close (journal_of now.seen) (Settle t m ∷ []) ∙ ap (λ b. b || false) writing.closed;
        given = λ k h. ap (λ js. is_settled js k) same ∙ is_settled-append (journal_of now.seen) k (Settle t m ∷ []) (writing.given k h);
      }

  -- the cell of the ticket that is settled next
  pub writing-blank : (event : Event) (t : ℕ) → settled_ticket event ≡ Some t → IsTrue (is_legal (journal_of now.seen ++ event ∷ [])) → slice_get cells t ≡ Some Empty
  writing-blank event t settles_t legal =
      blank_there (told now.seen limits) cells now.seen now.name.given limits writing.desk t within (settled_once (journal_of now.seen) t m last.1)
    where
      m : Mark
      m = (settling_of event t settles_t).0

      last : IsTrue (is_legal (journal_of now.seen)) × IsTrue (may_follow (journal_of now.seen) (Settle t m))
      last = may_last (journal_of now.seen) (Settle t m) (subst (λ e. IsTrue (is_legal (journal_of now.seen ++ e ∷ []))) (settling_of event t settles_t).1 legal)

      within : t < accepted (journal_of now.seen)
      within =
          let opens = (and_parts (is_open (journal_of now.seen) t) (is_next (journal_of now.seen) t) last.1).0 in
          accepted_below (journal_of now.seen) last.0 t (and_parts (is_some (call_of (journal_of now.seen) t)) (not (is_settled (journal_of now.seen) t)) opens).0

-- ---- the shutdown itself

pub closing_first : (journal : List Event) (event : Event) (rest : List Event) → closing journal ≡ event ∷ rest → event ≡ Close
closing_first journal event rest h = by (is_closed journal) h
  where
    by : (b : Bool) → (if b then [] else Close ∷ settled (open_tickets journal)) ≡ event ∷ rest → event ≡ Close
    by true k = absurd cc
    by false k = cc

pub after_close-closing : (journal : List Event) → after_close journal ≡ journal ++ closing journal
after_close-closing journal = by (is_closed journal)
  where
    by : (b : Bool) → (if b then journal else journal ++ Close ∷ settled (open_tickets journal))
        ≡ journal ++ (if b then [] else Close ∷ settled (open_tickets journal))
    by true = sym (append-nil journal)
    by false = refl

-- the first event of a shutdown leaves a legal journal
pub legal_first : (journal : List Event) (event : Event) (rest : List Event) → IsTrue (is_legal (journal ++ event ∷ rest)) → IsTrue (is_legal (journal ++ event ∷ []))
legal_first journal event rest legal =
    is_legal-prefix (journal ++ event ∷ []) rest (subst (λ js. IsTrue (is_legal js)) (sym (append_assoc journal (event ∷ []) rest)) legal)

pub shut_desk : (seat : View) (event : Event) (cells : List Cell) (limits : Limits) → event ≡ Close
    → IsDesk (told seat.seen limits) cells seat.seen seat.name.given limits
    → IsDesk (told (appended seat (entry_of seat.name event Nothing)).seen limits) cells (appended seat (entry_of seat.name event Nothing)).seen seat.name.given limits
shut_desk seat event cells limits is desk =
    subst (λ e. IsDesk (told (seat.seen ++ entry_of seat.name e Nothing ∷ []) limits) cells (seat.seen ++ entry_of seat.name e Nothing ∷ []) seat.name.given limits) (sym is)
    (desk-append (told seat.seen limits) cells seat.seen seat.name.given limits desk (told (seat.seen ++ entry_of seat.name Close Nothing ∷ []) limits) (entry_of seat.name Close Nothing)
    (journal_of-append seat.seen (entry_of seat.name Close Nothing ∷ [])) refl (λ t. refl) refl
    (let c = desk.covered in omega (arith, accepted-push (journal_of seat.seen) Close)))

-- the state of the desk is told by its history
pub desk_told : (queue : QueueState) (cells : List Cell) (history : List Entry) (given : List ℕ) (limits : Limits) → journal_of history ≡ queue.journal → queue.limits ≡ limits
    → IsDesk (told history limits) cells history given limits → IsDesk queue cells history given limits
desk_told queue cells history given limits journal carried desk = record {
  journal = journal;
  carried = carried;
  rightful = desk.rightful;
  answered = desk.answered;
  covered = desk.covered;
  blank = desk.blank;
  held = desk.held;
}
