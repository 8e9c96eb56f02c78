-- What the calls of the engine's pass do to it.
use Rattle.std.proofs.Common.{◌≡◌, ◌⊎◌, inl, inr, ℕ, ◌+◌, ◌<◌, ◌≤◌, ◌==◌, Bool, true, false, true≢false, not, ◌||◌, ◌&&◌, cond, is_none, is_some, IsTrue, if◌then◌else◌, List, [], ◌∷◌, ◌++◌, length, Option, Some, None, Result, refl, sym, ap, ◌∙◌, subst, arith, append_assoc, append-nil}
use Rattle.std.proofs.Math.Bool.{or-false}
use Rattle.std.proofs.lemmas.Bool.{and_parts, and_from}
use Rattle.std.specs.List.{find}
use Rattle.std.proofs.lemmas.List.Sums.{sum_by-append}
use Rattle.std.proofs.lemmas.List.Folds.{list_any-append}
use Rattle.std.proofs.lemmas.List.Elements.{filter-append}
use mathlib.Core.List.{IsPrefix}
use Rattle.pc_terms.specs.declared.errors.NoMemory.{NoMemory}
use Rattle.pc_terms.specs.declared.problems.Problem.{Problem}
use Rattle.ask_history.specs.Sources.{Bytes}
use Rattle.ask_history.specs.Journal.{accepted, is_accept, by_mark, call_of, is_cancelled, is_close, is_closed, is_open, is_settled, mutation_only, taking_effect}
use Rattle.ask_history.specs.Legal.{is_legal, is_next, may_follow}
use Rattle.ask_history.specs.declared.calls.Call.{Call}
use Rattle.ask_history.specs.declared.answers.Answer.TheVariants as answer
use Rattle.ask_history.specs.declared.engine.Effect.{Effect}
use Rattle.ask_history.specs.declared.engine.Effect.TheVariants.{Dropped}
use Rattle.ask_history.specs.declared.events.Mark.{Mark}
use Rattle.ask_history.proofs.Accepted.{accepted_below, settled_once}
use Rattle.ask_history.specs.declared.events.Event.{Event}
use Rattle.ask_history.specs.declared.events.Event.TheVariants.{Accept, Cancel, Close, Settle, Checked}
use Rattle.response_cell.specs.declared.cells.Cell.{Cell}
use Rattle.work_queue.specs.Queue.{QueueState, mark_of, effect_of}
use Rattle.work_queue.specs.declared.limits.Settling.{Settling}
use Rattle.work_queue.specs.declared.limits.Limits.{Limits}
use Rattle.counting_word.specs.declared.view.Entry.{Entry}
use Rattle.counting_word.specs.declared.view.View.{View}
use Rattle.counting_word.specs.History.{journal_of, entries_by, engine_number, has}
use Rattle.counting_word.specs.Views.{appended}
use Rattle.counting_word.specs.Calls.{TakesLead, GivesLead}
use Rattle.counting_word.proofs.Beginnings.{begins-trans, length-begins}
use Rattle.counting_word.proofs.Counting.{journal_of-append}
use Rattle.ask_desk.specs.Answers.{is_rightful, may_make}
use Rattle.ask_desk.specs.Facts.{IsPass}
use Rattle.ask_desk.specs.Locked.{IsDesk, AreSettled}
use Rattle.journal_laws.specs.Others.{is_others, are_others}
use Rattle.journal_laws.specs.Stays.{Stays}
use Rattle.journal_laws.proofs.Others.{others_stay, closed-further}
use Rattle.ask_desk.specs.Driving.{IsLater, Works, settled_as, Settles, checking, Checks, Looks, IsPosted, Finds}
use Rattle.ask_desk.specs.declared.driving.News.{News}
use Rattle.ask_desk.specs.declared.driving.CheckNoted.TheVariants as noted
use Rattle.ask_desk.proofs.Others.{open_stays, check_stays}
use Rattle.ask_desk.proofs.Passing.{settled-begins}

-- ---- what others did

no_more : (xs ys : List Entry) → xs ++ ys ≡ xs → ys ≡ []
no_more [] ys e = e
no_more (x ∷ xs) ys e = no_more xs ys cc

-- what stands behind is rightful by itself
rightful_behind : (closed : Bool) (xs ys : List Entry) → IsTrue (is_rightful closed (xs ++ ys)) → IsTrue (is_rightful (closed || is_closed (journal_of xs)) ys)
rightful_behind closed [] ys h = subst (λ b. IsTrue (is_rightful b ys)) (sym (or_false closed)) h
  where
    or_false : (b : Bool) → (b || false) ≡ b
    or_false true = refl
    or_false false = refl
rightful_behind closed (x ∷ xs) ys h =
    subst (λ b. IsTrue (is_rightful b ys)) (assoc closed (is_close x.event) (is_closed (journal_of xs)))
    (rightful_behind (closed || is_close x.event) xs ys (and_parts (may_make closed x.event x.author) (is_rightful (closed || is_close x.event) (xs ++ ys)) h).1)
  where
    assoc : (a b c : Bool) → ((a || b) || c) ≡ (a || (b || c))
    assoc true b c = refl
    assoc false b c = refl

-- one who is not the engine makes events of others
others_make : (closed : Bool) (event : Event) (author : ℕ) → (author == engine_number) ≡ false → IsTrue (may_make closed event author) → IsTrue (is_others closed event)
others_make closed (Checked file) author n h = absurd (true≢false (sym h ∙ n))
others_make closed (Settle ticket mark) author n h = sym (or_no closed) ∙ ap (λ b. closed || b) (sym n) ∙ h
  where
    or_no : (b : Bool) → (b || false) ≡ b
    or_no true = refl
    or_no false = refl
others_make closed (Accept ticket client tag call) author n h = refl
others_make closed (Cancel ticket) author n h = refl
others_make closed Close author n h = refl

others_made : (closed : Bool) (entries : List Entry) → IsTrue (is_rightful closed entries) → entries_by engine_number entries ≡ [] → IsTrue (are_others closed (journal_of entries))
others_made closed [] h none = refl
others_made closed (entry ∷ entries) h none =
    let parts = and_parts (may_make closed entry.event entry.author) (is_rightful (closed || is_close entry.event) entries) h in
    by (entry.author == engine_number) refl none parts.0 (others_made (closed || is_close entry.event) entries parts.1)
  where
    by : (b : Bool) → (entry.author == engine_number) ≡ b → (if b then entry ∷ entries_by engine_number entries else entries_by engine_number entries) ≡ []
        → IsTrue (may_make closed entry.event entry.author)
        → (entries_by engine_number entries ≡ [] → IsTrue (are_others (closed || is_close entry.event) (journal_of entries)))
        → IsTrue (is_others closed entry.event && are_others (closed || is_close entry.event) (journal_of entries))
    by true e k may later = absurd cc
    by false e k may later =
        and_from (is_others closed entry.event) (are_others (closed || is_close entry.event) (journal_of entries))
        (others_make closed entry.event entry.author e may) (later k)

-- before the shutdown, what others did leaves what the engine needs
pub later_stays : (old now : List Entry) → IsLater old now → IsTrue (is_legal (journal_of now)) → is_closed (journal_of now) ≡ false → Stays (journal_of old) (journal_of now)
later_stays old now later legal open_ =
    let same : journal_of now ≡ journal_of old ++ journal_of later.others = ap journal_of later.behind ∙ journal_of-append old later.others in
    subst (Stays (journal_of old)) (sym same)
    (others_stay (journal_of old) (journal_of later.others) (subst (λ js. IsTrue (is_legal js)) same legal) later.kinds (sym (ap is_closed same) ∙ open_))

-- what was shut down stays so
pub later_open : (old now : List Entry) → IsLater old now → is_closed (journal_of now) ≡ false → is_closed (journal_of old) ≡ false
later_open old now later open_ =
    closed-further (journal_of old) (journal_of later.others) (sym (ap is_closed (ap journal_of later.behind ∙ journal_of-append old later.others)) ∙ open_)

accepted-append : (front back : List Event) → accepted front ≤ accepted (front ++ back)
accepted-append front back = omega (arith, sum_by-append (λ (e : Event). cond (is_accept e) 1 0) front back)

-- ---- a ticket that is settled

module _ (history : List Entry) (given : List ℕ) (t : ℕ) (m : Mark) (legal : IsTrue (is_legal (journal_of history))) (opened : IsTrue (is_open (journal_of history) t))
    (next : IsTrue (is_next (journal_of history) t)) where
  pub settled_within : t < accepted (journal_of history)
  settled_within =
      accepted_below (journal_of history) legal t
      (and_parts (is_some (call_of (journal_of history) t)) (not (is_settled (journal_of history) t)) opened).0

  pub settled_first : is_settled (journal_of history) t ≡ false
  settled_first = settled_once (journal_of history) t m (and_from (is_open (journal_of history) t) (is_next (journal_of history) t) opened next)

  pub settled_ungiven : AreSettled given history → has given t ≡ false
  settled_ungiven settled = by (has given t) refl
    where
      by : (b : Bool) → has given t ≡ b → b ≡ false
      by true e = absurd (true≢false (sym (settled t e) ∙ settled_first))
      by false e = refl

-- ---- a call of the engine's pass

pub engines_pass : (view : View) (number : ℕ) → IsPass view number → view.name.number ≡ Some engine_number → IsPass view engine_number
engines_pass view number pass engine = record { follows = pass.follows; knows = pass.knows; named = engine; settled = pass.settled }

-- behind the shutdown no mutation takes effect
dropped_behind : (journal : List Event) (ticket : ℕ) (what : Settling) → is_closed journal ≡ true → Dropped ≡ effect_of (taking_effect journal ticket (mark_of what))
dropped_behind journal ticket what closed = by (is_closed journal) closed
  where
    by : (b : Bool) → b ≡ true
        → Dropped ≡ effect_of (if is_none (if b then Some answer.Closed else (if is_cancelled journal ticket then Some answer.Cancelled else by_mark (mark_of what))) then mutation_only (call_of journal ticket) else None)
    by true e = refl
    by false e = absurd (true≢false (sym e))

module _ (queue : QueueState) (cells : List Cell) (limits : Limits) (old scribe led : View) (takes : TakesLead old scribe led)
    (pass : IsPass old engine_number) (desk : IsDesk queue cells scribe.seen scribe.name.given limits) where
  seen_led : led.seen ≡ scribe.seen
  seen_led = ap (λ (v : View). v.seen) takes.view

  own_led : led.name.own ≡ old.name.own
  own_led = ap (λ (v : View). v.name.own) takes.view

  pub later : IsLater old.seen scribe.seen
  later =
      let others : List Entry = takes.begins.0 in
      let behind : scribe.seen ≡ old.seen ++ others = sym takes.begins.1 in
      let mine : old.name.own ≡ entries_by engine_number old.seen = pass.knows.own engine_number pass.named in
      let mine_led : led.name.own ≡ entries_by engine_number led.seen =
      takes.knows.own engine_number (ap (λ (v : View). v.name.number) takes.view ∙ pass.named) in
      let whole : entries_by engine_number old.seen ++ entries_by engine_number others ≡ entries_by engine_number old.seen =
      sym (filter-append (λ (entry : Entry). entry.author == engine_number) old.seen others) ∙ ap (entries_by engine_number) (sym behind ∙ sym seen_led)
      ∙ sym mine_led ∙ own_led ∙ mine in
      let none = no_more (entries_by engine_number old.seen) (entries_by engine_number others) whole in
      record {
        others = others;
        behind = behind;
        theirs = none;
        kinds = others_made (is_closed (journal_of old.seen)) others
            (rightful_behind false old.seen others (subst (λ es. IsTrue (is_rightful false es)) behind desk.rightful)) none;
      }

  stays : is_closed (journal_of led.seen) ≡ false → Stays (journal_of old.seen) (journal_of led.seen)
  stays open_ =
      subst (λ (es : List Entry). Stays (journal_of old.seen) (journal_of es)) (sym seen_led)
      (later_stays old.seen scribe.seen later (subst (λ es. IsTrue (is_legal (journal_of es))) seen_led takes.knows.legal) (ap (λ es. is_closed (journal_of es)) (sym seen_led) ∙ open_))

  -- what the pass knows after it put these entries behind the history
  module _ (done new next : View) (entries : List Entry) (gives : GivesLead done new next) (seen : done.seen ≡ led.seen ++ entries)
      (own : done.name.own ≡ led.name.own ++ entries) (loads : done.loads ≡ led.loads) (number : done.name.number ≡ led.name.number)
      (got : done.name.got ≡ led.name.got) (made : done.name.made ≡ led.name.made) where
    pub works : Works old scribe.seen entries new
    works =
        let seen' : new.seen ≡ scribe.seen ++ entries = ap (λ (v : View). v.seen) gives.view ∙ seen ∙ ap (λ es. es ++ entries) seen_led in
        let further : IsPrefix scribe.seen new.seen = (entries, sym seen') in
        let more : length scribe.seen ≤ length new.seen = length-begins scribe.seen new.seen further in
        let known : old.known ≤ length scribe.seen = takes.known in
        let loads' : new.loads ≡ (old.loads + 1) + 1 =
        ap (λ (v : View). v.loads) gives.view ∙ ap (λ n. n + 1) (loads ∙ ap (λ (v : View). v.loads) takes.view) in
        record {
          moves = record {
            begins = begins-trans old.seen scribe.seen new.seen takes.begins further;
            known = omega arith;
            counted = ap (λ (v : View). v.known) gives.view ∙ sym (ap (λ (v : View). length v.seen) gives.view);
            loads = omega arith;
            number = ap (λ (v : View). v.name.number) gives.view ∙ number ∙ ap (λ (v : View). v.name.number) takes.view;
            made = ap (λ (v : View). v.name.made) gives.view ∙ made ∙ ap (λ (v : View). v.name.made) takes.view;
          };
          later = later;
          known = takes.known;
          seen = seen';
          own = ap (λ (v : View). v.name.own) gives.view ∙ own ∙ ap (λ es. es ++ entries) own_led;
          got = ap (λ (v : View). v.name.got) gives.view ∙ got ∙ ap (λ (v : View). v.name.got) takes.view;
          legal = gives.knows.legal;
        }

    pub works_pass : IsPass new engine_number
    works_pass =
        let w = works in
        record {
          follows = ap (λ (v : View). v.leads) gives.view;
          knows = gives.knows;
          named = w.moves.number ∙ pass.named;
          settled = λ t h. settled-begins old.seen new.seen t w.moves.begins (pass.settled t (subst (λ ts. IsTrue (has ts t)) w.got h));
        }

  -- one entry is put behind the history
  pub works_one : (done new next : View) (entry : Entry) → done ≡ appended led entry → GivesLead done new next → Works old scribe.seen (entry ∷ []) new
  works_one done new next entry did gives =
      works done new next (entry ∷ []) gives (ap (λ (v : View). v.seen) did) (ap (λ (v : View). v.name.own) did) (ap (λ (v : View). v.loads) did)
      (ap (λ (v : View). v.name.number) did) (ap (λ (v : View). v.name.got) did) (ap (λ (v : View). v.name.made) did)

  pub works_one-pass : (done new next : View) (entry : Entry) → done ≡ appended led entry → GivesLead done new next → IsPass new engine_number
  works_one-pass done new next entry did gives =
      works_pass done new next (entry ∷ []) gives (ap (λ (v : View). v.seen) did) (ap (λ (v : View). v.name.own) did) (ap (λ (v : View). v.loads) did)
      (ap (λ (v : View). v.name.number) did) (ap (λ (v : View). v.name.got) did) (ap (λ (v : View). v.name.made) did)

  -- nothing is put behind it
  pub works_none : (new next : View) → GivesLead led new next → Works old scribe.seen [] new
  works_none new next gives =
      works led new next [] gives (sym (append-nil led.seen)) (sym (append-nil led.name.own)) refl refl refl refl

  pub works_none-pass : (new next : View) → GivesLead led new next → IsPass new engine_number
  works_none-pass new next gives =
      works_pass led new next [] gives (sym (append-nil led.seen)) (sym (append-nil led.name.own)) refl refl refl refl

  -- ---- what the engine needs still holds under the lock, before the shutdown

  closed_led : (b : Bool) → is_closed queue.journal ≡ b → is_closed (journal_of led.seen) ≡ b
  closed_led b e = ap (λ es. is_closed (journal_of es)) seen_led ∙ ap is_closed desk.journal ∙ e

  pub open_led : (ticket : ℕ) → is_closed queue.journal ≡ false → IsTrue (is_open (journal_of old.seen) ticket) → IsTrue (is_open (journal_of led.seen) ticket)
  open_led ticket open_ h = open_stays (journal_of old.seen) (journal_of led.seen) ticket (stays (closed_led false open_)) h

  pub next_led : (ticket : ℕ) → is_closed queue.journal ≡ false → IsTrue (is_open (journal_of old.seen) ticket) → IsTrue (is_next (journal_of old.seen) ticket)
      → IsTrue (is_next (journal_of led.seen) ticket)
  next_led ticket open_ h next =
      let called = (and_parts (is_some (call_of (journal_of old.seen) ticket)) (not (is_settled (journal_of old.seen) ticket)) h).0 in
      let s = stays (closed_led false open_) in
      let below = accepted_below (journal_of old.seen) pass.knows.legal ticket called in
      s.next ticket (omega arith) next

  pub due_led : (file : Bytes) → is_closed queue.journal ≡ false → IsTrue (may_follow (journal_of old.seen) (Checked file)) → IsTrue (may_follow (journal_of led.seen) (Checked file))
  due_led file open_ may =
      check_stays (journal_of old.seen) (journal_of led.seen) file (stays (closed_led false open_)) (closed_led false open_) may

  -- ---- the calls

  pub looks_call : (new next : View) (news : News) → GivesLead led new next → news.accepted ≡ accepted queue.journal → news.is_closed ≡ is_closed queue.journal → Looks old new news
  looks_call new next news gives count shut =
      let w = works_none new next gives in
      let same : scribe.seen ≡ new.seen = sym (append-nil scribe.seen) ∙ sym w.seen in
      record {
        works = subst (λ before. Works old before [] new) same w;
        accepted_calls = count ∙ ap accepted (sym desk.journal) ∙ ap (λ es. accepted (journal_of es)) same;
        shut = shut ∙ ap is_closed (sym desk.journal) ∙ ap (λ es. is_closed (journal_of es)) same;
      }

  pub cancelled_call : (new next : View) (tickets : List ℕ) → GivesLead led new next
      → find (is_cancelled queue.journal) tickets ≡ find (is_cancelled (journal_of new.seen)) tickets
  cancelled_call new next tickets gives =
      let w = works_none new next gives in
      ap (λ js. find (is_cancelled js) tickets) (sym desk.journal ∙ ap journal_of (sym (append-nil scribe.seen) ∙ sym w.seen))

  pub there_led : (ticket : ℕ) → ticket < accepted (journal_of old.seen) → ticket < accepted queue.journal
  there_led ticket within =
      let l = later in
      let same : queue.journal ≡ journal_of old.seen ++ journal_of l.others = sym desk.journal ∙ ap journal_of l.behind ∙ journal_of-append old.seen l.others in
      let more = accepted-append (journal_of old.seen) (journal_of l.others) in
      let count : accepted queue.journal ≡ accepted (journal_of old.seen ++ journal_of l.others) = ap accepted same in
      omega arith

  pub finds_call : (new next : View) (ticket : ℕ) (found : Result (Option Call) NoMemory) → GivesLead led new next → IsPosted queue.journal ticket found
      → Finds old new ticket found
  finds_call new next ticket found gives finds =
      let w = works_none new next gives in
      let same : scribe.seen ≡ new.seen = sym (append-nil scribe.seen) ∙ sym w.seen in
      record {
        works = subst (λ before. Works old before [] new) same w;
        finds = subst (λ js. IsPosted js ticket found) (sym desk.journal ∙ ap journal_of same) finds;
      }

  pub settles_call : (done new next : View) (ticket : ℕ) (what : Settling) (effect : Effect) → is_closed queue.journal ≡ false
      → done ≡ appended led (settled_as led.name (journal_of led.seen) ticket what) → GivesLead done new next
      → effect ≡ effect_of (taking_effect (journal_of led.seen) ticket (mark_of what)) → Settles old new ticket what effect
  settles_call done new next ticket what effect open_ did gives becomes =
      let entry : Entry = settled_as led.name (journal_of led.seen) ticket what in
      let entry' : Entry = settled_as old.name (journal_of scribe.seen) ticket what in
      let same : entry ≡ entry' = ap (λ (v : View). settled_as v.name (journal_of v.seen) ticket what) takes.view in
      let unshut : is_closed (journal_of scribe.seen) ≡ false = ap is_closed desk.journal ∙ open_ in
      record {
        before = scribe.seen;
        works = subst (λ (es : List Entry). Works old scribe.seen es new) (ap (λ e. e ∷ []) same ∙ ap (λ b. if b then [] else entry' ∷ []) (sym unshut))
            (works_one done new next entry did gives);
        becomes = becomes ∙ ap (λ es. effect_of (taking_effect (journal_of es) ticket (mark_of what))) seen_led;
      }

  pub settles_none : (new next : View) (ticket : ℕ) (what : Settling) → is_closed queue.journal ≡ true → GivesLead led new next → Settles old new ticket what Dropped
  settles_none new next ticket what closed gives =
      let shut : is_closed (journal_of scribe.seen) ≡ true = ap is_closed desk.journal ∙ closed in
      let entry : Entry = settled_as old.name (journal_of scribe.seen) ticket what in
      record {
        before = scribe.seen;
        works = subst (λ (es : List Entry). Works old scribe.seen es new) (ap (λ b. if b then [] else entry ∷ []) (sym shut)) (works_none new next gives);
        becomes = dropped_behind (journal_of scribe.seen) ticket what shut;
      }

  pub checks_call : (done new next : View) (file : Bytes) (problems : List Problem) → is_closed queue.journal ≡ false → done ≡ appended led (checking led.name file problems)
      → GivesLead done new next → Checks old new file problems noted.Noted
  checks_call done new next file problems open_ did gives =
      let same : checking led.name file problems ≡ checking old.name file problems = ap (λ (v : View). checking v.name file problems) takes.view in (
        scribe.seen,
        (
          ap is_closed desk.journal ∙ open_,
          subst (λ (e : Entry). Works old scribe.seen (e ∷ []) new) same (works_one done new next (checking led.name file problems) did gives),
        ),
      )

  pub checks_shut : (new next : View) (file : Bytes) (problems : List Problem) → is_closed queue.journal ≡ true → GivesLead led new next → Checks old new file problems noted.ShutDown
  checks_shut new next file problems closed gives = (scribe.seen, (ap is_closed desk.journal ∙ closed, works_none new next gives))

-- ---- looks, one after another

others_further : (closed : Bool) (xs ys : List Event) → IsTrue (are_others closed xs) → IsTrue (are_others (closed || is_closed xs) ys) → IsTrue (are_others closed (xs ++ ys))
others_further closed [] ys h k = subst (λ b. IsTrue (are_others b ys)) (or-false closed) k
others_further closed (x ∷ xs) ys h k =
    let parts = and_parts (is_others closed x) (are_others (closed || is_close x) xs) h in
    and_from (is_others closed x) (are_others (closed || is_close x) (xs ++ ys)) parts.0
    (others_further (closed || is_close x) xs ys parts.1 (subst (λ b. IsTrue (are_others b ys)) (sym (or_assoc closed (is_close x) (is_closed xs))) k))
  where
    or_assoc : (a b c : Bool) → ((a || b) || c) ≡ (a || (b || c))
    or_assoc true b c = refl
    or_assoc false b c = refl

later_further : (a b c : List Entry) → IsLater a b → IsLater b c → IsLater a c
later_further a b c one two =
    let closed_b : is_closed (journal_of b) ≡ (is_closed (journal_of a) || is_closed (journal_of one.others)) =
    ap (λ es. is_closed (journal_of es)) one.behind ∙ ap is_closed (journal_of-append a one.others) ∙ list_any-append is_close (journal_of a) (journal_of one.others) in
    record {
      others = one.others ++ two.others;
      behind = two.behind ∙ ap (λ es. es ++ two.others) one.behind ∙ append_assoc a one.others two.others;
      theirs = filter-append (λ (entry : Entry). entry.author == engine_number) one.others two.others ∙ (λ j. one.theirs j ++ two.theirs j);
      kinds = subst (λ js. IsTrue (are_others (is_closed (journal_of a)) js)) (sym (journal_of-append one.others two.others))
          (others_further (is_closed (journal_of a)) (journal_of one.others) (journal_of two.others) one.kinds
          (subst (λ b. IsTrue (are_others b (journal_of two.others))) closed_b two.kinds));
    }

-- the pass looked so far, or not at all
abbrev pub HasLooked : View → View → Type 0
HasLooked old now = (now ≡ old) ⊎ Works old now.seen [] now

looked_further : (old now new : View) → Works old now.seen [] now → Works now new.seen [] new → Works old new.seen [] new
looked_further old now new one two =
    let k1 = one.moves.known in
    let k2 = two.moves.known in
    let l1 = one.moves.loads in
    let l2 = two.moves.loads in
    let more : length now.seen ≤ length new.seen = length-begins now.seen new.seen two.moves.begins in
    let known : old.known ≤ length new.seen = omega arith in
    record {
      moves = record {
        begins = begins-trans old.seen now.seen new.seen one.moves.begins two.moves.begins;
        known = known;
        counted = two.moves.counted;
        loads = omega arith;
        number = two.moves.number ∙ one.moves.number;
        made = two.moves.made ∙ one.moves.made;
      };
      later = later_further old.seen now.seen new.seen one.later two.later;
      known = known;
      seen = two.seen;
      own = two.own ∙ append-nil now.name.own ∙ one.own;
      got = two.got ∙ one.got;
      legal = two.legal;
    }

pub looked_once : (old now new : View) → HasLooked old now → Works now new.seen [] new → Works old new.seen [] new
looked_once old now new (inl e) w = subst (λ (v : View). Works v new.seen [] new) e w
looked_once old now new (inr one) w = looked_further old now new one w

pub looks_once : (old now new : View) (news : News) → HasLooked old now → Looks now new news → Looks old new news
looks_once old now new news so looks = record { works = looked_once old now new so looks.works; accepted_calls = looks.accepted_calls; shut = looks.shut }

pub looked_number : (old now : View) → HasLooked old now → now.name.number ≡ old.name.number
looked_number old now (inl e) = ap (λ (v : View). v.name.number) e
looked_number old now (inr one) = one.moves.number
