-- A log stays one where an event is appended.
use Rattle.std.proofs.Common.{◌≡◌, ℕ, ◌+◌, ◌-◌, ◌<◌, ◌≤◌, Bool, true, false, not, if◌then◌else◌, List, [], ◌∷◌, ◌++◌, length, get_or, set, Option, Some, None, is_some, unwrap_or, ◌&&◌, ◌==◌, IsTrue, refl, sym, ap, ◌∙◌, subst, zero-add, arith, vec_len, vec_capacity}
use Rattle.std.specs.List.{sum_by}
use Rattle.std.proofs.lemmas.List.Sums.{sum_by-set, sum_by-append, get_or-le-sum_by}
use Rattle.std.proofs.lemmas.Bool.{and_from, eq-eqb}
use Rattle.ask_history.specs.declared.calls.Call.{Call}
use Rattle.ask_history.specs.declared.events.Event.{Event}
use Rattle.ask_history.specs.declared.events.Mark.{Mark}
use Rattle.ask_history.specs.declared.events.Event.TheVariants.{Cancel, Settle, Close, Checked, Accept}
use Rattle.ask_history.specs.Journal.{is_close, is_closed, is_open, is_cancelled, is_settled, accepted, call_of, call_under}
use Rattle.ask_history.specs.Legal.{may_follow}
use Rattle.work_queue.specs.declared.log.Indexes.{Indexes}
use Rattle.work_queue.specs.declared.log.Log.TheInside.{Inside}
use Rattle.work_queue.specs.Indexes.{close_index, accept_index, cancel_index, settle_index}
use Rattle.work_queue.specs.Log.{IsNoted, IsLog, indexes_of, events_left}
use Rattle.work_queue.proofs.EventIndexes.{index_of-other, index_of-first, list_any-index_of, accept_index-call}
use Rattle.work_queue.proofs.Noting.{none_from, below, noted-other, noted-cancel, noted-settle, noted-accept}
use Rattle.work_queue.proofs.Tickets.{is_accepted-accept_index, is_cancelled-cancel_index, is_settled-settle_index, open_within, open_unsettled, cancel_open, cancel_first, settle_open}

-- what an event does to a log: it stands at the end, and takes room that was made
pub record Puts (old new : Inside) (event : Event) : Type 0 where
  pub items : new.events.items ≡ old.events.items ++ event ∷ []
  pub len : vec_len new.events ≡ vec_len old.events + 1
  pub capacity : vec_capacity old.events ≤ vec_capacity new.events

module _ (old new : Inside) (event : Event) (log : IsLog old) (puts : Puts old new event) where
  -- an event of a ticket, of which fewer events are left
  pub log-at : (t : ℕ) (was now : Indexes) → is_close event ≡ false → was ≡ get_or old.indexes.items t was → t < length old.indexes.items
      → IsNoted (old.events.items ++ event ∷ []) (set old.indexes.items t now) → new.indexes.items ≡ set old.indexes.items t now
      → new.closed ≡ old.closed → new.promised + events_left was ≡ old.promised + events_left now → events_left now + 1 ≤ events_left was
      → IsLog new
  log-at t was now no_close read within noted indexes closed promised fewer =
      let sums = sum_by-set events_left old.indexes.items t now was within in
      let read' : events_left (get_or old.indexes.items t was) ≡ events_left was = ap events_left (sym read) in
      let rest : ℕ = if is_some old.closed then 0 else 1 in
      let old_promised : old.promised ≡ sum_by events_left old.indexes.items + rest = log.promised in
      let room : vec_len old.events + old.promised ≤ vec_capacity old.events = log.room in
      let len = puts.len in
      let capacity = puts.capacity in
      let at : new.promised ≡ sum_by events_left (set old.indexes.items t now) + rest = omega arith in
      record {
        noted = subst (λ js. IsNoted js new.indexes.items) (sym puts.items) (subst (IsNoted (old.events.items ++ event ∷ [])) (sym indexes) noted);
        closed = closed ∙ log.closed ∙ sym (index_of-other is_close old.events.items event no_close) ∙ ap close_index (sym puts.items);
        promised = at ∙ ap (λ ps. sum_by events_left ps + rest) (sym indexes) ∙ ap (λ o. sum_by events_left new.indexes.items + (if is_some o then 0 else 1)) (sym closed);
        room = omega arith;
      }

  -- the shutdown, for which one index was promised
  pub log-shut : old.closed ≡ None → new.closed ≡ close_index (old.events.items ++ event ∷ []) → IsTrue (is_some new.closed)
      → IsNoted (old.events.items ++ event ∷ []) old.indexes.items → new.indexes.items ≡ old.indexes.items → new.promised + 1 ≡ old.promised → IsLog new
  log-shut was_open closed is_shut noted indexes promised =
      let old_promised : old.promised ≡ sum_by events_left old.indexes.items + 1 = log.promised ∙ ap (λ o. sum_by events_left old.indexes.items + (if is_some o then 0 else 1)) was_open in
      let room : vec_len old.events + old.promised ≤ vec_capacity old.events = log.room in
      let len = puts.len in
      let capacity = puts.capacity in
      let at : new.promised ≡ sum_by events_left old.indexes.items + 0 = omega arith in
      record {
        noted = subst (λ js. IsNoted js new.indexes.items) (sym puts.items) (subst (IsNoted (old.events.items ++ event ∷ [])) (sym indexes) noted);
        closed = closed ∙ ap close_index (sym puts.items);
        promised = at ∙ ap (λ ps. sum_by events_left ps + 0) (sym indexes) ∙ ap (λ (b : Bool). sum_by events_left new.indexes.items + (if b then 0 else 1)) (sym is_shut);
        room = omega arith;
      }

  -- a call that is accepted, for which room is made
  pub log-accept : (now : Indexes) → is_close event ≡ false → events_left now ≡ 2
      → IsNoted (old.events.items ++ event ∷ []) (old.indexes.items ++ now ∷ []) → new.indexes.items ≡ old.indexes.items ++ now ∷ []
      → new.closed ≡ old.closed → new.promised ≡ old.promised + 2 → vec_len new.events + new.promised ≤ vec_capacity new.events → IsLog new
  log-accept now no_close two noted indexes closed promised room =
      let rest : ℕ = if is_some old.closed then 0 else 1 in
      let old_promised : old.promised ≡ sum_by events_left old.indexes.items + rest = log.promised in
      let sums : sum_by events_left (old.indexes.items ++ now ∷ []) ≡ sum_by events_left old.indexes.items + sum_by events_left (now ∷ []) =
      sum_by-append events_left old.indexes.items (now ∷ []) in
      let one : sum_by events_left (now ∷ []) ≡ 2 = zero-add (events_left now) ∙ two in
      let at : new.promised ≡ sum_by events_left (old.indexes.items ++ now ∷ []) + rest = omega arith in
      record {
        noted = subst (λ js. IsNoted js new.indexes.items) (sym puts.items) (subst (IsNoted (old.events.items ++ event ∷ [])) (sym indexes) noted);
        closed = closed ∙ log.closed ∙ sym (index_of-other is_close old.events.items event no_close) ∙ ap close_index (sym puts.items);
        promised = at ∙ ap (λ ps. sum_by events_left ps + rest) (sym indexes) ∙ ap (λ o. sum_by events_left new.indexes.items + (if is_some o then 0 else 1)) (sym closed);
        room = room;
      }

  -- an event of no ticket, for which room is made
  pub log-other : is_close event ≡ false → IsNoted (old.events.items ++ event ∷ []) old.indexes.items → new.indexes.items ≡ old.indexes.items
      → new.closed ≡ old.closed → new.promised ≡ old.promised → vec_len new.events + new.promised ≤ vec_capacity new.events → IsLog new
  log-other no_close noted indexes closed promised room =
      record {
        noted = subst (λ js. IsNoted js new.indexes.items) (sym puts.items) (subst (IsNoted (old.events.items ++ event ∷ [])) (sym indexes) noted);
        closed = closed ∙ log.closed ∙ sym (index_of-other is_close old.events.items event no_close) ∙ ap close_index (sym puts.items);
        promised = promised ∙ log.promised ∙ ap (λ ps. sum_by events_left ps + (if is_some old.closed then 0 else 1)) (sym indexes)
            ∙ ap (λ o. sum_by events_left new.indexes.items + (if is_some o then 0 else 1)) (sym closed);
        room = room;
      }

-- A ticket of a log, where the journal is seen as `js`.
module _ (old : Inside) (log : IsLog old) (js : List Event) (view : old.events.items ≡ js) (t : ℕ) where
  pub ticket_within : IsTrue (is_open js t) → t < vec_len old.indexes
  ticket_within unanswered =
      let within = open_within old.events.items t old.indexes.items log.noted (subst (λ x. IsTrue (is_open x t)) (sym view) unanswered) in
      let long = old.indexes.ok.0 in
      omega arith

  module _ (was : Indexes) (read : was ≡ get_or old.indexes.items t was) where
    module _ (unanswered : IsTrue (is_open js t)) where
      here : IsTrue (is_open old.events.items t)
      here = subst (λ x. IsTrue (is_open x t)) (sym view) unanswered

      within : t < length old.indexes.items
      within = open_within old.events.items t old.indexes.items log.noted here

      -- what is read of a ticket is what the journal says
      read-indexes_of : was ≡ indexes_of old.events.items t
      read-indexes_of = read ∙ log.noted.each t was within

      unsettled : was.settle ≡ None
      unsettled = ap (λ (p : Indexes). p.settle) read-indexes_of ∙ open_unsettled old.events.items t here

      events_left-unanswered : events_left was ≡ (if is_some was.cancel then 1 else 2)
      events_left-unanswered = ap (λ o. if is_some o then 0 else (if is_some was.cancel then 1 else 2)) unsettled

      pub some_left : 1 ≤ events_left was
      some_left = subst (λ n. 1 ≤ n) (sym events_left-unanswered) (one_or_two (is_some was.cancel))
        where
          one_or_two : (b : Bool) → 1 ≤ (if b then 1 else 2)
          one_or_two true = omega arith
          one_or_two false = omega arith

      -- room is made for the events that are left of it
      pub room_left : events_left was ≤ old.promised
      room_left =
          let most = get_or-le-sum_by events_left old.indexes.items t was within in
          let read' : events_left (get_or old.indexes.items t was) ≡ events_left was = ap events_left (sym read) in
          let rest : ℕ = if is_some old.closed then 0 else 1 in
          let promised : old.promised ≡ sum_by events_left old.indexes.items + rest = log.promised in
          omega arith

      pub has_room : vec_len old.events < vec_capacity old.events
      has_room = let one = some_left in let left = room_left in let room = log.room in omega arith

    module _ (new : Inside) (index : ℕ) (at : index ≡ vec_len old.events) (closed : new.closed ≡ old.closed) where
      at_end : index ≡ length old.events.items
      at_end = at ∙ old.events.ok.0

      pub log-cancel : IsTrue (may_follow js (Cancel t)) → Puts old new (Cancel t)
          → new.indexes.items ≡ set old.indexes.items t (record { accept = was.accept; cancel = Some index; settle = was.settle })
          → new.promised ≡ old.promised - 1 → IsLog new
      log-cancel may puts indexes promised =
          let unanswered = cancel_open js t may in
          let may' : IsTrue (may_follow old.events.items (Cancel t)) = subst (λ x. IsTrue (may_follow x (Cancel t))) (sym view) may in
          let now : Indexes = record { accept = was.accept; cancel = Some index; settle = was.settle } in
          let first = cancel_first old.events.items t may' in
          let two : events_left was ≡ 2 =
          events_left-unanswered unanswered ∙ ap (λ (p : Indexes). if is_some p.cancel then 1 else 2) (read-indexes_of unanswered) ∙ ap (λ o. if is_some o then 1 else 2) first in
          let one : events_left now ≡ 1 = ap (λ o. if is_some o then 0 else 1) (unsettled unanswered) in
          let left = room_left unanswered in
          let same = λ (p : ℕ). (let q : Indexes = record { accept = was.accept; cancel = Some p; settle = was.settle } in q) in
          log-at old new (Cancel t) log puts t was now refl read (within unanswered)
          (subst (λ p. IsNoted (old.events.items ++ Cancel t ∷ []) (set old.indexes.items t (same p))) (sym at_end)
          (noted-cancel old.events.items old.indexes.items log.noted t was (read-indexes_of unanswered) (within unanswered) first may'))
          indexes closed (omega arith) (omega arith)

      pub log-settle : (mark : Mark) → IsTrue (may_follow js (Settle t mark)) → Puts old new (Settle t mark)
          → new.indexes.items ≡ set old.indexes.items t (record { accept = was.accept; cancel = was.cancel; settle = Some index })
          → new.promised ≡ old.promised - events_left was → IsLog new
      log-settle mark may puts indexes promised =
          let unanswered = settle_open js t mark may in
          let may' : IsTrue (may_follow old.events.items (Settle t mark)) = subst (λ x. IsTrue (may_follow x (Settle t mark))) (sym view) may in
          let now : Indexes = record { accept = was.accept; cancel = was.cancel; settle = Some index } in
          let one : events_left now ≡ 0 = refl in
          let left = room_left unanswered in
          let some = some_left unanswered in
          let same = λ (p : ℕ). (let q : Indexes = record { accept = was.accept; cancel = was.cancel; settle = Some p } in q) in
          log-at old new (Settle t mark) log puts t was now refl read (within unanswered)
          (subst (λ p. IsNoted (old.events.items ++ Settle t mark ∷ []) (set old.indexes.items t (same p))) (sym at_end)
          (noted-settle old.events.items old.indexes.items log.noted t mark was (read-indexes_of unanswered) (within unanswered)
          (open_unsettled old.events.items t (here unanswered)) may'))
          indexes closed (omega arith) (omega arith)

-- The shutdown of a log, where the journal is seen as `js`.
module _ (old : Inside) (log : IsLog old) (js : List Event) (view : old.events.items ≡ js) (unclosed : is_closed js ≡ false) where
  unclosed_here : is_closed old.events.items ≡ false
  unclosed_here = ap is_closed view ∙ unclosed

  none_closed : close_index old.events.items ≡ None
  none_closed = none_from _ (sym (list_any-index_of is_close old.events.items) ∙ unclosed_here)

  pub shut_room : 1 ≤ old.promised
  shut_room =
      let promised : old.promised ≡ sum_by events_left old.indexes.items + 1 =
      log.promised ∙ ap (λ o. sum_by events_left old.indexes.items + (if is_some o then 0 else 1)) (log.closed ∙ none_closed) in
      omega arith

  pub log-shut' : (new : Inside) (index : ℕ) → index ≡ vec_len old.events → new.closed ≡ Some index → new.promised ≡ old.promised - 1
      → new.indexes.items ≡ old.indexes.items → Puts old new Close → IsLog new
  log-shut' new index at closed promised indexes puts =
      let room = shut_room in
      let first : close_index (old.events.items ++ Close ∷ []) ≡ Some (length old.events.items) = index_of-first is_close old.events.items Close none_closed refl in
      log-shut old new Close log puts (log.closed ∙ none_closed) (closed ∙ ap Some (at ∙ old.events.ok.0) ∙ sym first) (ap is_some closed)
      (noted-other old.events.items old.indexes.items log.noted Close refl (λ t. refl) (λ t. refl) (λ t. refl) (ap not unclosed_here))
      indexes (omega arith)

  module _ (new : Inside) (closed : new.closed ≡ old.closed) (room : vec_len new.events + new.promised ≤ vec_capacity new.events) where
    pub log-accept' : (ticket client tag index : ℕ) (call : Call) → ticket ≡ vec_len old.indexes → index ≡ vec_len old.events
        → Puts old new (Accept ticket client tag call)
        → new.indexes.items ≡ old.indexes.items ++ (record { accept = index; cancel = None; settle = None }) ∷ [] → new.promised ≡ old.promised + 2 → IsLog new
    log-accept' ticket client tag index call next at puts indexes promised =
        let number : ticket ≡ accepted old.events.items = next ∙ old.indexes.ok.0 ∙ log.noted.count in
        let end : index ≡ length old.events.items = at ∙ old.events.ok.0 in
        let told = λ (t : ℕ). (let e : Event = Accept t client tag call in e) in
        let kept = λ (p : ℕ). (let q : Indexes = record { accept = p; cancel = None; settle = None } in q) in
        let may : IsTrue (may_follow old.events.items (told (accepted old.events.items))) =
        and_from (accepted old.events.items == accepted old.events.items) (not (is_closed old.events.items)) (eq-eqb (accepted old.events.items) (accepted old.events.items) refl) (ap not unclosed_here) in
        let noted = noted-accept old.events.items old.indexes.items log.noted client tag call may in
        log-accept old new (told ticket) log puts (kept index) refl refl
        (subst (λ t. IsNoted (old.events.items ++ told t ∷ []) (old.indexes.items ++ kept index ∷ [])) (sym number)
        (subst (λ p. IsNoted (old.events.items ++ told (accepted old.events.items) ∷ []) (old.indexes.items ++ kept p ∷ [])) (sym end) noted))
        indexes closed promised room

-- A check in a log, where the journal is seen as `js`.
pub log-check : (old new : Inside) (log : IsLog old) (js : List Event) (view : old.events.items ≡ js) (file : List ℕ) → IsTrue (may_follow js (Checked file))
    → Puts old new (Checked file) → new.indexes.items ≡ old.indexes.items → new.closed ≡ old.closed → new.promised ≡ old.promised
    → vec_len new.events + new.promised ≤ vec_capacity new.events → IsLog new
log-check old new log js view file may puts indexes closed promised room =
    log-other old new (Checked file) log puts refl
    (noted-other old.events.items old.indexes.items log.noted (Checked file) refl (λ t. refl) (λ t. refl) (λ t. refl)
    (subst (λ x. IsTrue (may_follow x (Checked file))) (sym view) may))
    indexes closed promised room

-- The event that a ticket's indexes name.
module _ (old : Inside) (log : IsLog old) (js : List Event) (view : old.events.items ≡ js) (t : ℕ) (within : t < accepted js)
    (was : Indexes) (read : was ≡ get_or old.indexes.items t was) where
  listed : t < length old.indexes.items
  listed = let count = log.noted.count ∙ ap accepted view in omega arith

  found : (p : ℕ) × (accept_index old.events.items t ≡ Some p)
  found = some_from (accept_index old.events.items t) (log.noted.tickets t ∙ below t (length old.indexes.items) listed)
    where
      some_from : (o : Option ℕ) → is_some o ≡ true → (p : ℕ) × (o ≡ Some p)
      some_from None h = cc
      some_from (Some p) h = (p, refl)

  index_is : was.accept ≡ found.0
  index_is = ap (λ (p : Indexes). p.accept) (read ∙ log.noted.each t was listed) ∙ ap (λ o. unwrap_or o 0) found.1

  pub accept_within : was.accept < vec_len old.events
  accept_within =
      let at = index_is in
      let less = (accept_index-call old.events.items t found.0 found.1).0 in
      let long = old.events.ok.0 in
      omega arith

  module _ (event : Event) (there : event ≡ get_or old.events.items was.accept event) where
    pub accept_call : call_under t event ≡ call_of js t
    accept_call =
        ap (call_under t) (there ∙ ap (λ n. get_or old.events.items n event) index_is)
        ∙ (accept_index-call old.events.items t found.0 found.1).1 event
        ∙ ap (λ x. call_of x t) view

    pub accepts_some : is_some (call_under t event) ≡ true
    accepts_some =
        ap is_some accept_call ∙ ap (λ x. is_some (call_of x t)) (sym view) ∙ is_accepted-accept_index old.events.items t ∙ ap is_some found.1

  pub read-cancel_index : was.cancel ≡ cancel_index js t
  read-cancel_index = ap (λ (p : Indexes). p.cancel) (read ∙ log.noted.each t was listed) ∙ ap (λ x. cancel_index x t) view

  pub read-settle_index : was.settle ≡ settle_index js t
  read-settle_index = ap (λ (p : Indexes). p.settle) (read ∙ log.noted.each t was listed) ∙ ap (λ x. settle_index x t) view

  pub is_settled-read : is_some was.settle ≡ is_settled js t
  is_settled-read = ap is_some read-settle_index ∙ sym (is_settled-settle_index js t)

  pub is_cancelled-read : is_some was.cancel ≡ is_cancelled js t
  is_cancelled-read = ap is_some read-cancel_index ∙ sym (is_cancelled-cancel_index js t)

  pub is_open-listed : is_open js t ≡ not (is_settled js t)
  is_open-listed =
      ap (λ b. b && not (is_settled js t))
      (ap (λ x. is_some (call_of x t)) (sym view) ∙ is_accepted-accept_index old.events.items t ∙ ap is_some found.1)

-- a ticket that has indexes is accepted, and one that has none is neither settled nor cancelled
pub listed-accepted : (old : Inside) → IsLog old → (js : List Event) → old.events.items ≡ js → (t : ℕ) → t < length old.indexes.items → t < accepted js
listed-accepted old log js view t within = let count = log.noted.count ∙ ap accepted view in omega arith

pub unlisted-is_settled : (old : Inside) → IsLog old → (js : List Event) → old.events.items ≡ js → (t : ℕ) → length old.indexes.items ≤ t → is_settled js t ≡ false
unlisted-is_settled old log js view t far =
    is_settled-settle_index js t ∙ ap (λ x. is_some (settle_index x t)) (sym view) ∙ ap is_some (log.noted.unsettled t far)

pub unlisted-is_cancelled : (old : Inside) → IsLog old → (js : List Event) → old.events.items ≡ js → (t : ℕ) → length old.indexes.items ≤ t → is_cancelled js t ≡ false
unlisted-is_cancelled old log js view t far =
    is_cancelled-cancel_index js t ∙ ap (λ x. is_some (cancel_index x t)) (sym view) ∙ ap is_some (log.noted.uncancelled t far)
