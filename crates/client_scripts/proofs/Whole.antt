-- The journal of clients that have all played their scripts.
use Rattle.std.proofs.Common.{◌≡◌, inl, inr, ℕ, zero, suc, Bool, true, false, true≢false, not, ◌||◌, ◌&&◌, ◌==◌, if◌then◌else◌, IsTrue, is_some, List, [], ◌∷◌, ◌++◌, Option, Some, None, refl, sym, ap, ◌∙◌, subst, arith, append_assoc, append-nil}
use mathlib.Core.List.{IsPrefix}
use Rattle.std.specs.List.{slice_get, list_any, list_all}
use Rattle.std.specs.Option.{option_or}
use Rattle.std.proofs.lemmas.Bool.{and_parts, and_from, eqb-true}
use Rattle.std.proofs.lemmas.Bool.Decides.{nat_tests}
use Rattle.std.proofs.lemmas.List.Folds.{list_any-append}
use Rattle.ask_history.specs.Journal.{call_of, first_of_two, ticket_of, is_closed, is_close}
use Rattle.ask_history.specs.Legal.{is_legal, may_follow}
use Rattle.ask_history.specs.declared.calls.Call.{Call}
use Rattle.ask_history.specs.declared.events.Event.{Event}
use Rattle.ask_history.specs.declared.events.Event.TheVariants.{Accept, Cancel, Close, Settle, Checked}
use Rattle.ask_history.specs.declared.script.Order.{Order}
use Rattle.ask_history.specs.declared.script.Order.TheVariants as order
use Rattle.ask_history.specs.declared.script.Line.{Line}
use Rattle.ask_history.specs.declared.script.Script.{Script}
use Rattle.journal_laws.proofs.Tickets.{may_first, none_behind}
use Rattle.client_scripts.specs.Lines.{call_lines, next_number, is_close_line, has_close}
use Rattle.client_scripts.specs.Lines.{call_under as line_call}
use Rattle.client_scripts.specs.Clients.{call_in, calls_of, is_answered, has_come, Stands, IsAtLine}
use Rattle.client_scripts.specs.OfScripts.{OfScript, is_finished, IsAtClose, some_close, OfScripts}
use Rattle.client_scripts.specs.History.{Entry, journal_of, signed_by, signed_journal}
use Rattle.client_scripts.specs.Runs.{IsRight, AreRight, Runs, HasEnded, IsServants, AllPlayed}
use Rattle.client_scripts.proofs.Histories.{journal_of-append, signed-append, calls_of-append, none_theirs, Silent, more_calls, more_closed, come_more, ticket_stays, signed_closed}
use Rattle.client_scripts.proofs.Numbers.{calls-append}
use Rattle.client_scripts.proofs.Playing.{runs_later, no_accept}

-- ---- parts of lists

-- what a part of a journal is in the history
record Split (history : List Entry) (front : List Event) (event : Event) : Type 0 where
  before : List Entry
  entry : Entry
  behind : List Entry
  whole : history ≡ before ++ entry ∷ behind
  is_front : journal_of before ≡ front
  is_event : entry.event ≡ event

split_of : (history : List Entry) (front back : List Event) (event : Event) → journal_of history ≡ front ++ event ∷ back → Split history front event
split_of [] [] back event h = cc
split_of [] (first ∷ front) back event h = cc
split_of (entry ∷ history) [] back event h =
    let same : entry.event ≡ event = cc in
    record { before = []; entry = entry; behind = history; whole = refl; is_front = refl; is_event = same }
split_of (entry ∷ history) (first ∷ front) back event h =
    let same : entry.event ≡ first = cc in
    let tail : journal_of history ≡ front ++ event ∷ back = cc in
    let s = split_of history front back event tail in
    record {
      before = entry ∷ s.before;
      entry = s.entry;
      behind = s.behind;
      whole = ap (λ (es : List Entry). entry ∷ es) s.whole;
      is_front = λ i. same i ∷ s.is_front i;
      is_event = s.is_event;
    }

-- the first element that passes
record Passing {X : Type 0} (test : X → Bool) (xs : List X) : Type 0 where
  front : List X
  at : X
  back : List X
  whole : xs ≡ front ++ at ∷ back
  passes_ : test at ≡ true

passing : {X : Type 0} (test : X → Bool) (xs : List X) → list_any test xs ≡ true → Passing test xs
passing test [] h = absurd (true≢false (sym h))
passing test (x ∷ xs) h = by (test x) refl h (λ k. passing test xs k)
  where
    by : (b : Bool) → test x ≡ b → (b || list_any test xs) ≡ true → (list_any test xs ≡ true → Passing test xs) → Passing test (x ∷ xs)
    by true e k later = record { front = []; at = x; back = xs; whole = refl; passes_ = e }
    by false e k later = let p = later k in record { front = x ∷ p.front; at = p.at; back = p.back; whole = ap (λ ys. x ∷ ys) p.whole; passes_ = p.passes_ }

-- an element at a place
record PassingAt {X : Type 0} (test : X → Bool) (xs : List X) : Type 0 where
  place : ℕ
  at : X
  there : slice_get xs place ≡ Some at
  passes_ : test at ≡ true

passing_at : {X : Type 0} (test : X → Bool) (xs : List X) → list_any test xs ≡ true → PassingAt test xs
passing_at test [] h = absurd (true≢false (sym h))
passing_at test (x ∷ xs) h = by (test x) refl h (λ k. passing_at test xs k)
  where
    by : (b : Bool) → test x ≡ b → (b || list_any test xs) ≡ true → (list_any test xs ≡ true → PassingAt test xs) → PassingAt test (x ∷ xs)
    by true e k later = record { place = 0; at = x; there = refl; passes_ = e }
    by false e k later = let p = later k in record { place = suc p.place; at = p.at; there = p.there; passes_ = p.passes_ }

or_true : (b : Bool) → (b || true) ≡ true
or_true true = refl
or_true false = refl

any_there : {X : Type 0} (test : X → Bool) (xs : List X) (place : ℕ) (x : X) → slice_get xs place ≡ Some x → test x ≡ true → list_any test xs ≡ true
any_there test [] place x h k = cc
any_there test (y ∷ xs) zero x h k = let same : y ≡ x = cc in ap (λ b. b || list_any test xs) (ap test same ∙ k)
any_there test (y ∷ xs) (suc place) x h k = ap (λ b. test y || b) (any_there test xs place x h k) ∙ or_true (test y)

any_split : {X : Type 0} (test : X → Bool) (front back : List X) (x : X) → test x ≡ true → list_any test (front ++ x ∷ back) ≡ true
any_split test [] back x h = ap (λ b. b || list_any test back) h
any_split test (y ∷ front) back x h = ap (λ b. test y || b) (any_split test front back x h) ∙ or_true (test y)

-- ---- each ticket is of one call line

abbrev owner_of : List Event → ℕ → Option (ℕ × ℕ)
owner_of [] t = None
owner_of (Accept ticket client tag call ∷ journal) t = if ticket == t then Some (client, tag) else owner_of journal t
owner_of (Cancel ticket ∷ journal) t = owner_of journal t
owner_of (Close ∷ journal) t = owner_of journal t
owner_of (Settle ticket mark ∷ journal) t = owner_of journal t
owner_of (Checked file ∷ journal) t = owner_of journal t

some_two : (a b : Option Call) → is_some b ≡ true → is_some (first_of_two a b) ≡ true
some_two None b h = h
some_two (Some call) b h = refl

-- a ticket of a client's call was accepted
taken : (journal : List Event) (c k t : ℕ) → ticket_of journal c k ≡ Some t → is_some (call_of journal t) ≡ true
taken [] c k t h = cc
taken (Accept ticket client tag call ∷ journal) c k t h = by ((client == c) && (tag == k)) (λ e. taken journal c k t e) h
  where
    own : (n : ℕ) → (n == n) ≡ true
    own n = grind (arith, nat_tests)

    by : (b : Bool) → (ticket_of journal c k ≡ Some t → is_some (call_of journal t) ≡ true) → option_or (if b then Some ticket else None) (ticket_of journal c k) ≡ Some t
        → is_some (first_of_two (if ticket == t then Some call else None) (call_of journal t)) ≡ true
    by true later e =
        let same : ticket ≡ t = cc in
        ap (λ b. is_some (first_of_two (if b then Some call else None) (call_of journal t))) (ap (λ n. ticket == n) (sym same) ∙ own ticket)
    by false later e = some_two (if ticket == t then Some call else None) (call_of journal t) (later e)
taken (Cancel ticket ∷ journal) c k t h = taken journal c k t h
taken (Close ∷ journal) c k t h = taken journal c k t h
taken (Settle ticket mark ∷ journal) c k t h = taken journal c k t h
taken (Checked file ∷ journal) c k t h = taken journal c k t h

further : (front back : List Event) (event : Event) → IsTrue (is_legal (front ++ event ∷ back)) → IsTrue (is_legal ((front ++ event ∷ []) ++ back))
further front back event legal = subst (λ js. IsTrue (is_legal js)) (sym (append_assoc front (event ∷ []) back)) legal

owned : (front journal : List Event) (c k t : ℕ) → IsTrue (is_legal (front ++ journal)) → ticket_of journal c k ≡ Some t → owner_of journal t ≡ Some (c, k)
owned front [] c k t legal h = cc
owned front (Accept ticket client tag call ∷ journal) c k t legal h =
    by ((client == c) && (tag == k)) refl (λ e. owned (front ++ Accept ticket client tag call ∷ []) journal c k t (further front journal (Accept ticket client tag call) legal) e) h
  where
    own : (n : ℕ) → (n == n) ≡ true
    own n = grind (arith, nat_tests)

    other : (b : Bool) → (ticket == t) ≡ b → is_some (call_of journal t) ≡ true → owner_of journal t ≡ Some (c, k) → (if b then Some (client, tag) else owner_of journal t) ≡ Some (c, k)
    other true e some later =
        let same : ticket ≡ t = eqb-true ticket t e in
        absurd (true≢false (sym (ap (λ n. is_some (call_of journal n)) same ∙ some) ∙ none_behind front journal ticket client tag call legal))
    other false e some later = later

    by : (b : Bool) → ((client == c) && (tag == k)) ≡ b → (ticket_of journal c k ≡ Some t → owner_of journal t ≡ Some (c, k))
        → option_or (if b then Some ticket else None) (ticket_of journal c k) ≡ Some t → (if ticket == t then Some (client, tag) else owner_of journal t) ≡ Some (c, k)
    by true e later m =
        let same : ticket ≡ t = cc in
        let both = and_parts (client == c) (tag == k) e in
        ap (λ b. if b then Some (client, tag) else owner_of journal t) (ap (λ n. ticket == n) (sym same) ∙ own ticket)
        ∙ (λ i. Some (eqb-true client c both.0 i, eqb-true tag k both.1 i))
    by false e later m = other (ticket == t) refl (taken journal c k t m) (later m)
owned front (Cancel ticket ∷ journal) c k t legal h = owned (front ++ Cancel ticket ∷ []) journal c k t (further front journal (Cancel ticket) legal) h
owned front (Close ∷ journal) c k t legal h = owned (front ++ Close ∷ []) journal c k t (further front journal Close legal) h
owned front (Settle ticket mark ∷ journal) c k t legal h = owned (front ++ Settle ticket mark ∷ []) journal c k t (further front journal (Settle ticket mark) legal) h
owned front (Checked file ∷ journal) c k t legal h = owned (front ++ Checked file ∷ []) journal c k t (further front journal (Checked file) legal) h

one_owner : (journal : List Event) (c k d l t : ℕ) → IsTrue (is_legal journal) → ticket_of journal c k ≡ Some t → ticket_of journal d l ≡ Some t → (c ≡ d) × (k ≡ l)
one_owner journal c k d l t legal h m =
    let same : Some (c, k) ≡ Some (d, l) = sym (owned [] journal c k t legal h) ∙ owned [] journal d l t legal m in
    let pair : (c, k) ≡ (d, l) = cc in
    (ap (λ (p : ℕ × ℕ). p.0) pair, ap (λ (p : ℕ × ℕ). p.1) pair)

-- ---- lines that have come

-- where the session is not shut down, the lines that have come have no `close`
none_closed : (c : ℕ) (journal : List Event) (lines : List Line) → is_closed journal ≡ false → list_all (λ (line : Line). has_come c journal line.order) lines ≡ true → has_close lines ≡ false
none_closed c journal [] open_ h = refl
none_closed c journal (line ∷ lines) open_ h =
    let both = and_parts (has_come c journal line.order) (list_all (λ (line : Line). has_come c journal line.order) lines) h in
    ap (λ b. b || has_close lines) (one line.order both.0) ∙ none_closed c journal lines open_ both.1
  where
    one : (o : Order) → has_come c journal o ≡ true → is_close_line o ≡ false
    one (order.Call call) e = refl
    one (order.Cancel k) e = refl
    one order.Close e = absurd (true≢false (sym e ∙ open_))
    one (order.Wait k) e = refl
    one order.Idle e = refl

close_none : (front back : List Line) → has_close front ≡ false → has_close back ≡ false → has_close (front ++ back) ≡ false
close_none front back h k = list_any-append (λ (line : Line). is_close_line line.order) front back ∙ ap (λ b. b || has_close back) h ∙ k

-- what was answered stays so
finished_more : (c : ℕ) (old more : List Entry) (calls : List (ℕ × Call)) → list_all (λ (call : ℕ × Call). is_answered c (signed_journal old) call.0) calls ≡ true
    → list_all (λ (call : ℕ × Call). is_answered c (signed_journal (old ++ more)) call.0) calls ≡ true
finished_more c old more [] h = refl
finished_more c old more (call ∷ calls) h =
    let both = and_parts (is_answered c (signed_journal old) call.0) (list_all (λ (call : ℕ × Call). is_answered c (signed_journal old) call.0) calls) h in
    and_from _ _ (come_more c old more (order.Wait call.0) both.0) (finished_more c old more calls both.1)

-- ---- an entry of a client

pub right_in : (c : ℕ) (lines : List Line) (start before behind : List Entry) (entry : Entry) → AreRight c lines start (before ++ entry ∷ behind) → entry.author ≡ c
    → IsRight c lines (start ++ before) entry.event entry.answer
right_in c lines start [] behind entry h mine = subst (λ es. IsRight c lines es entry.event entry.answer) (sym (append-nil start)) (h.0 mine)
right_in c lines start (first ∷ before) behind entry h mine =
    subst (λ es. IsRight c lines es entry.event entry.answer) (append_assoc start (first ∷ []) before) (right_in c lines (start ++ first ∷ []) before behind entry h.1 mine)

-- ---- the whole

module _ (scripts : List Script) (history : List Entry) (seen : ℕ → List Entry) (legal : IsTrue (is_legal (journal_of history))) (played : AllPlayed scripts seen history) where
  abbrev journal : List Event
  journal = journal_of history

  runs : (c : ℕ) (script : Script) → slice_get scripts c ≡ Some script → Runs c script.lines history
  runs c script there = let p = played.clients c script there in runs_later c script.lines (seen c) history p.later p.runs

  -- an entry at its place: it is a client's, or of none
  data Maker (before : List Entry) (entry : Entry) : Type 0 where
    Clients : (script : Script) → slice_get scripts entry.author ≡ Some script → IsRight entry.author script.lines before entry.event entry.answer → Maker before entry
    Others : slice_get scripts entry.author ≡ None → IsServants scripts seen before entry.event → Maker before entry

  maker : (before behind : List Entry) (entry : Entry) → history ≡ before ++ entry ∷ behind → Maker before entry
  maker before behind entry whole = by (slice_get scripts entry.author) refl
    where
      by : (o : Option Script) → slice_get scripts entry.author ≡ o → Maker before entry
      by None e = Others e (played.servants before behind entry whole e)
      by (Some script) e =
          Clients script e (right_in entry.author script.lines [] before behind entry (subst (AreRight entry.author script.lines []) whole (runs entry.author script e)) refl)

  -- a call is posted by its client
  signed_here : (before : List Entry) (entry : Entry) → Maker before entry → signed_by entry.author entry.event ≡ entry.event
  signed_here before entry (Clients script there right) = by entry.event right
    where
      by : (event : Event) → IsRight entry.author script.lines before event entry.answer → signed_by entry.author event ≡ event
      by (Accept t client tag call) r = ap (λ n. Accept t n tag call) (sym r.0)
      by (Cancel t) r = refl
      by Close r = refl
      by (Settle t mark) r = refl
      by (Checked file) r = refl
  signed_here before entry (Others none servant) = by entry.event servant
    where
      by : (event : Event) → IsServants scripts seen before event → signed_by entry.author event ≡ event
      by (Accept t client tag call) s = absurd s
      by (Cancel t) s = refl
      by Close s = refl
      by (Settle t mark) s = refl
      by (Checked file) s = refl

  same_within : (before front rest : List Entry) → history ≡ before ++ (front ++ rest) → signed_journal front ≡ journal_of front
  same_within before [] rest whole = refl
  same_within before (entry ∷ front) rest whole =
      (λ i. signed_here before entry (maker before (front ++ rest) entry whole) i
      ∷ same_within (before ++ entry ∷ []) front rest (whole ∙ sym (append_assoc before (entry ∷ []) (front ++ rest))) i)

  same_front : (front rest : List Entry) → history ≡ front ++ rest → signed_journal front ≡ journal_of front
  same_front front rest whole = same_within [] front rest whole

  pub same_all : signed_journal history ≡ journal
  same_all = same_front history [] (sym (append-nil history))

  -- each prefix is legal, and each event may follow the one before it
  may_here : (before behind : List Entry) (entry : Entry) → history ≡ before ++ entry ∷ behind → IsTrue (may_follow (journal_of before) entry.event)
  may_here before behind entry whole =
      (may_first (journal_of before) entry.event (journal_of behind)
      (subst (λ js. IsTrue (is_legal js)) (ap journal_of whole ∙ journal_of-append before (entry ∷ behind)) legal)).1

  one_script : (c d : ℕ) (script other : Script) → slice_get scripts c ≡ Some script → c ≡ d → slice_get scripts d ≡ Some other → other ≡ script
  one_script c d script other h same k =
      let both : Some script ≡ Some other = sym h ∙ ap (slice_get scripts) same ∙ k in
      let equal : script ≡ other = cc in
      sym equal

  -- a line of a client, told of the journal
  abbrev line_of : (c d : ℕ) (script other : Script) (before behind : List Entry) (entry : Entry) (front : List Event) (meant : Order) → history ≡ before ++ entry ∷ behind → journal_of before ≡ front
      → c ≡ d → other ≡ script → IsAtLine d other.lines (signed_journal before) meant → IsAtLine c script.lines front meant
  line_of c d script other before behind entry front meant whole is same equal line = record {
    above = line.above;
    line = line.line;
    below = line.below;
    split = ap (λ (s : Script). s.lines) (sym equal) ∙ line.split;
    orders = line.orders;
    stands = subst (λ n. Stands n front line.above) (sym same) (subst (λ js. Stands d js line.above) (same_front before (entry ∷ behind) whole ∙ is) line.stands);
  }

  -- ---- one client

  module _ (c : ℕ) (script : Script) (there : slice_get scripts c ≡ Some script) where
    accepts : (front back : List Event) (t tag : ℕ) (call : Call) → journal ≡ front ++ Accept t c tag call ∷ back
        → (line : IsAtLine c script.lines front (order.Call call)) × (tag ≡ next_number 1 line.above)
    accepts front back t tag call h =
        let s = split_of history front back (Accept t c tag call) h in
        by s (maker s.before s.behind s.entry s.whole)
      where
        by : (s : Split history front (Accept t c tag call)) → Maker s.before s.entry → (line : IsAtLine c script.lines front (order.Call call)) × (tag ≡ next_number 1 line.above)
        by s (Clients other at right) =
            let r = subst (λ (e : Event). IsRight s.entry.author other.lines s.before e s.entry.answer) s.is_event right in
            (line_of c s.entry.author script other s.before s.behind s.entry front (order.Call call) s.whole s.is_front r.0 (one_script c s.entry.author script other there r.0 at) r.1.0, r.1.1)
        by s (Others none servant) = absurd (subst (IsServants scripts seen s.before) s.is_event servant)

    cancels : (front back : List Event) (t tag : ℕ) → journal ≡ front ++ Cancel t ∷ back → ticket_of journal c tag ≡ Some t → IsAtLine c script.lines front (order.Cancel tag)
    cancels front back t tag h mine =
        let s = split_of history front back (Cancel t) h in
        by s (maker s.before s.behind s.entry s.whole)
      where
        by : (s : Split history front (Cancel t)) → Maker s.before s.entry → IsAtLine c script.lines front (order.Cancel tag)
        by s (Clients other at right) =
            let r = subst (λ (e : Event). IsRight s.entry.author other.lines s.before e s.entry.answer) s.is_event right in
            let theirs : ticket_of journal s.entry.author r.0 ≡ Some t =
            subst (λ js. ticket_of js s.entry.author r.0 ≡ Some t) same_all
            (subst (λ es. ticket_of (signed_journal es) s.entry.author r.0 ≡ Some t) (sym s.whole) (ticket_stays s.entry.author s.before (s.entry ∷ s.behind) r.0 t r.1)) in
            let one = one_owner journal c tag s.entry.author r.0 t legal mine theirs in
            subst (λ n. IsAtLine c script.lines front (order.Cancel n)) (sym one.1)
            (line_of c s.entry.author script other s.before s.behind s.entry front (order.Cancel r.0) s.whole s.is_front one.0 (one_script c s.entry.author script other there one.0 at) r.2)
        by s (Others none servant) = absurd (subst (IsServants scripts seen s.before) s.is_event servant)

    -- what was accepted so far
    record Front (before : List Entry) : Type 0 where
      front : List Line
      back : List Line
      begins : script.lines ≡ front ++ back
      calls : calls_of c (signed_journal before) ≡ call_lines 1 front
      unclosed : has_close front ≡ false

    silent_front : (before : List Entry) (entry : Entry) → Silent c (entry ∷ []) → Front before → Front (before ++ entry ∷ [])
    silent_front before entry silent f = record {
      front = f.front;
      back = f.back;
      begins = f.begins;
      calls = more_calls c before (entry ∷ []) silent ∙ f.calls;
      unclosed = f.unclosed;
    }

    accept_front : (before behind : List Entry) (entry : Entry) (t client tag : ℕ) (call : Call) → history ≡ before ++ entry ∷ behind → entry.author ≡ c
        → entry.event ≡ Accept t client tag call → IsRight c script.lines before (Accept t client tag call) entry.answer → Front (before ++ entry ∷ [])
    accept_front before behind entry t client tag call whole mine is r =
        let line : IsAtLine c script.lines (signed_journal before) (order.Call call) = r.1.0 in
        let open_ : is_closed (journal_of before) ≡ false = no_accept (journal_of before) t client tag call (subst (λ e. IsTrue (may_follow (journal_of before) e)) is (may_here before behind entry whole)) in
        record {
          front = line.above ++ line.line ∷ [];
          back = line.below;
          begins = line.split ∙ sym (append_assoc line.above (line.line ∷ []) line.below);
          calls = ap (calls_of c) (signed-append before (entry ∷ [])) ∙ calls_of-append c (signed_journal before) (signed_journal (entry ∷ []))
              ∙ (λ i. line.stands.calls i ++ (call_in c (signed_by (mine i) (is i)) ++ []))
              ∙ (λ i. call_lines 1 line.above ++ ((if own c i then (r.1.1 i, call) ∷ [] else []) ++ []))
              ∙ ap (λ cs. call_lines 1 line.above ++ cs) (sym (ap (λ o. line_call (next_number 1 line.above) o ++ []) line.orders))
              ∙ sym (calls-append 1 line.above (line.line ∷ []));
          unclosed = close_none line.above (line.line ∷ []) (none_closed c (signed_journal before) line.above (signed_closed before ∙ open_) line.stands.come)
              (ap (λ o. is_close_line o || false) line.orders);
        }
      where
        own : (n : ℕ) → (n == n) ≡ true
        own n = grind (arith, nat_tests)

    front_step : (before behind : List Entry) (entry : Entry) → history ≡ before ++ entry ∷ behind → Front before → Front (before ++ entry ∷ [])
    front_step before behind entry whole f = by (entry.author == c) refl
      where
        mine : entry.author ≡ c → (event : Event) → entry.event ≡ event → IsRight c script.lines before event entry.answer → Front (before ++ entry ∷ [])
        mine same (Accept t client tag call) is r = accept_front before behind entry t client tag call whole same is r
        mine same (Cancel t) is r = silent_front before entry (ap (λ e. call_in c (signed_by entry.author e) ++ []) is) f
        mine same Close is r = silent_front before entry (ap (λ e. call_in c (signed_by entry.author e) ++ []) is) f
        mine same (Settle t mark) is r = silent_front before entry (ap (λ e. call_in c (signed_by entry.author e) ++ []) is) f
        mine same (Checked file) is r = silent_front before entry (ap (λ e. call_in c (signed_by entry.author e) ++ []) is) f

        by : (b : Bool) → (entry.author == c) ≡ b → Front (before ++ entry ∷ [])
        by true e =
            let same = eqb-true entry.author c e in
            mine same entry.event refl (right_in c script.lines [] before behind entry (subst (AreRight c script.lines []) whole (runs c script there)) same)
        by false e = silent_front before entry (none_theirs c (entry ∷ []) (ap (λ b. b || false) e)) f

    front_from : (before rest : List Entry) → history ≡ before ++ rest → Front before → Front history
    front_from before [] whole f = subst Front (sym (whole ∙ append-nil before)) f
    front_from before (entry ∷ rest) whole f =
        front_from (before ++ entry ∷ []) rest (whole ∙ sym (append_assoc before (entry ∷ []) rest)) (front_step before rest entry whole f)

    front_all : Front history
    front_all = front_from [] history refl (record { front = []; back = script.lines; begins = refl; calls = refl; unclosed = refl })

    of_script : OfScript c script.lines journal
    of_script = record {
      front = front_all.front;
      back = front_all.back;
      begins = front_all.begins;
      calls = ap (calls_of c) (sym same_all) ∙ front_all.calls;
      unclosed = front_all.unclosed;
      accepts = accepts;
      cancels = cancels;
    }

  -- ---- nobody else

  none_of : (c : ℕ) → slice_get scripts c ≡ None → (before : List Entry) (entry : Entry) → Maker before entry → call_in c entry.event ≡ []
  none_of c none before entry (Clients script there right) = by entry.event right
    where
      apart : (client : ℕ) → client ≡ entry.author → (client == c) ≡ false
      apart client same = case_of (client == c) refl
        where
          case_of : (b : Bool) → (client == c) ≡ b → b ≡ false
          case_of true e =
              let both : Some script ≡ None = sym there ∙ ap (slice_get scripts) (sym same ∙ eqb-true client c e) ∙ none in cc
          case_of false e = refl

      by : (event : Event) → IsRight entry.author script.lines before event entry.answer → call_in c event ≡ []
      by (Accept t client tag call) r = ap (λ b. if b then (tag, call) ∷ [] else []) (apart client r.0)
      by (Cancel t) r = refl
      by Close r = refl
      by (Settle t mark) r = refl
      by (Checked file) r = refl
  none_of c none before entry (Others other servant) = by entry.event servant
    where
      by : (event : Event) → IsServants scripts seen before event → call_in c event ≡ []
      by (Accept t client tag call) s = absurd s
      by (Cancel t) s = refl
      by Close s = refl
      by (Settle t mark) s = refl
      by (Checked file) s = refl

  none_from : (c : ℕ) → slice_get scripts c ≡ None → (before rest : List Entry) → history ≡ before ++ rest → calls_of c (journal_of rest) ≡ []
  none_from c none before [] whole = refl
  none_from c none before (entry ∷ rest) whole =
      (λ i. none_of c none before entry (maker before rest entry whole) i
      ++ none_from c none (before ++ entry ∷ []) rest (whole ∙ sym (append_assoc before (entry ∷ []) rest)) i)

  -- ---- the shutdown

  no_close : (front : List Event) → IsTrue (may_follow front Close) → is_closed front ≡ false
  no_close front may = by (is_closed front) may
    where
      by : (b : Bool) → not b ≡ true → b ≡ false
      by true h = sym h
      by false h = refl

  -- of clients that have ended, behind which the session was not shut down
  unclosed_ended : (c : ℕ) (lines : List Line) (prefix : List Entry) → HasEnded c lines prefix → is_closed (journal_of prefix) ≡ false
      → Stands c (signed_journal prefix) lines × (is_finished c (signed_journal prefix) lines ≡ true)
  unclosed_ended c lines prefix (inl h) open_ = absurd (true≢false (sym h ∙ open_))
  unclosed_ended c lines prefix (inr h) open_ = h

  prefix_open : (prefix before : List Entry) → IsPrefix prefix before → is_closed (journal_of before) ≡ false → is_closed (journal_of prefix) ≡ false
  prefix_open prefix before more open_ = by (is_closed (journal_of prefix)) refl
    where
      by : (b : Bool) → is_closed (journal_of prefix) ≡ b → b ≡ false
      by true e = sym (subst (λ es. is_closed (journal_of es) ≡ true) more.1 (more_closed prefix more.0 e)) ∙ open_
      by false e = refl

  record Reason (front : List Event) : Type 0 where
    finished : some_close scripts ≡ false → (c : ℕ) (script : Script) → slice_get scripts c ≡ Some script → is_finished c front script.lines ≡ true
    closer : some_close scripts ≡ true → IsAtClose scripts front

  reason : (front back : List Event) → journal ≡ front ++ Close ∷ back → Reason front
  reason front back h =
      let s = split_of history front back Close h in
      by s (maker s.before s.behind s.entry s.whole)
      (no_close (journal_of s.before) (subst (λ e. IsTrue (may_follow (journal_of s.before) e)) s.is_event (may_here s.before s.behind s.entry s.whole)))
    where
      by : (s : Split history front Close) → Maker s.before s.entry → is_closed (journal_of s.before) ≡ false → Reason front
      by s (Clients script there right) open_ =
          let line : IsAtLine s.entry.author script.lines (signed_journal s.before) order.Close = subst (λ (e : Event). IsRight s.entry.author script.lines s.before e s.entry.answer) s.is_event right in
          let told : IsAtLine s.entry.author script.lines front order.Close =
          line_of s.entry.author s.entry.author script script s.before s.behind s.entry front order.Close s.whole s.is_front refl refl line in
          let closes : has_close script.lines ≡ true =
          ap has_close line.split ∙ any_split (λ (l : Line). is_close_line l.order) line.above line.below line.line (ap is_close_line line.orders) in
          record {
            finished = λ none. absurd (true≢false (sym (any_there (λ (one : Script). has_close one.lines) scripts s.entry.author script there closes) ∙ none));
            closer = λ some. record {
              client = s.entry.author;
              script = script;
              there = there;
              line = told;
              first = none_closed s.entry.author front told.above (ap is_closed (sym s.is_front) ∙ open_) told.stands.come;
            };
          }
      by s (Others none servant) open_ =
          let begins : (c : ℕ) (script : Script) → slice_get scripts c ≡ Some script → IsPrefix (seen c) s.before = subst (IsServants scripts seen s.before) s.is_event servant in
          let ended : (c : ℕ) (script : Script) → slice_get scripts c ≡ Some script → Stands c (signed_journal (seen c)) script.lines × (is_finished c (signed_journal (seen c)) script.lines ≡ true) =
          λ c script there. unclosed_ended c script.lines (seen c) (played.clients c script there).ended (prefix_open (seen c) s.before (begins c script there) open_) in
          record {
            finished = λ none c script there.
                let more = begins c script there in
                subst (λ js. is_finished c js script.lines ≡ true) (same_front s.before (s.entry ∷ s.behind) s.whole ∙ s.is_front)
                (subst (λ es. is_finished c (signed_journal es) script.lines ≡ true) more.1 (finished_more c (seen c) more.0 (call_lines 1 script.lines) (ended c script there).1));
            closer = λ some.
                let p = passing_at (λ (one : Script). has_close one.lines) scripts some in
                absurd (true≢false (sym p.passes_ ∙ none_closed p.place (signed_journal (seen p.place)) p.at.lines
                (signed_closed (seen p.place) ∙ prefix_open (seen p.place) s.before (begins p.place p.at p.there) open_) (ended p.place p.at p.there).0.come));
          }

  is_close_event : (event : Event) → is_close event ≡ true → event ≡ Close
  is_close_event (Accept t client tag call) h = absurd (true≢false (sym h))
  is_close_event (Cancel t) h = absurd (true≢false (sym h))
  is_close_event Close h = refl
  is_close_event (Settle t mark) h = absurd (true≢false (sym h))
  is_close_event (Checked file) h = absurd (true≢false (sym h))

  pub of_scripts : is_closed journal ≡ true → OfScripts scripts journal
  of_scripts closed =
      let p = passing is_close journal closed in
      let whole : journal ≡ p.front ++ Close ∷ p.back = p.whole ∙ ap (λ e. p.front ++ e ∷ p.back) (is_close_event p.at p.passes_) in
      let why = reason p.front p.back whole in
      record {
        each = λ c script there. of_script c script there;
        only = λ c none. none_from c none [] history refl;
        before = p.front;
        behind = p.back;
        shut = whole;
        finished = why.finished;
        closer = why.closer;
      }
