-- What a history says that went on.
use Rattle.std.proofs.Common.{◌≡◌, ℕ, ◌≤◌, Bool, true, false, true≢false, ◌||◌, ◌&&◌, ◌==◌, cond, if◌then◌else◌, is_some, List, [], ◌∷◌, ◌++◌, Option, Some, None, refl, sym, ap, ◌∙◌, arith, append-nil}
use Rattle.std.specs.List.{list_any, list_all}
use Rattle.std.specs.Option.{option_or}
use Rattle.std.proofs.lemmas.Bool.{and_parts, and_from}
use Rattle.std.proofs.lemmas.List.{map-append}
use Rattle.std.proofs.lemmas.List.Folds.{list_any-append}
use Rattle.std.proofs.lemmas.List.Concat.{flat_map-append}
use Rattle.std.proofs.lemmas.List.Sums.{sum_by-append}
use Rattle.ask_history.specs.Journal.{accepted, is_accept, call_under, ticket_of, ticket_under, is_closed, is_close, is_settled, settles, is_cancelled, cancels}
use Rattle.ask_history.specs.declared.answers.Answer.{Answer}
use Rattle.ask_history.specs.declared.calls.Call.{Call}
use Rattle.ask_history.specs.declared.events.Event.{Event}
use Rattle.ask_history.specs.declared.events.Event.TheVariants.{Accept, Cancel, Close, Settle, Checked}
use Rattle.ask_history.specs.declared.script.Order.{Order}
use Rattle.ask_history.specs.declared.script.Order.TheVariants as order
use Rattle.ask_history.specs.declared.script.Line.{Line}
use Rattle.client_scripts.specs.Clients.{call_in, calls_of, passes, has_come, Stands}
use Rattle.client_scripts.specs.History.{Entry, journal_of, signed_by, signed_journal, answer_of, taker_of, has_entry_of}

pub or_left : (b c : Bool) → (b || c) ≡ false → b ≡ false
or_left true c h = h
or_left false c h = refl

pub or_right : (b c : Bool) → (b || c) ≡ false → c ≡ false
or_right true c h = absurd (true≢false h)
or_right false c h = h

pub or_more : (b c : Bool) → b ≡ true → (b || c) ≡ true
or_more b c h = ap (λ x. x || c) h

-- ---- one history behind the other

pub journal_of-append : (front back : List Entry) → journal_of (front ++ back) ≡ journal_of front ++ journal_of back
journal_of-append front back = map-append (λ (entry : Entry). entry.event) front back

pub signed-append : (front back : List Entry) → signed_journal (front ++ back) ≡ signed_journal front ++ signed_journal back
signed-append front back = map-append (λ (entry : Entry). signed_by entry.author entry.event) front back

pub calls_of-append : (c : ℕ) (front back : List Event) → calls_of c (front ++ back) ≡ calls_of c front ++ calls_of c back
calls_of-append c front back = flat_map-append (call_in c) front back

option_or-assoc : (a b c : Option ℕ) → option_or a (option_or b c) ≡ option_or (option_or a b) c
option_or-assoc None b c = refl
option_or-assoc (Some t) b c = refl

option_or-none : (a : Option ℕ) → option_or a None ≡ a
option_or-none None = refl
option_or-none (Some t) = refl

pub ticket_of-append : (front back : List Event) (c k : ℕ) → ticket_of (front ++ back) c k ≡ option_or (ticket_of front c k) (ticket_of back c k)
ticket_of-append [] back c k = refl
ticket_of-append (event ∷ front) back c k =
    ap (option_or (ticket_under c k event)) (ticket_of-append front back c k) ∙ option_or-assoc (ticket_under c k event) (ticket_of front c k) (ticket_of back c k)

-- a tag by which a client has no accepted call
pub no_ticket : (c k : ℕ) (journal : List Event) → list_any (λ (call : ℕ × Call). call.0 == k) (calls_of c journal) ≡ false → ticket_of journal c k ≡ None
no_ticket c k [] h = refl
no_ticket c k (Accept ticket client tag call ∷ journal) h = by (client == c) (λ e. no_ticket c k journal e) h
  where
    by : (b : Bool) → (list_any (λ (call : ℕ × Call). call.0 == k) (calls_of c journal) ≡ false → ticket_of journal c k ≡ None)
        → list_any (λ (call : ℕ × Call). call.0 == k) ((if b then (tag, call) ∷ [] else []) ++ calls_of c journal) ≡ false
        → option_or (if b && (tag == k) then Some ticket else None) (ticket_of journal c k) ≡ None
    by true rest e = ap (λ t. option_or (if t then Some ticket else None) (ticket_of journal c k)) (or_left (tag == k) _ e) ∙ rest (or_right (tag == k) _ e)
    by false rest e = rest e
no_ticket c k (Cancel ticket ∷ journal) h = no_ticket c k journal h
no_ticket c k (Close ∷ journal) h = no_ticket c k journal h
no_ticket c k (Settle ticket mark ∷ journal) h = no_ticket c k journal h
no_ticket c k (Checked file ∷ journal) h = no_ticket c k journal h

pub no_tickets : (c k : ℕ) (journal : List Event) → calls_of c journal ≡ [] → ticket_of journal c k ≡ None
no_tickets c k journal h = no_ticket c k journal (ap (list_any (λ (call : ℕ × Call). call.0 == k)) h)

-- ---- signing tells no more of settlings, cancels and the shutdown

same_any : (test : Event → Bool) → ((author : ℕ) (event : Event) → test (signed_by author event) ≡ test event) → (history : List Entry)
    → list_any test (signed_journal history) ≡ list_any test (journal_of history)
same_any test same [] = refl
same_any test same (entry ∷ history) = λ i. same entry.author entry.event i || same_any test same history i

pub signed_settled : (history : List Entry) (t : ℕ) → is_settled (signed_journal history) t ≡ is_settled (journal_of history) t
signed_settled history t = same_any (settles t) same history
  where
    same : (author : ℕ) (event : Event) → settles t (signed_by author event) ≡ settles t event
    same author (Accept ticket client tag call) = refl
    same author (Cancel ticket) = refl
    same author Close = refl
    same author (Settle ticket mark) = refl
    same author (Checked file) = refl

pub signed_cancelled : (history : List Entry) (t : ℕ) → is_cancelled (signed_journal history) t ≡ is_cancelled (journal_of history) t
signed_cancelled history t = same_any (cancels t) same history
  where
    same : (author : ℕ) (event : Event) → cancels t (signed_by author event) ≡ cancels t event
    same author (Accept ticket client tag call) = refl
    same author (Cancel ticket) = refl
    same author Close = refl
    same author (Settle ticket mark) = refl
    same author (Checked file) = refl

pub signed_closed : (history : List Entry) → is_closed (signed_journal history) ≡ is_closed (journal_of history)
signed_closed history = same_any is_close same history
  where
    same : (author : ℕ) (event : Event) → is_close (signed_by author event) ≡ is_close event
    same author (Accept ticket client tag call) = refl
    same author (Cancel ticket) = refl
    same author Close = refl
    same author (Settle ticket mark) = refl
    same author (Checked file) = refl

-- ---- what others leave

-- of others no call is this client's
pub none_theirs : (c : ℕ) (others : List Entry) → has_entry_of c others ≡ false → calls_of c (signed_journal others) ≡ []
none_theirs c [] h = refl
none_theirs c (entry ∷ others) h =
    (λ i. one entry.event (or_left (entry.author == c) _ h) i ++ none_theirs c others (or_right (entry.author == c) _ h) i)
  where
    one : (event : Event) → (entry.author == c) ≡ false → call_in c (signed_by entry.author event) ≡ []
    one (Accept ticket client tag call) e = ap (λ b. if b then (tag, call) ∷ [] else []) e
    one (Cancel ticket) e = refl
    one Close e = refl
    one (Settle ticket mark) e = refl
    one (Checked file) e = refl

-- entries in which a client has no call
abbrev pub Silent : ℕ → List Entry → Type 0
Silent c more = calls_of c (signed_journal more) ≡ []

pub silent-append : (c : ℕ) (front back : List Entry) → Silent c front → Silent c back → Silent c (front ++ back)
silent-append c front back h k =
    ap (calls_of c) (signed-append front back) ∙ calls_of-append c (signed_journal front) (signed_journal back)
    ∙ (λ i. h i ++ k i)

-- ---- more entries, in which a client has no call

module _ (c : ℕ) (old more : List Entry) (silent : Silent c more) where
  pub more_calls : calls_of c (signed_journal (old ++ more)) ≡ calls_of c (signed_journal old)
  more_calls =
      ap (calls_of c) (signed-append old more) ∙ calls_of-append c (signed_journal old) (signed_journal more)
      ∙ ap (λ cs. calls_of c (signed_journal old) ++ cs) silent ∙ append-nil (calls_of c (signed_journal old))

  pub more_ticket : (k : ℕ) → ticket_of (signed_journal (old ++ more)) c k ≡ ticket_of (signed_journal old) c k
  more_ticket k =
      ap (λ js. ticket_of js c k) (signed-append old more) ∙ ticket_of-append (signed_journal old) (signed_journal more) c k
      ∙ ap (option_or (ticket_of (signed_journal old) c k)) (no_tickets c k (signed_journal more) silent) ∙ option_or-none (ticket_of (signed_journal old) c k)

pub more_any : (test : Event → Bool) (old more : List Entry) → list_any test (signed_journal old) ≡ true → list_any test (signed_journal (old ++ more)) ≡ true
more_any test old more h =
    ap (list_any test) (signed-append old more) ∙ list_any-append test (signed_journal old) (signed_journal more)
    ∙ or_more (list_any test (signed_journal old)) (list_any test (signed_journal more)) h

pub more_closed : (old more : List Entry) → is_closed (journal_of old) ≡ true → is_closed (journal_of (old ++ more)) ≡ true
more_closed old more h = sym (signed_closed (old ++ more)) ∙ more_any is_close old more (signed_closed old ∙ h)

pub more_accepted : (old more : List Entry) → accepted (journal_of old) ≤ accepted (journal_of (old ++ more))
more_accepted old more =
    let same : accepted (journal_of (old ++ more)) ≡ accepted (journal_of old ++ journal_of more) = ap accepted (journal_of-append old more) in
    let both = sum_by-append (λ (e : Event). cond (is_accept e) 1 0) (journal_of old) (journal_of more) in
    omega arith

-- what passes a test that more entries keep
passes_more : (test test' : ℕ → Bool) → ((t : ℕ) → test t ≡ true → test' t ≡ true) → (o more : Option ℕ) → passes test o ≡ true → passes test' (option_or o more) ≡ true
passes_more test test' f None more h = absurd (true≢false (sym h))
passes_more test test' f (Some t) more h = f t h

or_both : (a b a' b' : Bool) → (a ≡ true → a' ≡ true) → (b ≡ true → b' ≡ true) → (a || b) ≡ true → (a' || b') ≡ true
or_both true b a' b' f g h = ap (λ x. x || b') (f refl)
or_both false b a' b' f g h = ap (λ x. a' || x) (g h) ∙ last a'
  where
    last : (x : Bool) → (x || true) ≡ true
    last true = refl
    last false = refl

module _ (c : ℕ) (old more : List Entry) where
  more_tickets : (k : ℕ) → ticket_of (signed_journal (old ++ more)) c k ≡ option_or (ticket_of (signed_journal old) c k) (ticket_of (signed_journal more) c k)
  more_tickets k = ap (λ js. ticket_of js c k) (signed-append old more) ∙ ticket_of-append (signed_journal old) (signed_journal more) c k

  -- a ticket stays
  pub ticket_stays : (k t : ℕ) → ticket_of (signed_journal old) c k ≡ Some t → ticket_of (signed_journal (old ++ more)) c k ≡ Some t
  ticket_stays k t h = more_tickets k ∙ ap (λ o. option_or o (ticket_of (signed_journal more) c k)) h

  -- what a line waited for stays
  pub come_more : (meant : Order) → has_come c (signed_journal old) meant ≡ true → has_come c (signed_journal (old ++ more)) meant ≡ true
  come_more (order.Call call) h = refl
  come_more (order.Cancel k) h =
      ap (passes (λ t. is_cancelled (signed_journal (old ++ more)) t || is_settled (signed_journal (old ++ more)) t)) (more_tickets k)
      ∙ passes_more (λ t. is_cancelled (signed_journal old) t || is_settled (signed_journal old) t)
      (λ t. is_cancelled (signed_journal (old ++ more)) t || is_settled (signed_journal (old ++ more)) t)
      (λ t. or_both (is_cancelled (signed_journal old) t) (is_settled (signed_journal old) t) _ _ (more_any (cancels t) old more) (more_any (settles t) old more))
      (ticket_of (signed_journal old) c k) (ticket_of (signed_journal more) c k) h
  come_more order.Close h = more_any is_close old more h
  come_more (order.Wait k) h =
      ap (passes (is_settled (signed_journal (old ++ more)))) (more_tickets k)
      ∙ passes_more (is_settled (signed_journal old)) (is_settled (signed_journal (old ++ more))) (λ t. more_any (settles t) old more)
      (ticket_of (signed_journal old) c k) (ticket_of (signed_journal more) c k) h
  come_more order.Idle h = refl

  pub all_come : (lines : List Line) → list_all (λ (line : Line). has_come c (signed_journal old) line.order) lines ≡ true
      → list_all (λ (line : Line). has_come c (signed_journal (old ++ more)) line.order) lines ≡ true
  all_come [] h = refl
  all_come (line ∷ lines) h =
      let both = and_parts (has_come c (signed_journal old) line.order) (list_all (λ (line : Line). has_come c (signed_journal old) line.order) lines) h in
      and_from _ _ (come_more line.order both.0) (all_come lines both.1)

pub stands_more : (c : ℕ) (old more : List Entry) (above : List Line) → Silent c more → Stands c (signed_journal old) above → Stands c (signed_journal (old ++ more)) above
stands_more c old more above silent h = record { calls = more_calls c old more silent ∙ h.calls; come = all_come c old more above h.come }

-- ---- answers and takers

pub more_answer : (old more : List Entry) (t : ℕ) (found : Answer) → answer_of old t ≡ Some found → answer_of (old ++ more) t ≡ Some found
more_answer [] more t found h = cc
more_answer (entry ∷ old) more t found h = by (settles t entry.event) (λ e. more_answer old more t found e) h
  where
    by : (b : Bool) → (answer_of old t ≡ Some found → answer_of (old ++ more) t ≡ Some found) → (if b then entry.answer else answer_of old t) ≡ Some found → (if b then entry.answer else answer_of (old ++ more) t) ≡ Some found
    by true further e = e
    by false further e = further e

pub more_taker : (old more : List Entry) (t n : ℕ) → taker_of old t ≡ Some n → taker_of (old ++ more) t ≡ Some n
more_taker [] more t n h = cc
more_taker (entry ∷ old) more t n h = by (is_some (call_under t entry.event)) (λ e. more_taker old more t n e) h
  where
    by : (b : Bool) → (taker_of old t ≡ Some n → taker_of (old ++ more) t ≡ Some n) → (if b then Some entry.author else taker_of old t) ≡ Some n → (if b then Some entry.author else taker_of (old ++ more) t) ≡ Some n
    by true further e = e
    by false further e = further e

-- what has an answer is settled
pub answer_settled : (history : List Entry) (t : ℕ) (found : Answer) → answer_of history t ≡ Some found → is_settled (journal_of history) t ≡ true
answer_settled [] t found h = cc
answer_settled (entry ∷ history) t found h = by (settles t entry.event) (λ e. answer_settled history t found e) h
  where
    by : (b : Bool) → (answer_of history t ≡ Some found → is_settled (journal_of history) t ≡ true) → (if b then entry.answer else answer_of history t) ≡ Some found → (b || is_settled (journal_of history) t) ≡ true
    by true further e = refl
    by false further e = further e
