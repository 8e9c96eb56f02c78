-- The answers that clients were handed are the replies of the journal.
use Rattle.std.proofs.Common.{◌≡◌, ℕ, zero, suc, ◌+◌, Bool, true, false, true≢false, ◌||◌, ◌&&◌, ◌==◌, cond, IsTrue, List, [], ◌∷◌, ◌++◌, length, slice_get, option_and_then, Option, Some, None, refl, sym, ap, ◌∙◌, subst, arith, add-zero}
use Rattle.std.proofs.lemmas.Bool.{eqb-true}
use Rattle.std.proofs.lemmas.Bool.Decides.{nat_tests}
use Rattle.std.proofs.lemmas.List.Folds.{list_any-append}
use Rattle.std.specs.Option.{option_or}
use Rattle.ask_history.specs.Sources.{Sources}
use Rattle.ask_history.specs.Journal.{is_settled, settles, onto, reply, reply_in, reply_step, replies_to, ticket_of}
use Rattle.ask_history.specs.Legal.{may_follow, is_legal}
use Rattle.ask_history.specs.Walk.{walk}
use Rattle.ask_history.specs.declared.answers.Answer.{Answer}
use Rattle.ask_history.specs.declared.calls.Call.{Call}
use Rattle.ask_history.specs.declared.events.Event.{Event}
use Rattle.ask_history.specs.declared.events.Event.TheVariants.{Accept, Cancel, Close, Settle, Checked}
use Rattle.ask_history.specs.declared.events.Mark.{Mark}
use Rattle.ask_history.specs.declared.script.Line.{Line}
use Rattle.ask_history.specs.declared.script.Order.{Order}
use Rattle.ask_history.specs.declared.script.Order.TheVariants as order
use Rattle.ask_history.specs.declared.script.Script.{Script}
use Rattle.ask_history.specs.Nested.{number_after}
use Rattle.ask_history.proofs.Accepted.{settled_once}
use Rattle.ask_history.proofs.Pushes.{list_any-push}
use Rattle.journal_laws.proofs.Tickets.{may_first}
use Rattle.client_scripts.specs.Lines.{call_under, call_lines}
use Rattle.client_scripts.specs.Clients.{calls_of}
use Rattle.counting_word.specs.declared.view.Entry.{Entry}
use Rattle.counting_word.specs.History.{journal_of}
use Rattle.counting_word.proofs.Counting.{journal_of-append}
use Rattle.ask_desk.specs.Answers.{answer_of as kept_answer, found_answer}
use Rattle.session_threads.specs.Sessions.{tickets_of, answers_to, rows_from}
use Rattle.std.proofs.Common.{append_assoc}

-- each settling has its reply for an answer
abbrev pub AreAnswered : (Sources → Call → Answer) → List Entry → List Entry → Type 0
AreAnswered answer_of before [] = Unit {0}
AreAnswered answer_of before (entry ∷ entries) =
    ((ticket : ℕ) (m : Mark) → entry.event ≡ Settle ticket m → found_answer entry.found ≡ Some (reply answer_of (journal_of before) ticket m)) × AreAnswered answer_of (before ++ entry ∷ []) entries

-- ---- a ticket is settled once, with its reply

module _ (answer_of : Sources → Call → Answer) (t : ℕ) where
  -- where a ticket is settled, nothing changes its reply
  reply_stays : (journal more : List Event) (state : Option Answer) → is_settled journal t ≡ true → IsTrue (is_legal (journal ++ more)) → walk (reply_step answer_of t) state journal more ≡ state
  reply_stays journal [] state done legal = refl
  reply_stays journal (event ∷ more) state done legal =
      let first = may_first journal event more legal in
      ap (λ (s : Option Answer). walk (reply_step answer_of t) s (journal ++ event ∷ []) more) (one event first.1)
      ∙ reply_stays (journal ++ event ∷ []) more state (list_any-append (settles t) journal (event ∷ []) ∙ ap (λ b. b || (settles t event || false)) done)
      (subst (λ js. IsTrue (is_legal js)) (sym (append_assoc journal (event ∷ []) more)) legal)
    where
      one : (e : Event) → IsTrue (may_follow journal e) → reply_step answer_of t journal state e ≡ state
      one (Accept ticket client tag call) may = refl
      one (Cancel ticket) may = refl
      one Close may = refl
      one (Settle ticket m) may = by (ticket == t) refl
        where
          by : (b : Bool) → (ticket == t) ≡ b → cond b (Some (reply answer_of journal t m)) state ≡ state
          by true e =
              let same : ticket ≡ t = eqb-true ticket t e in
              absurd (true≢false (sym done ∙ ap (is_settled journal) (sym same) ∙ settled_once journal ticket m may))
          by false e = refl
      one (Checked file) may = refl

  kept_from : (before entries : List Entry) → IsTrue (is_legal (journal_of before ++ journal_of entries)) → AreAnswered answer_of before entries
      → walk (reply_step answer_of t) None (journal_of before) (journal_of entries) ≡ kept_answer entries t
  kept_from before [] legal right = refl
  kept_from before (entry ∷ entries) legal right = by entry.event refl (settles t entry.event) refl (kept_from (before ++ entry ∷ []) entries (legal' legal) right.1)
    where
      legal' : IsTrue (is_legal (journal_of before ++ journal_of (entry ∷ entries))) → IsTrue (is_legal (journal_of (before ++ entry ∷ []) ++ journal_of entries))
      legal' h =
          subst (λ js. IsTrue (is_legal js)) (sym (append_assoc (journal_of before) (entry.event ∷ []) (journal_of entries)) ∙ ap (λ js. js ++ journal_of entries) (sym (journal_of-append before (entry ∷ [])))) h

      -- it does not settle the ticket
      skipped : walk (reply_step answer_of t) None (journal_of (before ++ entry ∷ [])) (journal_of entries) ≡ kept_answer entries t
          → (e : Event) → entry.event ≡ e → settles t e ≡ false → reply_step answer_of t (journal_of before) None e ≡ None
          → walk (reply_step answer_of t) None (journal_of before) (journal_of (entry ∷ entries)) ≡ kept_answer (entry ∷ entries) t
      skipped rest e is differs none =
          ap (λ (s : Option Answer). walk (reply_step answer_of t) s (journal_of before ++ entry.event ∷ []) (journal_of entries)) (ap (reply_step answer_of t (journal_of before) None) is ∙ none)
          ∙ ap (λ js. walk (reply_step answer_of t) None js (journal_of entries)) (sym (journal_of-append before (entry ∷ [])))
          ∙ rest
          ∙ ap (λ b. cond b (found_answer entry.found) (kept_answer entries t)) (sym (ap (settles t) is ∙ differs))

      by : (e : Event) → entry.event ≡ e → (b : Bool) → settles t entry.event ≡ b → walk (reply_step answer_of t) None (journal_of (before ++ entry ∷ [])) (journal_of entries) ≡ kept_answer entries t
          → walk (reply_step answer_of t) None (journal_of before) (journal_of (entry ∷ entries)) ≡ kept_answer (entry ∷ entries) t
      by (Accept ticket client tag call) is b k rest = skipped rest (Accept ticket client tag call) is refl refl
      by (Cancel ticket) is b k rest = skipped rest (Cancel ticket) is refl refl
      by Close is b k rest = skipped rest Close is refl refl
      by (Checked file) is b k rest = skipped rest (Checked file) is refl refl
      by (Settle ticket m) is false k rest =
          let differs : (ticket == t) ≡ false = ap (settles t) (sym is) ∙ k in
          skipped rest (Settle ticket m) is differs (ap (λ c. cond c (Some (reply answer_of (journal_of before) t m)) None) differs)
      by (Settle ticket m) is true k rest =
          let yes : (ticket == t) ≡ true = ap (settles t) (sym is) ∙ k in
          let same : ticket ≡ t = eqb-true ticket t yes in
          let settled : is_settled (journal_of before ++ entry.event ∷ []) t ≡ true = list_any-push (settles t) (journal_of before) entry.event ∙ ap (λ c. is_settled (journal_of before) t || c) k ∙ or_true (is_settled (journal_of before) t) in
          ap (λ (s : Option Answer). walk (reply_step answer_of t) s (journal_of before ++ entry.event ∷ []) (journal_of entries))
          (ap (reply_step answer_of t (journal_of before) None) is ∙ ap (λ c. cond c (Some (reply answer_of (journal_of before) t m)) None) yes)
          ∙ reply_stays (journal_of before ++ entry.event ∷ []) (journal_of entries) (Some (reply answer_of (journal_of before) t m)) settled
          (subst (λ js. IsTrue (is_legal js)) (sym (append_assoc (journal_of before) (entry.event ∷ []) (journal_of entries))) legal)
          ∙ ap (λ n. Some (reply answer_of (journal_of before) n m)) (sym same)
          ∙ sym (right.0 ticket m is)
          ∙ ap (λ c. cond c (found_answer entry.found) (kept_answer entries t)) (sym k)
        where
          or_true : (c : Bool) → (c || true) ≡ true
          or_true true = refl
          or_true false = refl

  pub kept_reply : (history : List Entry) → IsTrue (is_legal (journal_of history)) → AreAnswered answer_of [] history → kept_answer history t ≡ reply_in answer_of (journal_of history) t
  kept_reply history legal right = sym (kept_from [] history legal right)

-- ---- the tickets of a client

-- calls with the tags from this number on
abbrev pub AreTagged : ℕ → List (ℕ × Call) → Type 0
AreTagged n [] = Unit {0}
AreTagged n (call ∷ calls) = (call.0 ≡ n) × AreTagged (n + 1) calls

pub lines_tagged : (n : ℕ) (lines : List Line) → AreTagged n (call_lines n lines)
lines_tagged n [] = tt
lines_tagged n (line ∷ lines) = by line.order (λ m. lines_tagged m lines)
  where
    by : (o : Order) → ((m : ℕ) → AreTagged m (call_lines m lines)) → AreTagged n (call_under n o ++ call_lines (number_after o n) lines)
    by (order.Call call) rest = (refl, rest (n + 1))
    by (order.Cancel k) rest = rest n
    by order.Close rest = rest n
    by (order.Wait k) rest = rest n
    by order.Idle rest = rest n

-- the ticket of the client's call of a number
pub ticket_at : (c n : ℕ) (journal : List Event) → AreTagged n (calls_of c journal) → (i : ℕ) → ticket_of journal c (n + i) ≡ slice_get (tickets_of c journal) i
ticket_at c n [] tagged i = refl
ticket_at c n (Cancel t ∷ journal) tagged i = ticket_at c n journal tagged i
ticket_at c n (Close ∷ journal) tagged i = ticket_at c n journal tagged i
ticket_at c n (Settle t m ∷ journal) tagged i = ticket_at c n journal tagged i
ticket_at c n (Checked file ∷ journal) tagged i = ticket_at c n journal tagged i
ticket_at c n (Accept ticket client tag call ∷ journal) tagged i = by (client == c) tagged (λ m. ticket_at c m journal) i
  where
    no_tag : (k j : ℕ) → k ≡ n → (k == (n + suc j)) ≡ false
    no_tag k j e = grind (arith, nat_tests)

    own_tag : (k : ℕ) → k ≡ n → (k == (n + zero)) ≡ true
    own_tag k e = grind (arith, nat_tests)

    by : (b : Bool) → AreTagged n (cond b ((tag, call) ∷ []) [] ++ calls_of c journal)
        → ((m : ℕ) → AreTagged m (calls_of c journal) → (j : ℕ) → ticket_of journal c (m + j) ≡ slice_get (tickets_of c journal) j) → (i : ℕ)
        → option_or (cond (b && (tag == (n + i))) (Some ticket) None) (ticket_of journal c (n + i)) ≡ slice_get (cond b (ticket ∷ []) [] ++ tickets_of c journal) i
    by false h rest i = rest n h i
    by true h rest zero = ap (λ d. option_or (cond d (Some ticket) None) (ticket_of journal c (n + zero))) (own_tag tag h.0)
    by true h rest (suc j) =
        ap (λ d. option_or (cond d (Some ticket) None) (ticket_of journal c (n + suc j))) (no_tag tag j h.0)
        ∙ ap (ticket_of journal c) (let e : n + suc j ≡ (n + 1) + j = omega arith in e)
        ∙ rest (n + 1) h.1 j

pub tickets_counted : (c : ℕ) (journal : List Event) → length (tickets_of c journal) ≡ length (calls_of c journal)
tickets_counted c [] = refl
tickets_counted c (Cancel t ∷ journal) = tickets_counted c journal
tickets_counted c (Close ∷ journal) = tickets_counted c journal
tickets_counted c (Settle t m ∷ journal) = tickets_counted c journal
tickets_counted c (Checked file ∷ journal) = tickets_counted c journal
tickets_counted c (Accept ticket client tag call ∷ journal) = by (client == c) (tickets_counted c journal)
  where
    by : (b : Bool) → length (tickets_of c journal) ≡ length (calls_of c journal) → length (cond b (ticket ∷ []) [] ++ tickets_of c journal) ≡ length (cond b ((tag, call) ∷ []) [] ++ calls_of c journal)
    by true rest = ap suc rest
    by false rest = rest

-- ---- rows

-- answers that are those of tickets, one by one
pub answers_are : (given : ℕ → Option Answer) (tickets : List ℕ) (answers : List Answer) (all : List ℕ → List Answer) → all [] ≡ [] → ((t : ℕ) (ts : List ℕ) → all (t ∷ ts) ≡ onto (given t) (all ts))
    → length answers ≡ length tickets → ((i : ℕ) (found : Answer) → slice_get answers i ≡ Some found → option_and_then given (slice_get tickets i) ≡ Some found) → answers ≡ all tickets
answers_are given [] [] all none more counted each = sym none
answers_are given [] (found ∷ answers) all none more counted each = absurd (let no : ⊥ = omega (arith, counted) in no)
answers_are given (t ∷ tickets) [] all none more counted each = absurd (let no : ⊥ = omega (arith, counted) in no)
answers_are given (t ∷ tickets) (found ∷ answers) all none more counted each =
    sym
    (more t tickets ∙ ap (λ o. onto o (all tickets)) (each 0 found refl)
    ∙ ap (λ rest. found ∷ rest) (sym (answers_are given tickets answers all none more (let e : length answers ≡ length tickets = omega (arith, counted) in e) (λ i. each (suc i)))))

pub replies_are : (answer_of : Sources → Call → Answer) (journal : List Event) (tickets : List ℕ) (answers : List Answer) → length answers ≡ length tickets
    → ((i : ℕ) (found : Answer) → slice_get answers i ≡ Some found → option_and_then (reply_in answer_of journal) (slice_get tickets i) ≡ Some found) → answers ≡ replies_to answer_of journal tickets
replies_are answer_of journal tickets answers counted each = answers_are (reply_in answer_of journal) tickets answers (replies_to answer_of journal) refl (λ t ts. refl) counted each

-- a row for each client
pub rows_are : (answer_of : Sources → Call → Answer) (journal : List Event) (n : ℕ) (scripts : List Script) (rows : List (List Answer)) → length rows ≡ length scripts
    → ((i : ℕ) (row : List Answer) → slice_get rows i ≡ Some row → row ≡ answers_to answer_of journal (n + i)) → rows ≡ rows_from answer_of journal n scripts
rows_are answer_of journal n [] [] counted each = refl
rows_are answer_of journal n [] (row ∷ rows) counted each = absurd (let no : ⊥ = omega (arith, counted) in no)
rows_are answer_of journal n (script ∷ scripts) [] counted each = absurd (let no : ⊥ = omega (arith, counted) in no)
rows_are answer_of journal n (script ∷ scripts) (row ∷ rows) counted each = λ i.
    (each 0 row refl ∙ ap (answers_to answer_of journal) (add-zero n)) i
    ∷ rows_are answer_of journal (n + 1) scripts rows (let e : length rows ≡ length scripts = omega (arith, counted) in e)
    (λ k other there. each (suc k) other there ∙ ap (answers_to answer_of journal) (let e : n + suc k ≡ (n + 1) + k = omega arith in e)) i
