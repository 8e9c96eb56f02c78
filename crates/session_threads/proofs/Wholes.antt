-- A whole history is that of clients that play their scripts, and their answers are its replies.
use Rattle.std.proofs.Common.{◌≡◌, ℕ, zero, suc, ◌+◌, true, IsTrue, List, [], ◌∷◌, ◌++◌, map, length, slice_get, option_and_then, Option, Some, None, refl, sym, ap, ◌∙◌, subst, arith}
use Rattle.std.specs.Prelude.{IfSome, option_map}
use Rattle.std.proofs.lemmas.Option.{slice_get-map}
use Rattle.pc_terms.specs.declared.problems.Problem.{Problem}
use Rattle.ask_history.specs.Sources.{Bytes, Sources}
use Rattle.ask_history.specs.Journal.{is_closed, reply_in, ticket_of}
use Rattle.ask_history.specs.Legal.{is_legal}
use Rattle.ask_history.specs.declared.answers.Answer.{Answer}
use Rattle.ask_history.specs.declared.calls.Call.{Call}
use Rattle.ask_history.specs.declared.script.Script.{Script}
use Rattle.client_scripts.specs.Clients.{calls_of}
use Rattle.client_scripts.specs.History.{Entry, IsLater}
use Rattle.client_scripts.specs.History as clients
use Rattle.client_scripts.specs.OfScripts.{OfScripts}
use Rattle.client_scripts.specs.Runs.{AreAnswers, AllPlayed}
use Rattle.client_scripts.proofs.Histories.{more_answer, more_calls, more_ticket, none_theirs}
use Rattle.client_scripts.proofs.Whole.{of_scripts, same_all}
use Rattle.counting_word.specs.declared.view.Entry.{Entry as Noted}
use Rattle.counting_word.specs.History.{journal_of}
use Rattle.desk_clients.specs.Seen.{seen_entry}
use Rattle.desk_clients.proofs.Seeing.{seen_journal, seen_answer}
use Rattle.session_threads.specs.Clients.{HasPlayed, scripts_played, answers_played}
use Rattle.session_threads.specs.Sessions.{answers_to, rows_of, tickets_of}
use Rattle.session_threads.specs.declared.clients.Played.{Played}
use Rattle.session_threads.proofs.Makers.{IsWhole, all_played, seen_at, settled_with, own_later}
use Rattle.session_threads.proofs.Replies.{AreAnswered, kept_reply, lines_tagged, ticket_at, tickets_counted, replies_are, rows_are, AreTagged}
use Rattle.std.proofs.Common.{append_assoc}

-- ---- lists that are told of by rows

length-some : {A : Type 0} (xs : List A) → length (map Some xs) ≡ length xs
length-some [] = refl
length-some (x ∷ xs) = ap suc (length-some xs)

module _ {B : Type 0} where
  counted_by : (clients : List (Played B)) (rows : List (List Answer)) (scripts : List Script) → map Some rows ≡ answers_played clients → scripts_played clients ≡ scripts → length rows ≡ length scripts
  counted_by clients rows scripts answered scripted = sym (length-some rows) ∙ ap length answered ∙ both clients ∙ ap length scripted
    where
      both : (cs : List (Played B)) → length (answers_played cs) ≡ length (scripts_played cs)
      both [] = refl
      both (c ∷ cs) = ap suc (both cs)

  -- the client whose row this is
  pub record HasRow (clients : List (Played B)) (i : ℕ) (row : List Answer) : Type 0 where
    pub client : Played B
    pub there : slice_get clients i ≡ Some client
    pub gives : client.answers ≡ Some row

  row_of : (clients : List (Played B)) (rows : List (List Answer)) (i : ℕ) (row : List Answer) → map Some rows ≡ answers_played clients → slice_get rows i ≡ Some row → HasRow clients i row
  row_of clients rows i row answered there =
      by (slice_get clients i) refl
      (sym (slice_get-map (λ (p : Played B). p.answers) clients i) ∙ ap (λ os. slice_get os i) (sym answered) ∙ slice_get-map Some rows i ∙ ap (option_map Some) there)
    where
      by : (o : Option (Played B)) → slice_get clients i ≡ o → option_map (λ (p : Played B). p.answers) o ≡ Some (Some row) → HasRow clients i row
      by None e k = cc
      by (Some client) e k = let same : client.answers ≡ Some row = cc in record { client = client; there = e; gives = same }

  each_answered : (clients : List (Played B)) (rows : List (List Answer)) → map Some rows ≡ answers_played clients → (c : ℕ) (client : Played B) → slice_get clients c ≡ Some client
      → (answers : List Answer) × (client.answers ≡ Some answers)
  each_answered [] rows answered c client there = cc
  each_answered (first ∷ clients) [] answered c client there = cc
  each_answered (first ∷ clients) (row ∷ rows) answered zero client there =
      let one : Some row ≡ first.answers = cc in
      let same : first ≡ client = cc in (row, ap (λ (p : Played B). p.answers) (sym same) ∙ sym one)
  each_answered (first ∷ clients) (row ∷ rows) answered (suc c) client there =
      let tail : map Some rows ≡ answers_played clients = cc in each_answered clients rows tail c client there

-- ---- the whole

module _ {B : Type 0} (answer_of : Sources → Call → Answer) (problems_of : Sources → Bytes → List Problem) (scripts : List Script) (all : List (Played B)) (before seen history : List Noted) (whole : IsWhole answer_of problems_of scripts all before seen history) (rows : List (List Answer)) (answered : map Some rows ≡ answers_played all) where
  abbrev heard : List Entry
  heard = map seen_entry history

  legal_heard : IsTrue (is_legal (clients.journal_of heard))
  legal_heard = subst (λ js. IsTrue (is_legal js)) (sym (seen_journal history)) whole.legal

  abbrev at : ℕ → List Entry
  at = seen_at answer_of problems_of scripts all before seen history whole

  have_played : AllPlayed scripts at heard
  have_played = all_played answer_of problems_of scripts all before seen history whole (each_answered all rows answered)

  pub of_these : OfScripts scripts (journal_of history)
  of_these =
      subst (OfScripts scripts) (seen_journal history)
      (of_scripts scripts heard at legal_heard have_played (subst (λ js. is_closed js ≡ true) (sym (seen_journal history)) whole.shut))

  signed : clients.signed_journal heard ≡ journal_of history
  signed = same_all scripts heard at legal_heard have_played ∙ seen_journal history

  all_answered : (front entries : List Noted) → history ≡ front ++ entries → AreAnswered answer_of front entries
  all_answered front [] is = tt
  all_answered front (entry ∷ entries) is = (
    (λ t m settles. settled_with answer_of problems_of scripts all before seen history whole front entries entry t m is settles),
    all_answered (front ++ entry ∷ []) entries (is ∙ sym (append_assoc front (entry ∷ []) entries)),
  )

  -- what was kept for a ticket is its reply
  reply_kept : (t : ℕ) (found : Answer) → clients.answer_of heard t ≡ Some found → reply_in answer_of (journal_of history) t ≡ Some found
  reply_kept t found h = sym (kept_reply answer_of t history whole.legal (all_answered [] history refl)) ∙ sym (seen_answer history t) ∙ h

  -- ---- a row

  module _ (c : ℕ) (row : List Answer) (has : HasRow all c row) where
    abbrev one : HasPlayed before c has.client
    one = whole.played c has.client has.there

    abbrev script : Script
    script = has.client.script

    there : slice_get scripts c ≡ Some script
    there = ap (λ ss. slice_get ss c) (sym whole.scripted) ∙ slice_get-map (λ (p : Played B). p.script) all c ∙ ap (option_map (λ (p : Played B). p.script)) has.there

    are : AreAnswers c (map seen_entry one.upto) row
    are = subst (λ (o : Option (List Answer)). IfSome o (AreAnswers c (map seen_entry one.upto))) has.gives one.answered

    later : IsLater c (map seen_entry one.upto) heard
    later = own_later answer_of problems_of scripts all before seen history whole c has.client has.there

    silent : calls_of c (clients.signed_journal later.others) ≡ []
    silent = none_theirs c later.others later.theirs

    same_calls : calls_of c (journal_of history) ≡ calls_of c (clients.signed_journal (map seen_entry one.upto))
    same_calls = ap (calls_of c) (sym signed) ∙ ap (λ es. calls_of c (clients.signed_journal es)) later.behind ∙ more_calls c (map seen_entry one.upto) later.others silent

    same_ticket : (k : ℕ) → ticket_of (journal_of history) c k ≡ ticket_of (clients.signed_journal (map seen_entry one.upto)) c k
    same_ticket k =
        ap (λ js. ticket_of js c k) (sym signed) ∙ ap (λ es. ticket_of (clients.signed_journal es) c k) later.behind ∙ more_ticket c (map seen_entry one.upto) later.others silent k

    tagged : AreTagged 1 (calls_of c (journal_of history))
    tagged = let of = of_these.each c script there in subst (AreTagged 1) (sym of.calls) (lines_tagged 1 of.front)

    at_index : (i : ℕ) (found : Answer) → slice_get row i ≡ Some found → option_and_then (reply_in answer_of (journal_of history)) (slice_get (tickets_of c (journal_of history)) i) ≡ Some found
    at_index i found h =
        ap (option_and_then (reply_in answer_of (journal_of history)))
        (sym (ticket_at c 1 (journal_of history) tagged i) ∙ ap (ticket_of (journal_of history) c) (let e : 1 + i ≡ i + 1 = omega arith in e) ∙ same_ticket (i + 1))
        ∙ by (ticket_of (clients.signed_journal (map seen_entry one.upto)) c (i + 1)) (are.each i found h)
      where
        by : (o : Option ℕ) → option_and_then (clients.answer_of (map seen_entry one.upto)) o ≡ Some found → option_and_then (reply_in answer_of (journal_of history)) o ≡ Some found
        by None k = cc
        by (Some t) k = reply_kept t found (ap (λ es. clients.answer_of es t) later.behind ∙ more_answer (map seen_entry one.upto) later.others t found k)

    pub row_is : row ≡ answers_to answer_of (journal_of history) c
    row_is =
        replies_are answer_of (journal_of history) (tickets_of c (journal_of history)) row
        (are.counted ∙ sym (tickets_counted c (journal_of history) ∙ ap length same_calls)) at_index

  pub rows_are_replies : rows ≡ rows_of answer_of (journal_of history) scripts
  rows_are_replies =
      rows_are answer_of (journal_of history) 0 scripts rows (counted_by all rows scripts answered whole.scripted)
      (λ i row there. row_is i row (row_of all rows i row answered there) ∙ ap (answers_to answer_of (journal_of history)) (let e : i ≡ 0 + i = omega arith in e))
