-- Who made an entry of a whole history, and what it then is.
use Rattle.std.proofs.Common.{◌≡◌, ◌⊎◌, inl, inr, ℕ, ◌+◌, ◌<◌, Bool, true, false, ◌||◌, ◌==◌, nat_lt, cond, IsTrue, List, [], ◌∷◌, ◌++◌, map, length, slice_get, Option, Some, None, refl, sym, ap, ◌∙◌, subst, arith, append_assoc, append-nil, ◌≤◌, ◌≢◌}
use mathlib.Core.List.{IsPrefix}
use Rattle.std.specs.Prelude.{option_map, IfSome, unwrap_or}
use Rattle.std.proofs.lemmas.Bool.{and_parts, cases_eq, eq-eqb, eqb-true}
use Rattle.std.proofs.lemmas.Bool.Decides.{nat_tests}
use Rattle.std.proofs.lemmas.Option.{slice_get-map, slice_get_cases}
use Rattle.std.proofs.lemmas.List.{map-append}
use Rattle.pc_terms.specs.declared.problems.Problem.{Problem}
use Rattle.ask_history.specs.Closing.{open_tickets, settled}
use Rattle.ask_history.specs.Sources.{Bytes, Sources}
use Rattle.ask_history.specs.Journal.{after, by_mark, call_of, found, is_cancelled, is_closed, is_close, reply}
use Rattle.ask_history.specs.Legal.{is_legal}
use Rattle.ask_history.specs.declared.answers.Answer.{Answer}
use Rattle.ask_history.specs.declared.answers.Answer.TheVariants as answer
use Rattle.ask_history.specs.declared.calls.Call.{Call}
use Rattle.ask_history.specs.declared.events.Event.{Event}
use Rattle.ask_history.specs.declared.events.Event.TheVariants.{Accept, Cancel, Close, Settle, Checked}
use Rattle.ask_history.specs.declared.events.Mark.{Mark}
use Rattle.ask_history.specs.declared.events.Mark.TheVariants as mark
use Rattle.ask_history.specs.declared.script.Script.{Script}
use Rattle.client_scripts.specs.History.{Entry, IsLater}
use Rattle.client_scripts.specs.Runs as runs
use Rattle.client_scripts.specs.Runs.{Runs, Played as HasPlayedScript, AllPlayed, IsServants}
use Rattle.client_scripts.proofs.Whole.{right_in}
use Rattle.counting_word.specs.declared.view.Entry.{Entry as Noted}
use Rattle.counting_word.specs.History.{journal_of, entries_by, engine_number, is_made, are_made}
use Rattle.counting_word.proofs.Beginnings.{begins-trans}
use Rattle.ask_desk.specs.Answers.{found_answer, callers_find, closing}
use Rattle.desk_driver.specs.Drives as drives
use Rattle.desk_clients.specs.Seen.{seen_entry}
use Rattle.desk_clients.proofs.Seeing.{seen_journal, none_by}
use Rattle.session_threads.specs.Clients.{Each, HasPlayed, scripts_played}
use Rattle.session_threads.specs.Ended.{entries_of}
use Rattle.session_threads.specs.declared.clients.Played.{Played}
use Rattle.session_threads.proofs.Splits.{in_first, in_second, value_at, none_of, rest_has_none, first_has_none}

-- ---- a shutdown

-- an entry of a shutdown behind these: Close, or a settling behind it with the answer that the session is shut down
abbrev pub IsShutting : List Noted → Noted → Event → Type 0
IsShutting before entry (Accept t client tag call) = ⊥
IsShutting before entry (Cancel t) = ⊥
IsShutting before entry Close = Unit {0}
IsShutting before entry (Settle t m) = (is_closed (journal_of before) ≡ true) × (found_answer entry.found ≡ Some answer.Closed)
IsShutting before entry (Checked file) = ⊥

abbrev entry_by : ℕ → Event → Noted
entry_by n event = record { event = event; author = n; found = callers_find event }

closed_in : (before : List Noted) (n : ℕ) (more : List Noted) → is_closed (journal_of (before ++ entry_by n Close ∷ more)) ≡ true
closed_in [] n more = refl
closed_in (first ∷ before) n more = by (is_close first.event) (closed_in before n more)
  where
    by : (b : Bool) {c : Bool} → c ≡ true → (b || c) ≡ true
    by true h = refl
    by false h = h

settling_of : (n : ℕ) (tickets : List ℕ) (front back : List Noted) (entry : Noted) → entries_of n (settled tickets) ≡ front ++ entry ∷ back → (t : ℕ) × (entry ≡ entry_by n (Settle t mark.Done))
settling_of n [] [] back entry h = cc
settling_of n [] (first ∷ front) back entry h = cc
settling_of n (t ∷ tickets) [] back entry h = let same : entry_by n (Settle t mark.Done) ≡ entry = cc in (t, sym same)
settling_of n (t ∷ tickets) (first ∷ front) back entry h =
    let tail : entries_of n (settled tickets) ≡ front ++ entry ∷ back = cc in settling_of n tickets front back entry tail

pub shutting : (n : ℕ) (before front back : List Noted) (entry : Noted) → entries_of n (closing (journal_of before)) ≡ front ++ entry ∷ back → IsShutting (before ++ front) entry entry.event
shutting n before front back entry h = by (is_closed (journal_of before)) front h
  where
    by : (b : Bool) (front : List Noted) → entries_of n (cond b [] (Close ∷ settled (open_tickets (journal_of before)))) ≡ front ++ entry ∷ back → IsShutting (before ++ front) entry entry.event
    by true [] k = cc
    by true (first ∷ front) k = cc
    by false [] k =
        let same : entry_by n Close ≡ entry = cc in
        subst (λ (e : Noted). IsShutting (before ++ []) e e.event) same tt
    by false (first ∷ front) k =
        let same : entry_by n Close ≡ first = cc in
        let tail : entries_of n (settled (open_tickets (journal_of before))) ≡ front ++ entry ∷ back = cc in
        let s = settling_of n (open_tickets (journal_of before)) front back entry tail in
        subst (λ (e : Noted). IsShutting (before ++ first ∷ front) e e.event) (sym s.1)
        (ap (λ (e : Noted). is_closed (journal_of (before ++ e ∷ front))) (sym same) ∙ closed_in before n front, refl)

own_entries : (n : ℕ) (events : List Event) → entries_by n (entries_of n events) ≡ entries_of n events
own_entries n [] = refl
own_entries n (event ∷ events) = (λ i. cond (eq-eqb n n refl i) (entry_by n event ∷ own_entries n events i) (own_entries n events i))

-- ---- numbers

nat_cases : (a n : ℕ) → n ≤ a → a < n + 2 → (a ≡ n) ⊎ (a ≡ n + 1)
nat_cases a n above below = elim (nat_split a n) [
  | inl e ↦ inl e
  | inr other ↦ inr (let e : a ≡ n + 1 = omega (arith, other) in e)
]
  where
    nat_split : (a n : ℕ) → (a ≡ n) ⊎ (a ≢ n)
    nat_split a n = cases_eq a n

below_of : (a n : ℕ) → nat_lt a n ≡ true → a < n
below_of a n h = grind (arith, nat_tests)

made_at : (made : ℕ) (history front back : List Noted) (entry : Noted) → IsTrue (are_made made history) → history ≡ front ++ entry ∷ back → is_made made entry.author ≡ true
made_at made history front back entry all at = by front (subst (λ (es : List Noted). IsTrue (are_made made es)) at all)
  where
    by : (xs : List Noted) → IsTrue (are_made made (xs ++ entry ∷ back)) → is_made made entry.author ≡ true
    by [] h = (and_parts (is_made made entry.author) (are_made made back) h).0
    by (first ∷ xs) h = by xs (and_parts (is_made made first.author) (are_made made (xs ++ entry ∷ back)) h).1

-- ---- a whole history

module _ (answer_of : Sources → Call → Answer) (problems_of : Sources → Bytes → List Problem) where
  engine_right : (start front back : List Noted) (entry : Noted) → drives.AreRight answer_of problems_of start (front ++ entry ∷ back) → entry.author ≡ engine_number
      → drives.IsRight answer_of problems_of (journal_of (start ++ front)) entry.event entry.found
  engine_right start [] back entry h mine =
      subst (λ (es : List Noted). drives.IsRight answer_of problems_of (journal_of es) entry.event entry.found) (sym (append-nil start)) (h.0 mine)
  engine_right start (first ∷ front) back entry h mine =
      subst (λ (es : List Noted). drives.IsRight answer_of problems_of (journal_of es) entry.event entry.found) (append_assoc start (first ∷ []) front)
      (engine_right (start ++ first ∷ []) front back entry h.1 mine)

module _ {B : Type 0} (answer_of : Sources → Call → Answer) (problems_of : Sources → Bytes → List Problem) where
  -- A history of clients that all have played, of which the engine's pass had seen this much while it served. Behind `before` the
  -- closing pass shut the session down. Each pass has seen all that is its own.
  pub record IsWhole (scripts : List Script) (all : List (Played B)) (before seen history : List Noted) : Type 0 where
    pub legal : IsTrue (is_legal (journal_of history))
    pub shut : is_closed (journal_of history) ≡ true
    pub scripted : scripts_played all ≡ scripts
    pub behind : history ≡ before ++ entries_of (length scripts) (closing (journal_of before))
    pub begins : IsPrefix seen history
    pub right : drives.AreRight answer_of problems_of [] seen
    pub engine : entries_by engine_number seen ≡ entries_by engine_number history
    pub made : IsTrue (are_made (length scripts + 2) history)
    pub closer : entries_by (length scripts) history ≡ entries_of (length scripts) (closing (journal_of before))
    pub spare : entries_by (length scripts + 1) history ≡ []
    pub played : Each (HasPlayed before) all
    pub mine : Each (λ c played. played.pass.name.own ≡ entries_by c history) all

  module _ (scripts : List Script) (all : List (Played B)) (before seen history : List Noted) (whole : IsWhole scripts all before seen history) where
    -- ---- a client

    -- the client of a script
    pub record IsClient (c : ℕ) (script : Script) : Type 0 where
      pub client : Played B
      pub there : slice_get all c ≡ Some client
      pub plays : client.script ≡ script

    pub client_of : (c : ℕ) (script : Script) → slice_get scripts c ≡ Some script → IsClient c script
    client_of c script h =
        by (slice_get all c) refl (sym (slice_get-map (λ (p : Played B). p.script) all c) ∙ ap (λ ss. slice_get ss c) whole.scripted ∙ h)
      where
        by : (o : Option (Played B)) → slice_get all c ≡ o → option_map (λ (p : Played B). p.script) o ≡ Some script → IsClient c script
        by None e k = cc
        by (Some client) e k = let same : client.script ≡ script = cc in record { client = client; there = e; plays = same }

    abbrev played_by : (c : ℕ) (script : Script) (is : IsClient c script) → HasPlayed before c is.client
    played_by c script is = whole.played c is.client is.there

    -- what a client had seen at the end of its script begins the history, and nothing of it stands behind
    module _ (c : ℕ) (client : Played B) (at : slice_get all c ≡ Some client) where
      abbrev own_upto : List Noted
      own_upto = (whole.played c client at).upto

      same_own : entries_by c own_upto ≡ entries_by c history
      same_own = sym (whole.played c client at).own ∙ whole.mine c client at

      upto_begins : IsPrefix own_upto history
      upto_begins = begins-trans own_upto before history (whole.played c client at).bounded (entries_of (length scripts) (closing (journal_of before)), sym whole.behind)

      none_later : entries_by c upto_begins.0 ≡ []
      none_later = rest_has_none c own_upto upto_begins.0 history (sym upto_begins.1) same_own

      pub own_later : IsLater c (map seen_entry own_upto) (map seen_entry history)
      own_later = record {
        others = map seen_entry upto_begins.0;
        behind = ap (map seen_entry) (sym upto_begins.1) ∙ map-append seen_entry own_upto upto_begins.0;
        theirs = none_by c upto_begins.0 none_later;
        legal = subst (λ js. IsTrue (is_legal js)) (sym (seen_journal history)) whole.legal;
      }

    -- ---- what each had seen, by its number

    abbrev seen_by : (c : ℕ) (o : Option Script) → slice_get scripts c ≡ o → List Entry
    seen_by c None e = []
    seen_by c (Some script) e = map seen_entry (played_by c script (client_of c script e)).upto

    abbrev pub seen_at : ℕ → List Entry
    seen_at c = seen_by c (slice_get scripts c) refl

    -- it is what a client's pass had seen at the end of its script
    pub record IsSeen (c : ℕ) (script : Script) : Type 0 where
      pub is : IsClient c script
      pub same : seen_at c ≡ map seen_entry (played_by c script is).upto

    pub is_seen : (c : ℕ) (script : Script) → slice_get scripts c ≡ Some script → IsSeen c script
    is_seen c script h = let found = by (slice_get scripts c) refl h in record { is = found.0; same = found.1 }
      where
        by : (o : Option Script) (e : slice_get scripts c ≡ o) → o ≡ Some script → (is : IsClient c script) × (seen_by c o e ≡ map seen_entry (played_by c script is).upto)
        by None e k = cc
        by (Some other) e k =
            let same : other ≡ script = cc in
            subst (λ (s : Script). (is : IsClient c s) × (seen_by c (Some other) e ≡ map seen_entry (played_by c s is).upto)) same (client_of c other e, refl)

    -- ---- who made an entry, and what it then is

    pub data Maker (front : List Noted) (entry : Noted) : Type 0 where
      Engines : drives.IsRight answer_of problems_of (journal_of front) entry.event entry.found → Maker front entry
      Clients : (script : Script) → slice_get scripts entry.author ≡ Some script → runs.IsRight entry.author script.lines (map seen_entry front) entry.event (found_answer entry.found) → Maker front entry
      Closers : (more : List Noted) → front ≡ before ++ more → IsShutting front entry entry.event → Maker front entry

    module _ (front back : List Noted) (entry : Noted) (at : history ≡ front ++ entry ∷ back) where
      engines : entry.author ≡ engine_number → Maker front entry
      engines mine =
          let begins = whole.begins in
          let here = in_first seen begins.0 front back entry (begins.1 ∙ at)
          (λ f b e. none_of engine_number begins.0 f b entry (rest_has_none engine_number seen begins.0 history (sym begins.1) whole.engine) e mine) in
          Engines (engine_right answer_of problems_of [] front here.back entry (subst (drives.AreRight answer_of problems_of []) here.whole whole.right) mine)

      client_entry : (script : Script) → slice_get scripts entry.author ≡ Some script → Maker front entry
      client_entry script there =
          let is = client_of entry.author script there in
          let played = whole.played entry.author is.client is.there in
          let begins = upto_begins entry.author is.client is.there in
          let here = in_first played.upto begins.0 front back entry (begins.1 ∙ at)
          (λ f b e. none_of entry.author begins.0 f b entry (none_later entry.author is.client is.there) e refl) in
          let ran : Runs entry.author script.lines (map seen_entry front ++ seen_entry entry ∷ map seen_entry here.back) =
          subst (Runs entry.author script.lines) (ap (map seen_entry) here.whole ∙ map-append seen_entry front (entry ∷ here.back))
          (subst (λ (s : Script). Runs entry.author s.lines (map seen_entry played.upto)) is.plays played.runs) in
          Clients script there (right_in entry.author script.lines [] (map seen_entry front) (map seen_entry here.back) (seen_entry entry) ran refl)

      closers : entry.author ≡ length scripts → Maker front entry
      closers mine =
          let own = entries_of (length scripts) (closing (journal_of before)) in
          let none = first_has_none (length scripts) before own history whole.behind (whole.closer ∙ sym (own_entries (length scripts) (closing (journal_of before)))) in
          let here = in_second before own front back entry (sym whole.behind ∙ at) (λ f b e. none_of (length scripts) before f b entry none e mine) in
          Closers here.front' here.before
          (subst (λ (es : List Noted). IsShutting es entry entry.event) (sym here.before) (shutting (length scripts) before here.front' back entry here.whole))

      spares : entry.author ≡ length scripts + 1 → Maker front entry
      spares mine = absurd (none_of (length scripts + 1) history front back entry whole.spare at mine)

      pub maker : Maker front entry
      maker = by (entry.author == engine_number) refl
        where
          made : is_made (length scripts + 2) entry.author ≡ true
          made = made_at (length scripts + 2) history front back entry whole.made at

          last : length scripts ≤ entry.author → entry.author < length scripts + 2 → Maker front entry
          last above below = elim (nat_cases entry.author (length scripts) above below) [
            | inl e ↦ closers e
            | inr e ↦ spares e
          ]

          by : (b : Bool) → (entry.author == engine_number) ≡ b → Maker front entry
          by true e = engines (eqb-true entry.author engine_number e)
          by false e =
              let below : entry.author < length scripts + 2 = below_of entry.author (length scripts + 2) (sym (ap (λ b. b || nat_lt entry.author (length scripts + 2)) e) ∙ made) in
              elim (slice_get_cases scripts entry.author).1 [
                | inl (script, within, there, read) ↦ client_entry script there
                | inr (past, none) ↦ last past below
              ]

    -- ---- all have played

    servants : (front back : List Entry) (entry : Entry) → map seen_entry history ≡ front ++ entry ∷ back → slice_get scripts entry.author ≡ None → IsServants scripts seen_at front entry.event
    servants front back entry at none =
        let v = value_at seen_entry history front back entry at in
        subst (λ (es : List Entry). IsServants scripts seen_at es entry.event) v.is_front
        (subst (λ (e : Entry). IsServants scripts seen_at (map seen_entry v.front) e.event) v.is_x
        (by v.front v.x (subst (λ (e : Entry). slice_get scripts e.author ≡ None) (sym v.is_x) none) (maker v.front v.back v.x v.whole)))
      where
        engines_only : (front : List Noted) (noted : Noted) (event : Event) → drives.IsRight answer_of problems_of (journal_of front) event noted.found → IsServants scripts seen_at (map seen_entry front) event
        engines_only front noted (Accept t client tag call) r = absurd r
        engines_only front noted (Cancel t) r = absurd r
        engines_only front noted Close r = absurd r
        engines_only front noted (Settle t m) r = tt
        engines_only front noted (Checked file) r = tt

        behind_all : (front more : List Noted) → front ≡ before ++ more → (c : ℕ) (script : Script) → slice_get scripts c ≡ Some script → IsPrefix (seen_at c) (map seen_entry front)
        behind_all front more is c script there =
            let s = is_seen c script there in
            let upto = (played_by c script s.is).upto in
            let bounded = (played_by c script s.is).bounded in
            subst (λ (es : List Entry). IsPrefix es (map seen_entry front)) (sym s.same) (
              map seen_entry (bounded.0 ++ more),
              sym (map-append seen_entry upto (bounded.0 ++ more)) ∙ ap (map seen_entry) (sym (append_assoc upto bounded.0 more) ∙ ap (λ es. es ++ more) bounded.1 ∙ sym is),
            )

        closer_only : (front more : List Noted) (noted : Noted) (event : Event) → front ≡ before ++ more → IsShutting front noted event → IsServants scripts seen_at (map seen_entry front) event
        closer_only front more noted (Accept t client tag call) is r = absurd r
        closer_only front more noted (Cancel t) is r = absurd r
        closer_only front more noted Close is r = behind_all front more is
        closer_only front more noted (Settle t m) is r = tt
        closer_only front more noted (Checked file) is r = tt

        by : (front : List Noted) (noted : Noted) → slice_get scripts noted.author ≡ None → Maker front noted → IsServants scripts seen_at (map seen_entry front) noted.event
        by front noted none (Engines right) = engines_only front noted noted.event right
        by front noted none (Clients script there right) = let wrong : None ≡ Some script = sym none ∙ there in cc
        by front noted none (Closers more is shuts) = closer_only front more noted noted.event is shuts

    module _ (answered : (c : ℕ) (client : Played B) → slice_get all c ≡ Some client → (answers : List Answer) × (client.answers ≡ Some answers)) where
      one_played : (c : ℕ) (script : Script) → slice_get scripts c ≡ Some script → HasPlayedScript c script.lines (seen_at c) (map seen_entry history)
      one_played c script there =
          let s = is_seen c script there in
          let played = played_by c script s.is in
          let given = answered c s.is.client s.is.there in
          subst (λ (es : List Entry). HasPlayedScript c script.lines es (map seen_entry history)) (sym s.same)
          (record {
            runs = subst (λ (o : Script). Runs c o.lines (map seen_entry played.upto)) s.is.plays played.runs;
            ended = subst (λ (o : Script). runs.HasEnded c o.lines (map seen_entry played.upto)) s.is.plays
                (subst (λ (o : Option (List Answer)). IfSome o (λ answers. runs.HasEnded c s.is.client.script.lines (map seen_entry played.upto))) given.1 played.ended);
            later = own_later c s.is.client s.is.there;
          })

      pub all_played : AllPlayed scripts seen_at (map seen_entry history)
      all_played = record { clients = one_played; servants = servants }

    -- ---- the answers of settlings

    -- the answer of each settling is the reply where it stands
    pub settled_with : (front back : List Noted) (entry : Noted) (t : ℕ) (m : Mark) → history ≡ front ++ entry ∷ back → entry.event ≡ Settle t m
        → found_answer entry.found ≡ Some (reply answer_of (journal_of front) t m)
    settled_with front back entry t m at is = by (maker front back entry at)
      where
        shut_reply : is_closed (journal_of front) ≡ true → Some answer.Closed ≡ Some (reply answer_of (journal_of front) t m)
        shut_reply shut = ap (λ b. Some (unwrap_or (cond b (Some answer.Closed) (cond (is_cancelled (journal_of front) t) (Some answer.Cancelled) (by_mark m))) (found answer_of (after (journal_of front)) (call_of (journal_of front) t)))) (sym shut)

        by : Maker front entry → found_answer entry.found ≡ Some (reply answer_of (journal_of front) t m)
        by (Engines right) = ap found_answer (subst (λ (e : Event). drives.IsRight answer_of problems_of (journal_of front) e entry.found) is right)
        by (Clients script there right) =
            let r = subst (λ (e : Event). runs.IsRight entry.author script.lines (map seen_entry front) e (found_answer entry.found)) is right in
            r.1 ∙ shut_reply (subst (λ js. is_closed js ≡ true) (seen_journal front) r.0)
        by (Closers more behind shuts) =
            let r = subst (λ (e : Event). IsShutting front entry e) is shuts in
            r.1 ∙ shut_reply r.0
