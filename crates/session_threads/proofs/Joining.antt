-- Clients that have played, and passes that meet theirs.
use Rattle.std.proofs.Common.{◌≡◌, ◌≤◌, ◌<◌, ℕ, zero, suc, ◌+◌, List, [], ◌∷◌, ◌++◌, length, map, take, drop, get_or, set, slice_get, Option, Some, None, Result, Ok, Err, IfOk, is_some, refl, sym, ap, ◌∙◌, subst, arith, add-one}
use mathlib.Core.List.{IsPrefix}
use Rattle.std.specs.Prelude.{⊤, IfSome, unwrap_or}
use Rattle.std.specs.List.{AllZip}
use Rattle.std.specs.Result.{result_ok}
use Rattle.std.proofs.Math.Seq.{take-append_seam}
use Rattle.std.proofs.lemmas.Option.{slice_get_read}
use Rattle.ask_history.specs.Journal.{is_close}
use Rattle.ask_history.specs.declared.answers.Answer.{Answer}
use Rattle.ask_history.specs.declared.events.Event.{Event}
use Rattle.ask_history.specs.declared.script.Script.{Script}
use Rattle.client_scripts.specs.Runs.{Runs, HasEnded, AreAnswers}
use Rattle.work_queue.proofs.EventIndexes.{list_any-index_of}
use Rattle.counting_word.specs.declared.view.Entry.{Entry}
use Rattle.counting_word.specs.declared.view.Name.{Name}
use Rattle.counting_word.specs.declared.view.View.{View}
use Rattle.counting_word.specs.History.{journal_of}
use Rattle.counting_word.proofs.Beginnings.{begins_itself, begins-trans}
use Rattle.ask_desk.specs.Answers.{callers_find, closing, entries_for}
use Rattle.ask_desk.specs.Facts.{IsPass}
use Rattle.ask_desk.specs.Passes.{Closes}
use Rattle.desk_clients.specs.Seen.{seen_entry, seen_state}
use Rattle.session_threads.specs.Passes.{IsNew, Meeting}
use Rattle.session_threads.specs.Clients.{Each, IsReady, AreReady, HasPlayed, IsMet, HaveMet, scripts_played, scripts_to_play}
use Rattle.session_threads.specs.Ended.{IsShut, HaveEnded, entries_of}
use Rattle.session_threads.specs.declared.clients.Client.{Client}
use Rattle.session_threads.specs.declared.clients.Played.{Played}
use Rattle.session_threads.specs.declared.closing.Ended.{Ended}

-- ---- results

pub if_ok : {A E : Type 0} (P : A → Type 0) (o : Option A) (r : Result A E) → o ≡ result_ok r → IfOk r P → IfSome o P
if_ok P o (Ok x) is holds = subst (λ z. IfSome z P) (sym is) holds
if_ok P o (Err e) is holds = subst (λ z. IfSome z P) (sym is) tt

pub if_some : {A : Type 0} (P Q : A → Type 0) → ((x : A) → P x → Q x) → (o : Option A) → IfSome o P → IfSome o Q
if_some P Q then None holds = tt
if_some P Q then (Some x) holds = then x holds

-- ---- one pass

-- a pass that met nobody
pub met_itself : (view : View) → Meeting view view
met_itself view = record { begins = begins_itself view.seen; name = refl; knows = λ known. known }

pub met_then : (old between new : View) → Meeting old between → Meeting between new → Meeting old new
met_then old between new one other = record {
  begins = begins-trans old.seen between.seen new.seen one.begins other.begins;
  name = other.name ∙ one.name;
  knows = λ known. other.knows (one.knows known);
}

written_by : (name : Name) (number : ℕ) (events : List Event) → unwrap_or name.number 0 ≡ number → entries_for name events ≡ entries_of number events
written_by name number [] is = refl
written_by name number (event ∷ events) is = λ i. record { event = event; author = is i; found = callers_find event } ∷ written_by name number events is i

-- A pass that has shut the session down knows so.
pub is_shut : (old new : View) (index number : ℕ) → Closes old new index → IsPass new number → IsShut new
is_shut old new index number closes is = record {
  knows = is.knows;
  shut = list_any-index_of is_close (journal_of new.seen) ∙ ap is_some closes.index;
  settled = closes.settled;
}

module _ {B : Type 0} where
  -- ---- a client

  -- What a client's pass has seen once it played, where the pass was new and had this number.
  pub has_played : (old : View) (played : Played B) (number other : ℕ) → old.name.number ≡ Some number → IsPass played.pass other → (seen_state played.pass).number ≡ (seen_state old).number
      → Runs (seen_state old).number played.script.lines (map seen_entry played.pass.seen)
      → IfSome played.answers (λ answers. HasEnded (seen_state old).number played.script.lines (map seen_entry played.pass.seen))
      → IfSome played.answers (AreAnswers (seen_state old).number (map seen_entry played.pass.seen)) → HasPlayed played.pass.seen number played
  has_played old played number other named is kept runs ended answered =
      let mine : (seen_state old).number ≡ number = ap (λ o. unwrap_or o 0) named in
      let theirs : other ≡ number = ap (λ o. unwrap_or o 0) (sym is.named) ∙ kept ∙ mine in
      let called : played.pass.name.number ≡ Some number = is.named ∙ ap Some theirs in record {
        named = called;
        knows = is.knows;
        upto = played.pass.seen;
        bounded = begins_itself played.pass.seen;
        begins = begins_itself played.pass.seen;
        own = is.knows.own number called;
        runs = subst (λ n. Runs n played.script.lines (map seen_entry played.pass.seen)) mine runs;
        ended = subst (λ n. IfSome played.answers (λ answers. HasEnded n played.script.lines (map seen_entry played.pass.seen))) mine ended;
        answered = subst (λ n. IfSome played.answers (AreAnswers n (map seen_entry played.pass.seen))) mine answered;
      }

  -- ---- a round of meetings

  -- Of clients so many met a pass that had seen `first` before the round and has now seen `last`; the others are as they were.
  pub MetBelow : List Entry → List Entry → ℕ → List (Played B) → List (Played B) → Type 0
  MetBelow first last n [] [] = ⊤
  MetBelow first last n [] (new ∷ news) = ⊥
  MetBelow first last n (old ∷ olds) [] = ⊥
  MetBelow first last zero (old ∷ olds) (new ∷ news) = (new ≡ old) × MetBelow first last zero olds news
  MetBelow first last (suc n) (old ∷ olds) (new ∷ news) = IsMet first last old new × MetBelow first last n olds news

  pub none_met : (first last : List Entry) (clients : List (Played B)) → MetBelow first last zero clients clients
  unfolding MetBelow
  none_met first last [] = tt
  none_met first last (client ∷ clients) = (refl, none_met first last clients)

  met_later : (first last last' : List Entry) (old new : Played B) → IsPrefix last last' → IsMet first last old new → IsMet first last' old new
  met_later first last last' old new more met = record {
    script = met.script;
    answers = met.answers;
    pass = met.pass;
    knows = met.knows;
    learned = met.learned;
    told = begins-trans old.pass.seen last last' met.told more;
  }

  met_sooner : (first last last' : List Entry) (old new : Played B) → IsPrefix first last → IsMet last last' old new → IsMet first last' old new
  met_sooner first last last' old new more met = record {
    script = met.script;
    answers = met.answers;
    pass = met.pass;
    knows = met.knows;
    learned = begins-trans first last new.pass.seen more met.learned;
    told = met.told;
  }

  still_none : (first last last' : List Entry) (olds news : List (Played B)) → MetBelow first last zero olds news → MetBelow first last' zero olds news
  unfolding MetBelow
  still_none first last last' [] [] below = tt
  still_none first last last' [] (new ∷ news) below = below
  still_none first last last' (old ∷ olds) [] below = below
  still_none first last last' (old ∷ olds) (new ∷ news) below = (below.0, still_none first last last' olds news below.1)

  one_met : (first last last' : List Entry) (n : ℕ) (olds news : List (Played B)) (default client : Played B) → IsPrefix first last → IsPrefix last last' → n < length news
      → MetBelow first last n olds news → IsMet last last' (get_or news n default) client → MetBelow first last' (suc n) olds (set news n client)
  unfolding MetBelow
  one_met first last last' n olds [] default client begins more within below met = absurd (omega arith)
  one_met first last last' n [] (new ∷ news) default client begins more within below met = absurd below
  one_met first last last' zero (old ∷ olds) (new ∷ news) default client begins more within below met = (
    met_sooner first last last' old client begins (subst (λ one. IsMet last last' one client) below.0 met),
    still_none first last last' olds news below.1,
  )
  one_met first last last' (suc n) (old ∷ olds) (new ∷ news) default client begins more within below met = (
    met_later first last last' old new more below.0,
    one_met first last last' n olds news default client begins more (omega arith) below.1 met,
  )

  -- one client more
  pub one_more_met : (first : List Entry) (view view' : View) (n : ℕ) (olds news : List (Played B)) (default client : Played B) → IsPrefix first view.seen → n < length news
      → MetBelow first view.seen n olds news → HaveMet view view' (get_or news n default) client → MetBelow first view'.seen (n + 1) olds (set news n client)
  one_more_met first view view' n olds news default client begins within below met =
      subst (λ k. MetBelow first view'.seen k olds (set news n client)) (sym (add-one n))
      (one_met first view.seen view'.seen n olds news default client begins met.first.begins within below met.second)

  all_below : (first last : List Entry) (n : ℕ) (olds news : List (Played B)) → length news ≤ n → MetBelow first last n olds news → AllZip (IsMet first last) olds news
  unfolding MetBelow
  all_below first last n [] [] past below = tt
  all_below first last n [] (new ∷ news) past below = absurd below
  all_below first last n (old ∷ olds) [] past below = absurd below
  all_below first last zero (old ∷ olds) (new ∷ news) past below = absurd (omega arith)
  all_below first last (suc n) (old ∷ olds) (new ∷ news) past below = (below.0, all_below first last n olds news (omega arith) below.1)

  -- all of them, written over the old ones
  pub all_met : (first last : List Entry) (n room : ℕ) (olds news : List (Played B)) → room ≡ length olds → length news ≡ length olds → length olds ≤ n → MetBelow first last n olds news
      → AllZip (IsMet first last) olds (take room (news ++ drop (length news) olds))
  all_met first last n room olds news is same past below =
      let written : take room (news ++ drop (length news) olds) ≡ news = ap (λ k. take k (news ++ drop (length news) olds)) (is ∙ sym same) ∙ take-append_seam news (drop (length news) olds) in
      subst (AllZip (IsMet first last) olds) (sym written) (all_below first last n olds news (omega (arith, past, same)) below)

  -- ---- clients that played, behind a round

  still_played : (first last : List Entry) (number : ℕ) (old new : Played B) → IsMet first last old new → HasPlayed old.pass.seen number old → HasPlayed last number new
  still_played first last number old new met played = record {
    named = ap (λ (n : Name). n.number) met.pass.name ∙ played.named;
    knows = met.knows;
    upto = played.upto;
    bounded = begins-trans played.upto old.pass.seen last played.bounded met.told;
    begins = begins-trans played.upto old.pass.seen new.pass.seen played.begins met.pass.begins;
    own = ap (λ (n : Name). n.own) met.pass.name ∙ played.own;
    runs = subst (λ (script : Script). Runs number script.lines (map seen_entry played.upto)) (sym met.script) played.runs;
    ended = subst (λ (script : Script). IfSome new.answers (λ answers. HasEnded number script.lines (map seen_entry played.upto))) (sym met.script)
        (subst (λ (o : Option (List Answer)). IfSome o (λ answers. HasEnded number old.script.lines (map seen_entry played.upto))) (sym met.answers) played.ended);
    answered = subst (λ (o : Option (List Answer)). IfSome o (AreAnswers number (map seen_entry played.upto))) (sym met.answers) played.answered;
  }

  -- from a number on
  all_still : (first last : List Entry) (from : ℕ) (olds news : List (Played B)) → AllZip (IsMet first last) olds news
      → ((n : ℕ) (old : Played B) → slice_get olds n ≡ Some old → HasPlayed old.pass.seen (from + n) old) → (n : ℕ) (new : Played B) → slice_get news n ≡ Some new → HasPlayed last (from + n) new
  all_still first last from [] [] met played n new at = cc
  all_still first last from [] (one ∷ news) met played n new at = absurd met
  all_still first last from (old ∷ olds) [] met played n new at = absurd met
  all_still first last from (old ∷ olds) (one ∷ news) met played zero new at =
      let same : one ≡ new = cc in subst (HasPlayed last (from + zero)) same (still_played first last (from + zero) old one met.0 (played zero old refl))
  all_still first last from (old ∷ olds) (one ∷ news) met played (suc n) new at =
      let next : suc from + n ≡ from + suc n = omega arith in
      subst (λ k. HasPlayed last k new) next
      (all_still first last (suc from) olds news met.1 (λ k other there. let after : from + suc k ≡ suc from + k = omega arith in subst (λ j. HasPlayed other.pass.seen j other) after (played (suc k) other there)) n new at)

  pub all_have_played : (first last : List Entry) (olds news : List (Played B)) → AllZip (IsMet first last) olds news → Each (λ number played. HasPlayed played.pass.seen number played) olds → Each (HasPlayed last) news
  all_have_played first last olds news met played number new at =
      let same : (n : ℕ) → n ≡ 0 + n = λ n. omega arith in
      subst (λ k. HasPlayed last k new) (sym (same number))
      (all_still first last 0 olds news met (λ n old there. subst (λ k. HasPlayed old.pass.seen k old) (same n) (played n old there)) number new at)

  pub scripts_stay : (first last : List Entry) (olds news : List (Played B)) → AllZip (IsMet first last) olds news → scripts_played news ≡ scripts_played olds
  scripts_stay first last [] [] met = refl
  scripts_stay first last [] (new ∷ news) met = absurd met
  scripts_stay first last (old ∷ olds) [] met = absurd met
  scripts_stay first last (old ∷ olds) (new ∷ news) met = λ i. met.0.script i ∷ scripts_stay first last olds news met.1 i

  -- ---- the shutdown

  more_played : (bound bound' : List Entry) (number : ℕ) (played : Played B) → IsPrefix bound bound' → HasPlayed bound number played → HasPlayed bound' number played
  more_played bound bound' number played more has = record {
    named = has.named;
    knows = has.knows;
    upto = has.upto;
    bounded = begins-trans has.upto bound bound' has.bounded more;
    begins = has.begins;
    own = has.own;
    runs = has.runs;
    ended = has.ended;
    answered = has.answered;
  }

  -- The closing pass, which was new, has met the clients' passes and then shut the session down.
  pub have_ended : (new between : View) (ended : Ended B) (index number other : ℕ) → IsNew new number → Meeting new between → Closes between ended.closing index → IsPass ended.closing other
      → IfSome ended.clients (λ all. Each (HasPlayed between.seen) all.items) → HaveEnded number ended
  have_ended new between ended index number other is_new meeting closes is played =
      let named : between.name.number ≡ Some number = ap (λ (n : Name). n.number) meeting.name ∙ is_new.named in
      let events : List Event = closing (journal_of closes.before) in
      let entries : entries_for between.name events ≡ entries_of number events = written_by between.name number events (ap (λ o. unwrap_or o 0) named) in
      let unmade : between.name.own ≡ [] = ap (λ (n : Name). n.own) meeting.name ∙ is_new.unmade in record {
        before = closes.before;
        named = closes.writes.moves.number ∙ named;
        seen = closes.writes.seen ∙ ap (λ es. closes.before ++ es) entries;
        own = closes.writes.own ∙ ap (λ own. own ++ entries_for between.name events) unmade ∙ entries;
        shut = is_shut between ended.closing index other closes is;
        played = if_some (λ all. Each (HasPlayed between.seen) all.items) (λ all. Each (HasPlayed closes.before) all.items)
            (λ all each n one at. more_played between.seen closes.before n one closes.writes.begins (each n one at)) ended.clients played;
      }

  -- ---- all clients

  -- the one call of a job, where the clients are ready
  pub ready_at : (clients : List (Client B)) → AreReady clients → (i : ℕ) (client : Client B) → i < length clients → client ≡ get_or clients i client → (number : ℕ) × IsReady number client
  ready_at clients ready i client within is = (i, ready i client (slice_get_read clients (length clients) i client refl within is))

  -- what playing a client gives
  pub record Gives (client : Client B) (played : Played B) : Type 0 where
    pub script : played.script ≡ client.script
    pub has : (number : ℕ) → client.pass.name.number ≡ Some number → HasPlayed played.pass.seen number played

  pub gives_at : (client client' : Client B) (played played' : Played B) → client ≡ client' → played ≡ played' → Gives client played → Gives client' played'
  gives_at client client' played played' one other gives = subst (λ c. Gives c played') one (subst (Gives client) other gives)

  -- Each client gave what playing it gives.
  pub record HaveGiven (clients : List (Client B)) (all : List (Played B)) : Type 0 where
    pub long : length all ≡ length clients
    pub each : (i : ℕ) (client : Client B) (played : Played B) → slice_get clients i ≡ Some client → slice_get all i ≡ Some played → Gives client played

  given_behind : (client : Client B) (clients : List (Client B)) (played : Played B) (all : List (Played B)) → HaveGiven (client ∷ clients) (played ∷ all) → HaveGiven clients all
  given_behind client clients played all given = record { long = let long = given.long in omega (arith, long); each = λ i. given.each (suc i) }

  pub given_scripts : (clients : List (Client B)) (all : List (Played B)) → HaveGiven clients all → scripts_played all ≡ scripts_to_play clients
  given_scripts [] [] given = refl
  given_scripts [] (played ∷ all) given = absurd (let long = given.long in omega (arith, long))
  given_scripts (client ∷ clients) [] given = absurd (let long = given.long in omega (arith, long))
  given_scripts (client ∷ clients) (played ∷ all) given =
      λ i. (given.each 0 client played refl refl).script i ∷ given_scripts clients all (given_behind client clients played all given) i

  client_at : (clients : List (Client B)) (all : List (Played B)) (i : ℕ) (played : Played B) → HaveGiven clients all → slice_get all i ≡ Some played → (client : Client B) × (slice_get clients i ≡ Some client)
  client_at clients [] i played given at = cc
  client_at [] (one ∷ all) i played given at = absurd (let long = given.long in omega (arith, long))
  client_at (client ∷ clients) (one ∷ all) zero played given at = (client, refl)
  client_at (client ∷ clients) (one ∷ all) (suc i) played given at = client_at clients all i played (given_behind client clients one all given) at

  pub given_played : (clients : List (Client B)) (all : List (Played B)) → AreReady clients → HaveGiven clients all → Each (λ number played. HasPlayed played.pass.seen number played) all
  given_played clients all ready given number played at =
      let client = client_at clients all number played given at in
      (given.each number client.0 played client.1 at).has number (ready number client.0 client.1).new.named
