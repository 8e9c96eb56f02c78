-- What a desk tells its engine's pass, as the driver sees it.
use Rattle.std.proofs.Common.{◌≡◌, ◌⊎◌, inl, inr, ℕ, ◌<◌, ◌==◌, ◌||◌, Bool, true, false, true≢false, IsTrue, if◌then◌else◌, List, [], ◌∷◌, ◌++◌, map, Option, Some, None, Result, Ok, Err, refl, sym, ap, ◌∙◌, subst, append-nil}
use Rattle.std.specs.List.{find, list_any}
use Rattle.std.proofs.lemmas.List.{map-append}
use Rattle.pc_terms.specs.declared.errors.NoMemory.{NoMemory as WithoutMemory}
use Rattle.pc_terms.specs.declared.problems.Problem.{Problem}
use Rattle.ask_history.specs.Sources.{Bytes}
use Rattle.ask_history.specs.Journal.{accepted, is_cancelled, is_closed, reply, taking_effect}
use Rattle.ask_history.specs.Legal.{is_legal}
use Rattle.ask_history.specs.declared.answers.Answer.{Answer}
use Rattle.ask_history.specs.declared.calls.Call.{Call}
use Rattle.ask_history.specs.declared.engine.Effect.{Effect}
use Rattle.ask_history.specs.declared.events.Event.{Event}
use Rattle.ask_history.proofs.Walks.{is_legal-prefix}
use Rattle.journal_laws.specs.Others.{are_others}
use Rattle.work_queue.specs.Queue.{mark_of, effect_of}
use Rattle.counting_word.specs.declared.view.Entry.{Entry}
use Rattle.counting_word.specs.declared.view.Name.{Name}
use Rattle.counting_word.specs.declared.view.View.{View}
use Rattle.counting_word.specs.History.{journal_of, entries_by, engine_number}
use Rattle.counting_word.proofs.Counting.{journal_of-append}
use Rattle.ask_desk.specs.Driving as desk
use Rattle.ask_desk.specs.declared.driving.News.{News as DeskNews}
use Rattle.ask_desk.specs.declared.driving.CheckNoted.{CheckNoted as DeskNoted}
use Rattle.ask_desk.specs.declared.driving.CheckNoted.TheVariants as desk_noted
use Rattle.engine_driver.specs.History as drivers
use Rattle.engine_driver.specs.Board as board
use Rattle.engine_driver.specs.declared.board.News.{News}
use Rattle.engine_driver.specs.declared.board.Posted.{Posted}
use Rattle.engine_driver.specs.declared.board.CheckNoted.{CheckNoted}
use Rattle.engine_driver.specs.declared.board.CheckNoted.TheVariants as noted
use Rattle.desk_driver.specs.Seen.{seen_entry, seen_history, settling_of, posted_of, noted_of}

-- ---- histories

pub journal_seen : (history : List Entry) → drivers.journal_of (seen_history history) ≡ journal_of history
journal_seen [] = refl
journal_seen (entry ∷ history) = ap (λ (js : List Event). entry.event ∷ js) (journal_seen history)

pub seen-append : (front back : List Entry) → seen_history (front ++ back) ≡ seen_history front ++ seen_history back
seen-append front back = map-append seen_entry front back

none_mine : (entries : List Entry) → entries_by engine_number entries ≡ [] → list_any (λ (entry : drivers.Entry). entry.mine) (seen_history entries) ≡ false
none_mine [] h = refl
none_mine (entry ∷ entries) h = by (entry.author == engine_number) h (none_mine entries)
  where
    by : (b : Bool) → (if b then entry ∷ entries_by engine_number entries else entries_by engine_number entries) ≡ []
        → (entries_by engine_number entries ≡ [] → list_any (λ (entry : drivers.Entry). entry.mine) (seen_history entries) ≡ false)
        → (b || list_any (λ (entry : drivers.Entry). entry.mine) (seen_history entries)) ≡ false
    by true k later = cc
    by false k later = later k

pub later_seen : (old now : List Entry) → desk.IsLater old now → IsTrue (is_legal (journal_of now)) → drivers.IsLater (seen_history old) (seen_history now)
later_seen old now later legal = record {
  others = seen_history later.others;
  behind = ap seen_history later.behind ∙ seen-append old later.others;
  theirs = none_mine later.others later.theirs;
  kinds = (λ j. are_others (is_closed (journal_seen old j)) (journal_seen later.others j)) ∙ later.kinds;
  legal = ap is_legal (journal_seen now) ∙ legal;
}

pub same_seen : (history : List Entry) → IsTrue (is_legal (journal_of history)) → drivers.IsLater (seen_history history) (seen_history history)
same_seen history legal =
    later_seen history history (record { others = []; behind = sym (append-nil history); theirs = refl; kinds = refl }) legal

-- ---- looks

module _ (old new : View) where
  looked : desk.Works old new.seen [] new → drivers.IsLater (seen_history old.seen) (seen_history new.seen)
  looked works = later_seen old.seen new.seen works.later works.legal

  pub looks_seen : (news : DeskNews) (cancelled : Option ℕ) (opened : List ℕ) (told : News) → desk.Looks old new news
      → cancelled ≡ find (is_cancelled (journal_of new.seen)) opened → told ≡ record { accepted = news.accepted; is_closed = news.is_closed; cancelled = cancelled }
      → board.Looks (seen_history old.seen) (seen_history new.seen) opened told
  looks_seen news cancelled opened told looks found is = record {
    later = looked looks.works;
    accepted_calls = ap (λ (n : News). n.accepted) is ∙ looks.accepted_calls ∙ ap accepted (sym (journal_seen new.seen));
    shut = ap (λ (n : News). n.is_closed) is ∙ looks.shut ∙ ap is_closed (sym (journal_seen new.seen));
    cancelled = ap (λ (n : News). n.cancelled) is ∙ found ∙ ap (λ js. find (is_cancelled js) opened) (sym (journal_seen new.seen));
  }

  pub awaits_seen : (news : DeskNews) (count : ℕ) → desk.Looks old new news → (news.is_closed ≡ true) ⊎ (count < news.accepted)
      → board.Awaits (seen_history old.seen) (seen_history new.seen) count
  awaits_seen news count looks more = record { later = looked looks.works; more = by more }
    where
      by : (news.is_closed ≡ true) ⊎ (count < news.accepted)
          → (is_closed (drivers.journal_of (seen_history new.seen)) ≡ true) ⊎ (count < accepted (drivers.journal_of (seen_history new.seen)))
      by (inl shut) = inl (ap is_closed (journal_seen new.seen) ∙ sym looks.shut ∙ shut)
      by (inr less) = inr (subst (λ n. count < n) (looks.accepted_calls ∙ ap accepted (sym (journal_seen new.seen))) less)

  pub finds_later : (ticket : ℕ) (found : Result (Option Call) WithoutMemory) → desk.Finds old new ticket found → drivers.IsLater (seen_history old.seen) (seen_history new.seen)
  finds_later ticket found finds = looked finds.works

-- what the driver is told of what was found of a ticket
posted_seen : (journal : List Event) (ticket : ℕ) (found : Result (Option Call) WithoutMemory) → desk.IsPosted journal ticket found → board.Finds journal ticket (posted_of found)
posted_seen journal ticket (Ok (Some call)) finds = finds
posted_seen journal ticket (Ok None) finds = finds
posted_seen journal ticket (Err refused) finds = finds

pub finds_seen : (new : List Entry) (ticket : ℕ) (found : Result (Option Call) WithoutMemory) (told : Posted) → told ≡ posted_of found → desk.IsPosted (journal_of new) ticket found
    → board.Finds (drivers.journal_of (seen_history new)) ticket told
finds_seen new ticket found told is finds =
    subst (board.Finds (drivers.journal_of (seen_history new)) ticket) (sym is)
    (subst (λ js. board.Finds js ticket (posted_of found)) (sym (journal_seen new)) (posted_seen (journal_of new) ticket found finds))

-- ---- what the engine's pass writes

-- what stands before what it wrote is legal
legal_before : (old new : View) (before entries : List Entry) → desk.Works old before entries new → IsTrue (is_legal (journal_of before))
legal_before old new before entries works =
    is_legal-prefix (journal_of before) (journal_of entries)
    (subst (λ js. IsTrue (is_legal js)) (ap journal_of works.seen ∙ journal_of-append before entries) works.legal)

pub later_before : (old new : View) (before entries : List Entry) → desk.Works old before entries new → drivers.IsLater (seen_history old.seen) (seen_history before)
later_before old new before entries works = later_seen old.seen before works.later (legal_before old new before entries works)

settled_seen : (name : Name) (journal : List Event) (ticket : ℕ) (found : Option Answer) → name.number ≡ Some engine_number
    → seen_entry (desk.settled_as name journal ticket (settling_of found)) ≡ board.settled_as journal ticket found
settled_seen name journal ticket (Some answer) engine =
    ap (λ (n : Option ℕ). seen_entry (desk.settled_as (record name { number = n }) journal ticket (settling_of (Some answer)))) engine
settled_seen name journal ticket None engine =
    ap (λ (n : Option ℕ). seen_entry (desk.settled_as (record name { number = n }) journal ticket (settling_of None))) engine

settling_seen : (name : Name) (journal : List Event) (ticket : ℕ) (found : Option Answer) → name.number ≡ Some engine_number
    → seen_history (desk.settling name journal ticket (settling_of found)) ≡ board.settling journal ticket found
settling_seen name journal ticket found engine = by (is_closed journal)
  where
    by : (b : Bool) → seen_history (if b then [] else desk.settled_as name journal ticket (settling_of found) ∷ []) ≡ (if b then [] else board.settled_as journal ticket found ∷ [])
    by true = refl
    by false = ap (λ (e : drivers.Entry). e ∷ []) (settled_seen name journal ticket found engine)

effects_same : (journal : List Event) (ticket : ℕ) (found : Option Answer)
    → effect_of (taking_effect journal ticket (mark_of (settling_of found))) ≡ board.effect_of (taking_effect journal ticket (board.mark_of found))
effects_same journal ticket (Some answer) = by (taking_effect journal ticket (board.mark_of (Some answer)))
  where
    by : (o : Option Call) → effect_of o ≡ board.effect_of o
    by None = refl
    by (Some call) = refl
effects_same journal ticket None = by (taking_effect journal ticket (board.mark_of None))
  where
    by : (o : Option Call) → effect_of o ≡ board.effect_of o
    by None = refl
    by (Some call) = refl

pub settles_seen : (old new : View) (ticket : ℕ) (found : Option Answer) (effect : Effect) → old.name.number ≡ Some engine_number → desk.Settles old new ticket (settling_of found) effect
    → board.Settles (seen_history old.seen) (seen_history new.seen) ticket found effect
settles_seen old new ticket found effect engine settles =
    let before : List Entry = settles.before in
    let written : List Entry = desk.settling old.name (journal_of before) ticket (settling_of found) in
    record {
      before = seen_history before;
      later = later_before old new before written settles.works;
      written = ap seen_history settles.works.seen ∙ seen-append before written
          ∙ ap (λ es. seen_history before ++ es) (settling_seen old.name (journal_of before) ticket found engine ∙ ap (λ js. board.settling js ticket found) (sym (journal_seen before)));
      becomes = settles.becomes ∙ effects_same (journal_of before) ticket found ∙ ap (λ js. board.effect_of (taking_effect js ticket (board.mark_of found))) (sym (journal_seen before));
      legal = ap is_legal (journal_seen new.seen) ∙ settles.works.legal;
    }

checking_seen : (name : Name) (file : Bytes) (problems : List Problem) → name.number ≡ Some engine_number → seen_entry (desk.checking name file problems) ≡ board.checking file problems
checking_seen name file problems engine = ap (λ (n : Option ℕ). seen_entry (desk.checking (record name { number = n }) file problems)) engine

module _ (old new : View) (file : Bytes) (problems : List Problem) (engine : old.name.number ≡ Some engine_number) where
  wrote : (before entries : List Entry) (result : CheckNoted) → desk.Works old before entries new → seen_history entries ≡ board.noting file problems result
      → (result ≡ noted.ShutDown → is_closed (journal_of before) ≡ true) → board.Checks (seen_history old.seen) (seen_history new.seen) file problems result
  wrote before entries result works same shut = record {
    before = seen_history before;
    later = later_before old new before entries works;
    written = ap seen_history works.seen ∙ seen-append before entries ∙ ap (λ es. seen_history before ++ es) same;
    shut = λ e. ap is_closed (journal_seen before) ∙ shut e;
    legal = ap is_legal (journal_seen new.seen) ∙ works.legal;
  }

  pub checks_seen : (result : DeskNoted) → desk.Checks old new file problems result → board.Checks (seen_history old.seen) (seen_history new.seen) file problems (noted_of result)
  checks_seen desk_noted.Noted checks =
      wrote checks.0 (desk.checking old.name file problems ∷ []) noted.Noted checks.1.1 (ap (λ (e : drivers.Entry). e ∷ []) (checking_seen old.name file problems engine)) (λ e. cc)
  checks_seen desk_noted.ShutDown checks = wrote checks.0 [] noted.ShutDown checks.1.1 refl (λ e. checks.1.0)
  checks_seen desk_noted.NoMemory checks = wrote checks.0 [] noted.NoMemory checks.1 refl (λ e. cc)
