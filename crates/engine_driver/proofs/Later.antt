-- What stays where others went on with the history.
use Rattle.std.proofs.Common.{◌≡◌, ℕ, ◌<◌, ◌≤◌, true, false, cond, IsTrue, List, [], ◌∷◌, ◌++◌, sym, ap, ◌∙◌, subst, arith}
use Rattle.std.specs.List.{AllByRecursion}
use Rattle.std.proofs.lemmas.List.{map-append}
use Rattle.std.proofs.lemmas.List.Sums.{sum_by-append}
use Rattle.ask_history.specs.Engine.{EngineState}
use Rattle.ask_history.specs.Journal.{accepted, is_accept, after, is_closed}
use Rattle.ask_history.specs.Legal.{is_legal}
use Rattle.ask_history.specs.declared.calls.Call.{Call}
use Rattle.ask_history.specs.declared.events.Event.{Event}
use Rattle.journal_laws.specs.Stays.{Stays}
use Rattle.journal_laws.proofs.Others.{others_leave_sources, others_stay, closed-further}
use Rattle.engine_driver.specs.History.{Entry, journal_of, IsLater}
use Rattle.engine_driver.specs.Serving.{has_file, IsAsked, Serves, Drives}

pub journal_of-append : (front back : List Entry) → journal_of (front ++ back) ≡ journal_of front ++ journal_of back
journal_of-append front back = map-append (λ (entry : Entry). entry.event) front back

-- what holds of each element, where it gives something else of each
pub all_so : {X : Type 0} (P Q : X → Type 0) (xs : List X) → ((x : X) → P x → Q x) → AllByRecursion P xs → AllByRecursion Q xs
all_so P Q [] f h = tt
all_so P Q (x ∷ xs) f h = (f x h.0, all_so P Q xs f h.1)

module _ (old now : List Entry) (later : IsLater old now) where
  pub later_journal : journal_of now ≡ journal_of old ++ journal_of later.others
  later_journal = ap journal_of later.behind ∙ journal_of-append old later.others

  pub later_sources : after (journal_of now) ≡ after (journal_of old)
  later_sources = ap after later_journal ∙ others_leave_sources (journal_of old) (journal_of later.others) later.kinds

  pub was_open : is_closed (journal_of now) ≡ false → is_closed (journal_of old) ≡ false
  was_open open_ = closed-further (journal_of old) (journal_of later.others) (sym (ap is_closed later_journal) ∙ open_)

  pub later_stays : is_closed (journal_of now) ≡ false → Stays (journal_of old) (journal_of now)
  later_stays open_ =
      subst (Stays (journal_of old)) (sym later_journal)
      (others_stay (journal_of old) (journal_of later.others) (subst (λ js. IsTrue (is_legal js)) later_journal later.legal) later.kinds (sym (ap is_closed later_journal) ∙ open_))

accepted-append : (front back : List Event) → accepted front ≤ accepted (front ++ back)
accepted-append front back = omega (arith, sum_by-append (λ (e : Event). cond (is_accept e) 1 0) front back)

pub accepted_further : (old now : List Entry) → IsLater old now → (t : ℕ) → t < accepted (journal_of old) → t < accepted (journal_of now)
accepted_further old now later t h =
    let more = accepted-append (journal_of old) (journal_of later.others) in
    let same : accepted (journal_of now) ≡ accepted (journal_of old ++ journal_of later.others) = ap accepted (later_journal old now later) in
    omega arith

pub asked_stays : (before now : List Event) (next : ℕ) (ask : ℕ × Call) → Stays before now → IsAsked before next ask → IsAsked now next ask
asked_stays before now next ask stays asked = record {
  fed = asked.fed;
  unsettled = stays.settled ask.0 ∙ asked.unsettled;
  called = stays.calls ask.0 ask.1 asked.called;
  asks = asked.asks;
}

pub serves_stays : (before now : List Event) (state : EngineState) (next : ℕ) (opened : List ℕ) → Stays before now → Serves before state next opened → Serves now state next opened
serves_stays before now state next opened stays serves = record {
  within = let m = stays.more in let w = serves.within in omega arith;
  first = stays.next next serves.within serves.first;
  opens = serves.opens;
  asked = all_so (IsAsked before next) (IsAsked now next) state.asks (λ ask h. asked_stays before now next ask stays h) serves.asked;
  files = λ file h. serves.files file (subst (λ files. has_file files file ≡ true) stays.files h);
}

pub drives_later : (old now : List Entry) (state : EngineState) (next : ℕ) (opened : List ℕ) → IsLater old now → Drives (journal_of old) state next opened → Drives (journal_of now) state next opened
drives_later old now state next opened later drives = record {
  legal = later.legal;
  sources = drives.sources ∙ sym (later_sources old now later);
  staged = drives.staged;
  serves = λ open_. serves_stays (journal_of old) (journal_of now) state next opened (later_stays old now later open_) (drives.serves (was_open old now later open_));
}
