-- What was found gives the reply, whatever others do first.
use Rattle.std.proofs.Common.{◌≡◌, ℕ, Bool, true, false, true≢false, ◌||◌, is_none, if◌then◌else◌, IsTrue, List, Option, Some, None, unwrap_or, refl, sym, ap, ◌∙◌}
use Rattle.std.proofs.lemmas.List.Folds.{list_any-append}
use Rattle.ask_history.specs.Sources.{Sources, is_mutation}
use Rattle.ask_history.specs.Journal.{after, by_mark, call_of, cancels, first_of_two, forestalled, found, is_cancelled, is_closed}
use Rattle.ask_history.specs.declared.answers.Answer.{Answer}
use Rattle.ask_history.specs.declared.answers.Answer.TheVariants as answer
use Rattle.ask_history.specs.declared.calls.Call.{Call}
use Rattle.ask_history.specs.declared.events.Event.{Event}
use Rattle.ask_history.specs.declared.events.Mark.{Mark}
use Rattle.ask_history.specs.declared.events.Mark.TheVariants as mark
use Rattle.ask_history.proofs.Pushes.{call_of-append}
use Rattle.journal_laws.proofs.Others.{forestalled_reply}
use Rattle.engine_driver.specs.History.{Entry, journal_of, IsLater}
use Rattle.engine_driver.specs.Serving.{IsFound}
use Rattle.engine_driver.proofs.Later.{later_journal, later_sources}

-- out of memory, the answer is forestalled
pub no_memory : (journal : List Event) (t : ℕ) → is_none (forestalled journal t mark.NoMemory) ≡ false
no_memory journal t = by (is_closed journal) (is_cancelled journal t)
  where
    by : (closed cancelled : Bool) → is_none (if closed then Some answer.Closed else (if cancelled then Some answer.Cancelled else by_mark mark.NoMemory)) ≡ false
    by true cancelled = refl
    by false true = refl
    by false false = refl

-- behind a cancel, the answer is forestalled
cancelled_first : (journal : List Event) (t : ℕ) (m : Mark) → IsTrue (is_cancelled journal t) → is_none (forestalled journal t m) ≡ false
cancelled_first journal t m h = by (is_closed journal) (is_cancelled journal t) h
  where
    by : (closed cancelled : Bool) → cancelled ≡ true → is_none (if closed then Some answer.Closed else (if cancelled then Some answer.Cancelled else by_mark m)) ≡ false
    by true cancelled h = refl
    by false true h = refl
    by false false h = absurd (true≢false (sym h))

pub call_later : (old before : List Entry) (t : ℕ) (call : Call) → IsLater old before → call_of (journal_of old) t ≡ Some call → call_of (journal_of before) t ≡ Some call
call_later old before t call later is =
    ap (λ js. call_of js t) (later_journal old before later) ∙ call_of-append (journal_of old) (journal_of later.others) t
    ∙ ap (λ o. first_of_two o (call_of (journal_of later.others) t)) is

module _ (answer_of : Sources → Call → Answer) (old : List Entry) (t : ℕ) where
  pub found_none : IsFound answer_of old t None
  found_none before later = forestalled_reply (λ files call. answer.NoMemory) answer_of (journal_of before) t mark.NoMemory (no_memory (journal_of before) t)

  pub found_cancelled : (value : Answer) → IsTrue (is_cancelled (journal_of old) t) → IsFound answer_of old t (Some value)
  found_cancelled value h before later =
      forestalled_reply (λ files call. value) answer_of (journal_of before) t mark.Done
      (cancelled_first (journal_of before) t mark.Done
      (ap (λ js. is_cancelled js t) (later_journal old before later) ∙ list_any-append (cancels t) (journal_of old) (journal_of later.others)
      ∙ ap (λ b. b || is_cancelled (journal_of later.others) t) h))

  -- the value is what is found for the call over the sources
  pub found_value : (call : Call) (value : Answer) → call_of (journal_of old) t ≡ Some call
      → (if is_mutation call then answer.Done else value) ≡ (if is_mutation call then answer.Done else answer_of (after (journal_of old)) call)
      → IsFound answer_of old t (Some value)
  found_value call value is same before later =
      let there = call_later old before t call later is in
      let files = later_sources old before later in
      let forced : Option Answer = forestalled (journal_of before) t mark.Done in
      ap (λ o. unwrap_or forced (found (λ files call. value) (after (journal_of before)) o)) there
      ∙ ap (λ a. unwrap_or forced a) same
      ∙ ap (λ fs. unwrap_or forced (found answer_of fs (Some call))) (sym files)
      ∙ ap (λ o. unwrap_or forced (found answer_of (after (journal_of before)) o)) (sym there)

  -- a mutation is answered Done
  pub found_done : (call : Call) → call_of (journal_of old) t ≡ Some call → is_mutation call ≡ true → IsFound answer_of old t (Some answer.Done)
  found_done call is mutates =
      found_value call answer.Done is
      (ap (λ b. if b then answer.Done else answer.Done) mutates ∙ sym (ap (λ b. if b then answer.Done else answer_of (after (journal_of old)) call) mutates))

  -- an ask is answered over the sources
  pub found_answer : (call : Call) (value : Answer) → call_of (journal_of old) t ≡ Some call → value ≡ answer_of (after (journal_of old)) call → IsFound answer_of old t (Some value)
  found_answer call value is same = found_value call value is (ap (λ a. if is_mutation call then answer.Done else a) same)
