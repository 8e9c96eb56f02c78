-- From what the driver made to what the engine's pass did to the desk.
use Rattle.std.proofs.Common.{◌≡◌, ◌==◌, ℕ, true, IsTrue, eq-eqb, List, [], ◌∷◌, ◌++◌, map, Option, Some, None, refl, sym, ap, ◌∙◌, subst}
use Rattle.std.proofs.lemmas.List.{append_cancel_left}
use Rattle.pc_terms.specs.declared.problems.Problem.{Problem}
use Rattle.ask_history.specs.Engine.{EngineState}
use Rattle.ask_history.specs.Sources.{Bytes, Sources}
use Rattle.ask_history.specs.Journal.{after, checked}
use Rattle.ask_history.specs.Legal.{is_legal}
use Rattle.ask_history.specs.declared.answers.Answer.{Answer}
use Rattle.ask_history.specs.declared.calls.Call.{Call}
use Rattle.ask_history.specs.declared.events.Event.{Event}
use Rattle.ask_history.specs.declared.events.Event.TheVariants.{Accept, Cancel, Close, Settle, Checked}
use Rattle.journal_laws.proofs.Others.{others_leave_files}
use Rattle.report_hub.specs.Telling.{Finding}
use Rattle.counting_word.specs.declared.view.Entry.{Entry}
use Rattle.counting_word.specs.declared.view.Found.{Found}
use Rattle.counting_word.specs.declared.view.Found.TheVariants.{Nothing, Answered, Problems}
use Rattle.counting_word.specs.declared.view.View.{View}
use Rattle.counting_word.specs.History.{journal_of, engine_number}
use Rattle.ask_desk.specs.Answers.{found_answer}
use Rattle.ask_desk.specs.Driving.{IsLater}
use Rattle.engine_driver.specs.History as drivers
use Rattle.engine_driver.specs.Runs as runs
use Rattle.engine_driver.specs.Serving.{CanDrive, IsServed, has_file}
use Rattle.engine_driver.proofs.Later.{later_journal, later_sources}
use Rattle.engine_driver.proofs.Additions.{made_behind}
use Rattle.desk_driver.specs.Seen.{seen_entry, seen_history, found_problems}
use Rattle.desk_driver.specs.Serves.{Serves}
use Rattle.desk_driver.specs.Drives.{findings_in, IsRight, AreRight, Drives}
use Rattle.desk_driver.proofs.Seen.{journal_seen, seen-append, later_seen}

-- ---- the beginning

-- an engine that can be driven from what the pass had seen can be driven from what it sees at its first look
pub can_later : (old now : List Entry) (state : EngineState) → IsLater old now → IsTrue (is_legal (journal_of now)) → CanDrive (journal_of old) state
    → CanDrive (drivers.journal_of (seen_history now)) state
can_later old now state later legal can =
    let seen : drivers.IsLater (seen_history old) (seen_history now) = later_seen old now later legal in
    let files : checked (drivers.journal_of (seen_history now)) ≡ checked (journal_of old) =
    ap checked (later_journal (seen_history old) (seen_history now) seen)
    ∙ others_leave_files (drivers.journal_of (seen_history old)) (drivers.journal_of seen.others) seen.kinds ∙ ap checked (journal_seen old) in
    record {
      sources = can.sources ∙ ap after (sym (journal_seen old)) ∙ sym (later_sources (seen_history old) (seen_history now) seen);
      asks = can.asks;
      staged = can.staged;
      files = λ file h. can.files file (sym (ap (λ fs. has_file fs file) files) ∙ h);
    }

pub served_seen : (new last : View) (state : EngineState) → new ≡ last → IsServed (drivers.journal_of (seen_history last.seen)) state → IsServed (journal_of new.seen) state
served_seen new last state is served = subst (λ js. IsServed js state) (journal_seen last.seen ∙ ap (λ (v : View). journal_of v.seen) (sym is)) served

-- ---- the entries

module _ (answer_of : Sources → Call → Answer) (problems_of : Sources → Bytes → List Problem) where
  right_found : (journal : List Event) (event : Event) (found : Found) → runs.IsRight answer_of problems_of journal event (found_answer found) (found_problems found)
      → IsRight answer_of problems_of journal event found
  right_found journal (Settle t m) Nothing h = cc
  right_found journal (Settle t m) (Answered answer) h = cc
  right_found journal (Settle t m) (Problems problems) h = cc
  right_found journal (Checked file) Nothing h = cc
  right_found journal (Checked file) (Answered answer) h = cc
  right_found journal (Checked file) (Problems problems) h = cc
  right_found journal (Accept t client tag call) found h = h
  right_found journal (Cancel t) found h = h
  right_found journal Close found h = h

  right_seen : (before entries : List Entry) → runs.AreRight answer_of problems_of (seen_history before) (seen_history entries) → AreRight answer_of problems_of before entries
  right_seen before [] h = tt
  right_seen before (entry ∷ entries) h = (
    (λ mine. right_found (journal_of before) entry.event entry.found
        (subst (λ js. runs.IsRight answer_of problems_of js entry.event (found_answer entry.found) (found_problems entry.found)) (journal_seen before) (h.0 (eq-eqb entry.author engine_number mine)))),
    right_seen (before ++ entry ∷ []) entries
        (subst (λ es. runs.AreRight answer_of problems_of es (seen_history entries)) (sym (seen-append before (entry ∷ []))) h.1),
  )

  drives_since : (Told : List Finding → Type 0) (old new : View) (mid : List Entry) (found found' : List (List Problem)) → IsLater old.seen mid → IsTrue (is_legal (journal_of mid))
      → Serves old new → runs.Made answer_of problems_of Told (seen_history mid) (seen_history new.seen) found found' → Drives answer_of problems_of Told old new found found'
  drives_since Told old new mid found found' later legal serves made =
      let whole : runs.Made answer_of problems_of Told (seen_history old.seen) (seen_history new.seen) found found' =
      made_behind answer_of problems_of Told (seen_history old.seen) (seen_history mid) (seen_history new.seen) found found' (later_seen old.seen mid later legal) made in
      let same : whole.adds.entries ≡ seen_history serves.entries =
      append_cancel_left (seen_history old.seen) whole.adds.entries (seen_history serves.entries)
      (sym whole.adds.behind ∙ ap seen_history serves.behind ∙ seen-append old.seen serves.entries) in
      let findings : whole.findings ≡ findings_in serves.entries = sym whole.adds.checks ∙ ap runs.my_findings same in
      record {
        serves = serves;
        right = right_seen old.seen serves.entries (subst (runs.AreRight answer_of problems_of (seen_history old.seen)) same whole.adds.right);
        told = subst Told findings whole.told;
        grew = whole.grew ∙ ap (λ (fs : List Finding). found ++ map (λ (finding : Finding). finding.1) fs) findings;
      }

  -- the same, for the pass that is given back
  pub drives_seen : (Told : List Finding → Type 0) (old begun new last : View) (mid : List Entry) (found found' : List (List Problem)) → old ≡ begun → new ≡ last
      → IsLater old.seen mid → IsTrue (is_legal (journal_of mid)) → Serves begun new
      → runs.Made answer_of problems_of Told (seen_history mid) (seen_history last.seen) found found' → Drives answer_of problems_of Told old new found found'
  drives_seen Told old begun new last mid found found' was is later legal serves made =
      drives_since Told old new mid found found' later legal (subst (λ (v : View). Serves v new) (sym was) serves)
      (subst (λ (v : View). runs.Made answer_of problems_of Told (seen_history mid) (seen_history v.seen) found found') (sym is) made)
