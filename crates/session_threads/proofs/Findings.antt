-- What the engine's checks found is what the checks of the journal find.
use Rattle.std.proofs.Common.{◌≡◌, Bool, true, false, true≢false, not, ◌||◌, ◌==◌, IsTrue, List, [], ◌∷◌, ◌++◌, refl, sym, ap, ◌∙◌, subst, append_assoc, append-nil, cond}
use Rattle.std.proofs.lemmas.Bool.{and_parts, eqb-true}
use Rattle.pc_terms.specs.declared.problems.Problem.{Problem}
use Rattle.ask_history.specs.Sources.{Bytes, Sources}
use Rattle.ask_history.specs.Journal.{findings, finding_step, is_close, is_closed}
use Rattle.ask_history.specs.Legal.{may_follow, is_legal}
use Rattle.ask_history.specs.Walk.{walk}
use Rattle.ask_history.specs.declared.answers.Answer.{Answer}
use Rattle.ask_history.specs.declared.calls.Call.{Call}
use Rattle.ask_history.specs.declared.events.Event.{Event}
use Rattle.ask_history.specs.declared.events.Event.TheVariants.{Accept, Cancel, Close, Settle, Checked}
use Rattle.ask_history.proofs.Walks.{along-push}
use Rattle.journal_laws.proofs.Tickets.{may_first}
use Rattle.std.proofs.lemmas.List.Folds.{list_any-append}
use Rattle.report_hub.specs.Telling.{Finding}
use Rattle.counting_word.specs.declared.view.Entry.{Entry}
use Rattle.counting_word.specs.declared.view.Found.{Found}
use Rattle.counting_word.specs.History.{journal_of, engine_number}
use Rattle.counting_word.proofs.Counting.{journal_of-append}
use Rattle.ask_desk.specs.Answers.{may_make, is_rightful}
use Rattle.engine_driver.specs.Runs.{finding_of, my_finding}
use Rattle.desk_driver.specs.Drives.{IsRight, AreRight, findings_in}
use Rattle.desk_driver.specs.Seen.{seen_entry, found_problems}

module _ (answer_of : Sources → Call → Answer) (problems_of : Sources → Bytes → List Problem) where
  -- one entry
  one_finding : (before : List Entry) (entry : Entry) (acc : List Finding) (closed : Bool) → IsTrue (may_make closed entry.event entry.author)
      → (entry.author ≡ engine_number → IsRight answer_of problems_of (journal_of before) entry.event entry.found)
      → finding_step problems_of (journal_of before) acc entry.event ≡ acc ++ my_finding (seen_entry entry)
  one_finding before entry acc closed may right = by entry.event may right
    where
      none : (b : Bool) → acc ≡ acc ++ cond b [] []
      none true = sym (append-nil acc)
      none false = sym (append-nil acc)

      by : (event : Event) → IsTrue (may_make closed event entry.author) → (entry.author ≡ engine_number → IsRight answer_of problems_of (journal_of before) event entry.found)
          → finding_step problems_of (journal_of before) acc event ≡ acc ++ cond (entry.author == engine_number) (finding_of event (found_problems entry.found)) []
      by (Accept t client tag call) m r = none (entry.author == engine_number)
      by (Cancel t) m r = none (entry.author == engine_number)
      by Close m r = none (entry.author == engine_number)
      by (Settle t mark) m r = none (entry.author == engine_number)
      by (Checked file) m r =
          ap (λ (found : Found). acc ++ finding_of (Checked file) (found_problems found)) (sym (r (eqb-true entry.author engine_number m)))
          ∙ ap (λ b. acc ++ cond b (finding_of (Checked file) (found_problems entry.found)) []) (sym m)

  from_here : (before entries : List Entry) (acc : List Finding) (closed : Bool) → IsTrue (is_rightful closed entries) → AreRight answer_of problems_of before entries
      → walk (finding_step problems_of) acc (journal_of before) (journal_of entries) ≡ acc ++ findings_in entries
  from_here before [] acc closed rightful right = sym (append-nil acc)
  from_here before (entry ∷ entries) acc closed rightful right =
      let parts = and_parts (may_make closed entry.event entry.author) (is_rightful (closed || is_close entry.event) entries) rightful in
      ap (λ state. walk (finding_step problems_of) state (journal_of before ++ entry.event ∷ []) (journal_of entries)) (one_finding before entry acc closed parts.0 right.0)
      ∙ ap (λ front. walk (finding_step problems_of) (acc ++ my_finding (seen_entry entry)) front (journal_of entries)) (sym (journal_of-append before (entry ∷ [])))
      ∙ from_here (before ++ entry ∷ []) entries (acc ++ my_finding (seen_entry entry)) (closed || is_close entry.event) parts.1 right.1
      ∙ append_assoc acc (my_finding (seen_entry entry)) (findings_in entries)

  -- behind the shutdown no check stands
  none_behind : (journal more : List Event) → is_closed journal ≡ true → IsTrue (is_legal (journal ++ more)) → findings problems_of (journal ++ more) ≡ findings problems_of journal
  none_behind journal [] shut legal = ap (findings problems_of) (append-nil journal)
  none_behind journal (event ∷ more) shut legal =
      let first = may_first journal event more legal in
      let same : (journal ++ event ∷ []) ++ more ≡ journal ++ event ∷ more = append_assoc journal (event ∷ []) more in
      ap (findings problems_of) (sym same)
      ∙ none_behind (journal ++ event ∷ []) more (list_any-append is_close journal (event ∷ []) ∙ ap (λ b. b || (is_close event || false)) shut)
      (subst (λ js. IsTrue (is_legal js)) (sym same) legal)
      ∙ along-push (finding_step problems_of) [] journal event
      ∙ one event first.1
    where
      one : (e : Event) → IsTrue (may_follow journal e) → finding_step problems_of journal (findings problems_of journal) e ≡ findings problems_of journal
      one (Accept t client tag call) may = refl
      one (Cancel t) may = refl
      one Close may = refl
      one (Settle t mark) may = refl
      one (Checked file) may = absurd (true≢false (sym (and_parts _ (not (is_closed journal)) may).1 ∙ ap not shut))

  -- the engine's findings, in all of the history
  pub all_found : (seen more : List Entry) → IsTrue (is_rightful false seen) → AreRight answer_of problems_of [] seen → is_closed (journal_of seen) ≡ true → IsTrue (is_legal (journal_of (seen ++ more)))
      → findings_in seen ≡ findings problems_of (journal_of (seen ++ more))
  all_found seen more rightful right shut legal =
      sym (from_here [] seen [] false rightful right)
      ∙ sym (none_behind (journal_of seen) (journal_of more) shut (subst (λ js. IsTrue (is_legal js)) (journal_of-append seen more) legal))
      ∙ ap (findings problems_of) (sym (journal_of-append seen more))
