-- A queue stays one where a call is accepted.
use Rattle.std.proofs.Common.{◌≡◌, ℕ, ◌+◌, ◌≤◌, ◌==◌, Bool, true, false, if◌then◌else◌, Option, Some, None, List, [], ◌∷◌, ◌++◌, IsTrue, refl, sym, ap, ◌∙◌, subst, arith}
use Rattle.ask_history.specs.Journal.{accepted, call_of, first_of_two, is_closed}
use Rattle.ask_history.specs.Engine.{HasFileSizes, has_file_names}
use Rattle.ask_history.specs.Legal.{is_legal}
use Rattle.ask_history.specs.declared.calls.Call.{Call}
use Rattle.ask_history.specs.declared.events.Event.{Event}
use Rattle.ask_history.specs.declared.events.Event.TheVariants.{Accept}
use Rattle.ask_history.proofs.Pushes.{accepted-push, call_of-push}
use Rattle.work_queue.specs.declared.usage.Usage.{Usage}
use Rattle.work_queue.specs.declared.tally.Tally.{Tally}
use Rattle.work_queue.specs.declared.queue.Queue.TheInside.{Inside}
use Rattle.work_queue.specs.Reloads.{reloads, reloaded_by}
use Rattle.work_queue.specs.Tally.{IsTally}
use Rattle.work_queue.specs.QueueFacts.{IsQueue}
use Rattle.work_queue.proofs.Queues.{reloads-push, is_closed-push}
use Rattle.work_queue.proofs.Refusals.{IsFree, has_file_sizes}

pub queue-accept : (old : Inside) → IsQueue old → (ticket client tag : ℕ) (call : Call) → IsFree old.limits old.log call → has_file_names call ≡ true → (journal : List Event)
    → journal ≡ old.log ++ Accept ticket client tag call ∷ [] → IsTrue (is_legal journal) → (tally : Tally) → IsTally (reloads old.log ++ reloaded_by call) tally
    → IsQueue (record { log = journal; tally = tally; limits = old.limits; given = old.given })
queue-accept old kept ticket client tag call free named journal is legal tally tallied =
    let event : Event = Accept ticket client tag call in
    let count : accepted journal ≡ accepted old.log + 1 = ap accepted is ∙ accepted-push old.log event in
    let unclosed : is_closed journal ≡ false = ap is_closed is ∙ is_closed-push old.log event refl ∙ free.unclosed in
    let given = kept.given in
    let calls = kept.calls in
    let called : (t : ℕ) → call_of journal t ≡ first_of_two (call_of old.log t) (if ticket == t then Some call else None) =
    λ t. ap (λ js. call_of js t) is ∙ call_of-push old.log event t in
    let left = free.count in
    record {
      legal = legal;
      answered = λ closed t within. cc;
      given = omega arith;
      within = kept.within;
      tally = subst (λ es. IsTally es tally) (sym (ap reloads is ∙ reloads-push old.log event)) tallied;
      sizes = λ t found there. sized t found (call_of old.log t) refl (sym (called t) ∙ there);
      named = λ t found there. names t found (call_of old.log t) refl (sym (called t) ∙ there);
      calls = omega arith;
      text = subst (λ (u : Usage). u.text ≤ old.limits.text) (sym tallied.usage) free.text;
      names = subst (λ (u : Usage). u.names ≤ old.limits.names) (sym tallied.usage) free.names;
      map = subst (λ (u : Usage). u.map ≤ old.limits.map) (sym tallied.usage) free.map;
    }
  where
    sized : (t : ℕ) (found : Call) (o : Option Call) → call_of old.log t ≡ o → first_of_two o (if ticket == t then Some call else None) ≡ Some found → HasFileSizes found
    sized t found (Some earlier) was e = kept.sizes t found (was ∙ e)
    sized t found None was e = by (ticket == t) e
      where
        by : (b : Bool) → (if b then Some call else None) ≡ Some found → HasFileSizes found
        by true e = let same : call ≡ found = cc in subst HasFileSizes same (has_file_sizes old.limits.file kept.within.file call free.small)
        by false e = cc

    names : (t : ℕ) (found : Call) (o : Option Call) → call_of old.log t ≡ o → first_of_two o (if ticket == t then Some call else None) ≡ Some found → has_file_names found ≡ true
    names t found (Some earlier) was e = kept.named t found (was ∙ e)
    names t found None was e = by (ticket == t) e
      where
        by : (b : Bool) → (if b then Some call else None) ≡ Some found → has_file_names found ≡ true
        by true e = let same : call ≡ found = cc in subst (λ c. has_file_names c ≡ true) same named
        by false e = cc
